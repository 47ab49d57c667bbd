-- The lines of a node as one row of groups: what the code keeps, and no public contract names.
use Rattle.std.specs.Prelude.{ℕ, zero, suc, ◌≡◌, ◌≤◌, ◌+◌, ◌-◌, List, [], ◌∷◌, ◌++◌, length, map, take, drop, slice_index_or}
use Rattle.lock_model.specs.declared.limits.TheConstants.{CHAMBERS}
use Rattle.lock_model.specs.declared.group.Group.{Group}

-- the groups of a row from number `start` up to number `end`
abbrev pub part : ℕ → ℕ → List Group → List Group
part start end row = take (end - start) (drop start row)

-- the row from number `start` on, cut into lines at these ends
abbrev pub cut_from : ℕ → List Group → List ℕ → List (List Group)
cut_from start row [] = []
cut_from start row (end ∷ ends) = part start end row ∷ cut_from end row ends

-- the ends don't fall, and the last is the number of groups
abbrev pub IsCutFrom : ℕ → List ℕ → ℕ → Type 0
IsCutFrom start [] n = start ≡ n
IsCutFrom start (end ∷ ends) n = (start ≤ end) × IsCutFrom end ends n

-- a row that is cut into a line for each chamber
pub record IsCutRow (row : List Group) (ends : List ℕ) : Type 0 where
  pub four : length ends ≡ CHAMBERS
  pub cut : IsCutFrom 0 ends (length row)

-- the row that is cut into these lines, and its ends
abbrev pub row_of : List (List Group) → List Group
row_of [] = []
row_of (line ∷ lines) = line ++ row_of lines

abbrev pub ends_from : ℕ → List (List Group) → List ℕ
ends_from start [] = []
ends_from start (line ∷ lines) = (start + length line) ∷ ends_from (start + length line) lines

-- where line c begins, the first at `start`
abbrev pub start_from : ℕ → List ℕ → ℕ → ℕ
start_from start ends c = slice_index_or (start ∷ ends) c 0

-- the ends once line c has a group more
abbrev pub raised : List ℕ → ℕ → List ℕ
raised [] c = []
raised (end ∷ ends) zero = (end + 1) ∷ map (λ e. e + 1) ends
raised (end ∷ ends) (suc c) = end ∷ raised ends c

-- how many groups stand in some lines
abbrev pub groups_held : List (List Group) → ℕ
groups_held [] = 0
groups_held (line ∷ lines) = length line + groups_held lines
