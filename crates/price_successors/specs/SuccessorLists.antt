-- What may come next at each place of a line.
use Rattle.std.specs.Prelude.{ℕ, ◌≡◌, ◌+◌, ◌<◌, ◌⊎◌, List, [], ◌∷◌, ◌++◌, length, All, Contains, slice_index_or}
use Rattle.price_successors.specs.declared.successor.Successor.{Successor}
use Rattle.price_successors.specs.declared.late_list.LateList.{LateList}
use Rattle.price_successors.specs.declared.successor_list.SuccessorList.{SuccessorList}
use Rattle.price_groups.specs.Asks.{LineAsk}
use Rattle.price_successors.specs.Successors.{Leads}
use Rattle.price_successors.specs.LateLists.{list_at, AreListed}

-- of some successors those that may come next at place p
pub record AreFor (p : ℕ) (successors fors : List Successor) : Type 0 where
  pub each : All (Contains successors) fors
  pub whole : (h : Successor) → Contains successors h → (q : ℕ) → Leads h.joins p q → Contains fors h

-- the successor was put behind the others, or it can't come next at place p
abbrev pub IsPutFor : ℕ → Successor → List Successor → List Successor → Type 0
IsPutFor p successor old new = (new ≡ old ++ successor ∷ []) ⊎ (((q : ℕ) → ¬ Leads successor.joins p q) × (new ≡ old))

-- the same late list, of the successors that may come next at place p
pub record IsLateListFor (p : ℕ) (late_list for : LateList) : Type 0 where
  pub from : for.from ≡ late_list.from
  pub successors : AreFor p late_list.successors.items for.successors.items

-- of the first n late lists, each for place p
pub record AreLateListsFor (p : ℕ) (late_lists : List LateList) (n : ℕ) (fors : List LateList) : Type 0 where
  pub count : length fors ≡ n
  pub each : (j : ℕ) (d e : LateList) → j < n → IsLateListFor p (slice_index_or late_lists j d) (slice_index_or fors j e)

-- of successors and late lists, what may come next at place p
pub record IsSuccessorList (successors : List Successor) (late_lists : List LateList) (p : ℕ) (successor_list : SuccessorList) : Type 0 where
  pub successors_for : AreFor p successors successor_list.successors.items
  pub late_lists_for : AreLateListsFor p late_lists (length late_lists) successor_list.late_lists.items

-- the successor lists of the first n places
pub record AreMade (successors : List Successor) (late_lists : List LateList) (n : ℕ) (successor_lists : List SuccessorList) : Type 0 where
  pub count : length successor_lists ≡ n
  pub each : (p : ℕ) (e : SuccessorList) → p < n → IsSuccessorList successors late_lists p (slice_index_or successor_lists p e)

-- the successors that are looked at in a state of a place and a minute
abbrev pub list_of : List SuccessorList → SuccessorList → ℕ → ℕ → List Successor
list_of successor_lists e p minute =
    list_at (slice_index_or successor_lists p e).successors.items (slice_index_or successor_lists p e).late_lists.items minute

-- the successor lists of all places of a line, made of successors that are enough for it
pub record AreSuccessorLists (L : LineAsk) (successor_lists : List SuccessorList) : Type 0 where
  pub successors : List Successor
  pub late_lists : List LateList
  pub listed : AreListed L successors late_lists
  pub made : AreMade successors late_lists (length L.line + 1) successor_lists
