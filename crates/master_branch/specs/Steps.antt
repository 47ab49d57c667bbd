-- What the children of a node do with the ship that they place, as a list of steps.
use Rattle.std.specs.Prelude.{ℕ, suc, ◌≤◌, ◌<◌, ◌≡◌, ◌&&◌, Bool, true, List, [], ◌++◌, length, map, filter, nat_lt, slice_index_or, slice_set, insert}
use Rattle.std.specs.List.{flat_map}
use Rattle.lock_model.specs.Fleet.{ship_at, chamber_at}
use Rattle.lock_model.specs.declared.instance.Instance.{Instance}
use Rattle.lock_model.specs.declared.group.Group.{Group}
use Rattle.lock_model.specs.declared.way.Way.{Way}
use Rattle.lock_model.specs.declared.way.Way.TheVariants.{Up}
use Rattle.lock_rules.specs.Arrival.{numbers_from}
use Rattle.lock_rules.specs.Node.{line_at}
use Rattle.lock_rules.specs.Children.{same_way, with_ship, single}
use Rattle.master_branch.specs.declared.step.Step.{Step}
use Rattle.master_branch.specs.declared.step.Step.TheVariants.{Join, Open}

-- the group at a place of a line
abbrev pub group_in : List Group → ℕ → Group
group_in line place = slice_index_or line place (record { way = Up; ships = [] })

-- a ship of this way may join the group: it has the ship's way and fewer than `most` ships
abbrev pub may_join : ℕ → Way → Group → Bool
may_join most way g = same_way g.way way && nat_lt (length g.ships) most

-- the places of the groups among the first n of a line that a ship may join
abbrev pub places_to_join : ℕ → Way → List Group → ℕ → List ℕ
places_to_join most way line n = filter (λ place. may_join most way (group_in line place)) (numbers_from 0 n)

abbrev pub joins_at : ℕ → Way → ℕ → List Group → List Step
joins_at most way c line = map (λ place. Join c place) (places_to_join most way line (length line))

-- the first n new groups: at place 0, 1, ..
abbrev pub opens_at : ℕ → ℕ → List Step
opens_at c n = map (λ place. Open c place) (numbers_from 0 n)

-- the steps of ship s in chamber c: it joins a group, or stands alone before one or behind the last
abbrev pub steps_at : Instance → ℕ → List (List Group) → ℕ → List Step
steps_at I s lines c =
    joins_at (chamber_at I c).most (ship_at I s).way c (line_at lines c)
    ++ opens_at c (suc (length (line_at lines c)))

-- the steps of ship s, chamber by chamber
abbrev pub steps_by : Instance → ℕ → List (List Group) → List Step
steps_by I s lines = flat_map (steps_at I s lines) (numbers_from 0 (length I.chambers))

-- the line once ship s has joined the group at a place
abbrev pub joined_line : ℕ → List Group → ℕ → List Group
joined_line s line place = slice_set line place (with_ship s (group_in line place))

-- the line once ship s stands alone at a place, before the group that stands there
abbrev pub opened_line : Instance → ℕ → List Group → ℕ → List Group
opened_line I s line place = insert line place (single (ship_at I s).way s)

-- the lines after a step of ship s
abbrev pub lines_after : Instance → ℕ → List (List Group) → Step → List (List Group)
lines_after I s lines (Join c place) = slice_set lines c (joined_line s (line_at lines c) place)
lines_after I s lines (Open c place) = slice_set lines c (opened_line I s (line_at lines c) place)

-- ship s may take the step
abbrev pub IsStep : Instance → ℕ → List (List Group) → Step → Type 0
IsStep I s lines (Join c place) =
    (c < length I.chambers) × (place < length (line_at lines c))
    × (may_join (chamber_at I c).most (ship_at I s).way (group_in (line_at lines c) place) ≡ true)
IsStep I s lines (Open c place) = (c < length I.chambers) × (place ≤ length (line_at lines c))
