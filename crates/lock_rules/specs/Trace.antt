-- The plans under a node: those whose lines, with the first ships alone, are the node's.
use Rattle.std.specs.Prelude.{ℕ, ◌≡◌, ◌<◌, Bool, List, [], ◌∷◌, length, filter, nat_eq}
use Rattle.std.specs.List.{list_any}
use Rattle.lock_model.specs.declared.instance.Instance.{Instance}
use Rattle.lock_model.specs.declared.group.Group.{Group}
use Rattle.lock_model.specs.declared.plan.Plan.{Plan}
use Rattle.lock_model.specs.declared.way.Way.{Way}
use Rattle.lock_rules.specs.Lines.{groups_of}
use Rattle.lock_rules.specs.Arrival.{first_ships}
use Rattle.lock_rules.specs.Node.{line_at}

-- s is among the ships
abbrev pub has_number : List ℕ → ℕ → Bool
has_number ss s = list_any (λ t. nat_eq t s) ss

-- a group of these ships before a line, none where there are no ships
abbrev pub with_group : Way → List ℕ → List Group → List Group
with_group way [] gs = gs
with_group way (s ∷ ss) gs = record { way = way; ships = s ∷ ss } ∷ gs

-- what is left of a line when only the ships of a test are kept and empty groups are dropped
abbrev pub trace_by : (ℕ → Bool) → List Group → List Group
trace_by test [] = []
trace_by test (g ∷ gs) = with_group g.way (filter test g.ships) (trace_by test gs)

abbrev pub trace_of : List ℕ → List Group → List Group
trace_of kept = trace_by (has_number kept)

-- The plan lies under the node of depth k with these lines: in each chamber its trace is the node's line.
pub record IsUnder (I : Instance) (k : ℕ) (lines : List (List Group)) (P : Plan) : Type 0 where
  pub trace : (c : ℕ) → c < length I.chambers → trace_of (first_ships I k) (groups_of P c) ≡ line_at lines c
