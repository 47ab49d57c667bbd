-- What is asked of a node that is closed.
use Rattle.std.specs.Prelude.{ℕ, ◌≤◌, List, Contains}
use Rattle.lock_model.specs.declared.instance.Instance.{Instance}
use Rattle.lock_model.specs.declared.group.Group.{Group}
use Rattle.lock_rules.specs.Arrival.{missing_ships}
use Rattle.lock_rules.specs.Bound.{probe_of}
use Rattle.lock_rules.specs.Throughput.{throughput_of}
use Rattle.closing_rules.specs.declared.grounds.Ground.{Ground}
use Rattle.closing_rules.specs.declared.grounds.Ground.TheVariants as by

-- By why it is closed, of a node of depth k with this bound, against this cost; `Hits` says that the cut of a number hits these
-- lines, `Priced` that a node reaches a cost by the prices of a number, `Swept` that a node is a root whose cost is swept, by the
-- prices of a number.
abbrev pub IsClosedBy :
    Instance → (ℕ → List (List Group) → Type 0) → (ℕ → ℕ → List (List Group) → ℕ → Type 0) → (ℕ → ℕ → ℕ → Type 0)
    → ℕ → ℕ → ℕ → List (List Group) → Ground → Type 0
IsClosedBy I Hits Priced Swept cost bound k lines by.Bound = cost ≤ bound
IsClosedBy I Hits Priced Swept cost bound k lines by.Throughput = cost ≤ throughput_of I
IsClosedBy I Hits Priced Swept cost bound k lines (by.Probe s) = Contains (missing_ships I k) s × (cost ≤ probe_of I k lines s)
IsClosedBy I Hits Priced Swept cost bound k lines (by.Cut number) = Hits number lines
IsClosedBy I Hits Priced Swept cost bound k lines (by.Price number) = Priced number k lines cost
IsClosedBy I Hits Priced Swept cost bound k lines (by.Swept number) = Swept number k cost
