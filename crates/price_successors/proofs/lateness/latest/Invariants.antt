use Rattle.std.proofs.Common.{ℕ, ◌<◌, ◌≤◌, length, slice_index_or}
use Rattle.price_successors.specs.declared.successor.Successor.{Successor}
use Rattle.price_successors.proofs.lateness.latest.Given as goal

abbrev pub invariant-loop-successor : goal.invariant-loop-successor
invariant-loop-successor l = (j : ℕ) (d : Successor) → j < l.successor-index → j < length l.successors → (slice_index_or l.successors j d).last ≤ l.latest
