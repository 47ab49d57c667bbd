use Rattle.std.proofs.Common.{◌≡◌, drop, find, not}
use Rattle.lock_rules.specs.Lines.{lockage_at}
use Rattle.replan.specs.Kept.{starts_before}
use Rattle.replan.proofs.turning.next_place.Given as goal

-- all lockages so far have begun
abbrev pub invariant-loop-p : goal.invariant-loop-p
invariant-loop-p l = find (λ p. not (starts_before l.minute (lockage_at l.plan p))) l.p-items ≡ find (λ p. not (starts_before l.minute (lockage_at l.plan p))) (drop l.p-index l.p-items)
