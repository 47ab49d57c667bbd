use Rattle.std.proofs.Common.{nat_lt, length, sym, arith}
use Rattle.std.proofs.lemmas.Bool.Decides.{nat_tests}
use Rattle.std.proofs.lemmas.List.Sums.{position_or_len_is}
use Rattle.lock_model.specs.declared.closure.Closure.{Closure}
use Rattle.instance_text.proofs.closing_line.place_at.Goals as goal

abbrev none : Closure
none = record { from = 0; to = 0 }

pub returns-then-from-other-clause-value : goal.returns-then-from-other-clause-value
returns-then-from-other-clause-value c =
    sym (position_or_len_is (λ (other : Closure). nat_lt c.args.from other.from) c.args.closures.now c.loop-place.place none (omega arith) (λ k low. c.loop-place.invariant k none low) (λ _. grind (arith, nat_tests)))

pub returns-clause-value : goal.returns-clause-value
returns-clause-value c =
    sym (position_or_len_is (λ (other : Closure). nat_lt c.args.from other.from) c.args.closures.now (length c.args.closures.now) none (omega arith) (λ k low. c.loop-place.invariant k none (omega arith)) (λ more. absurd (omega arith)))
