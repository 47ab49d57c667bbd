use Rattle.std.proofs.Common.{refl, sym, subst}
use Rattle.refute_rules.specs.Refutes.{IsRefuted}
use Rattle.chamber_place.specs.Placing.{PlaceRefutes, RefutesExactly}
use Rattle.chamber_place.proofs.shrinking.refuted_part.Goals as goal

pub returns-in-Refuted-clause-some : goal.returns-in-Refuted-clause-some
returns-in-Refuted-clause-some c =
    let both = subst (RefutesExactly c.part_of.result c.args.turns) c.in-Refuted.is c.in_ok-refutation.ensures.refutes in
    record {
      same = refl;
      part = record { some = c.requires.some; refuted = subst (λ d. IsRefuted d c.in-Refuted.refutation) c.part_of.ensures.value both.0 };
      refutes = subst (λ d. PlaceRefutes d c.args.turns) c.part_of.ensures.value both.1;
    }

pub returns-in-Spent-clause-none : goal.returns-in-Spent-clause-none
returns-in-Spent-clause-none c =
    let not = subst (RefutesExactly c.part_of.result c.args.turns) c.in-Spent.is c.in_ok-refutation.ensures.refutes in
    λ refutes. not (subst (λ d. PlaceRefutes d c.args.turns) (sym c.part_of.ensures.value) refutes)
