use Rattle.std.proofs.Common.{refl}
use Rattle.mooring_rules.specs.declared.breaks.BrokenPlan.TheVariants.{Deck, Clash, Time}
use Rattle.mooring_rules.proofs.PlanLemmas.{IsFirstBrokenPart-illegal, IsLegalPart-unbroken}
use Rattle.mooring_rules.proofs.part.judge_lockages.Goals as goal

pub returns-in-Some-clause-none : goal.returns-in-Some-clause-none
returns-in-Some-clause-none c = (
  λ never. absurd (cc),
  λ legal.
      absurd (IsFirstBrokenPart-illegal c.args.instance.now c.args.plan.now (Deck c.in-Some.p c.in-Some.broken)
      (c.requires.shaped, c.requires.single, c.in-Some.ensures.some)
      legal),
)

pub returns-in-Some-first_clashing-clause-none : goal.returns-in-Some-first_clashing-clause-none
returns-in-Some-first_clashing-clause-none c = (
  λ never. absurd (cc),
  λ legal.
      absurd (IsFirstBrokenPart-illegal c.args.instance.now c.args.plan.now (Clash c.in-Some-first_clashing.p c.in-Some-first_clashing.i c.in-Some-first_clashing.j)
      (c.requires.shaped, c.requires.single, c.in_default.ensures.none, c.in-Some-first_clashing.ensures.some)
      legal),
)

pub returns-in-Some-first_untimely-clause-none : goal.returns-in-Some-first_untimely-clause-none
returns-in-Some-first_untimely-clause-none c = (
  λ never. absurd (cc),
  λ legal.
      absurd (IsFirstBrokenPart-illegal c.args.instance.now c.args.plan.now (Time c.in-Some-first_untimely.chamber c.in-Some-first_untimely.broken)
      (c.requires.shaped, c.requires.single, c.in_default.ensures.none, c.in_default-first_clashing.ensures.none, c.in-Some-first_untimely.ensures.some)
      legal),
)

pub returns-clause-none : goal.returns-clause-none
returns-clause-none c = (
  λ none.
      IsLegalPart-unbroken c.args.instance.now c.args.plan.now c.requires.shaped c.requires.rising c.requires.single
      c.in_default.ensures.none c.in_default-first_clashing.ensures.none c.in_default-first_untimely.ensures.none,
  λ legal. refl,
)
