use Rattle.std.proofs.Common.{◌<◌, length, All, sym, subst}
use Rattle.lock_rules.proofs.LegalLemmas.{part-arrived}
use Rattle.lock_rules.specs.Plan.{IsLegalPart}
use Rattle.replan.proofs.LeftLemmas.{left-known}
use Rattle.replan.proofs.lived.left_as_lived.Goals as goal

pub cost-requires-clause-arrived : goal.cost-requires-clause-arrived
cost-requires-clause-arrived c = part-arrived c.args.instance.now c.args.kept (subst (IsLegalPart c.args.instance.now) (sym c.requires.kept) c.requires.can.kept.legal)

pub delays-requires : goal.delays-requires
delays-requires c = subst (All (λ s. s < length c.args.instance.now.ships)) (sym c.ships_left-numbers.ensures) (left-known c.args.instance.now c.args.kept)
