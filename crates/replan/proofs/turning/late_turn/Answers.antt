use Rattle.replan.proofs.TurnLemmas.{opens_small, over_none}
use Rattle.replan.proofs.turning.late_turn.Goals as goal

pub turned-requires-clause-opens_small : goal.turned-requires-clause-opens_small
turned-requires-clause-opens_small c = opens_small c.args.instance.now c.args.kept.now c.args.chamber c.chamber_after-left.result c.requires.can c.requires.chamber_in c.chamber_after-left.ensures

pub returns-in_default-clause-none : goal.returns-in_default-clause-none
returns-in_default-clause-none c =
    over_none c.args.instance.now c.args.plan.now c.args.kept.now c.args.minute c.args.chamber c.chamber_after-left.result c.turn_for.result c.requires.kept c.requires.can c.requires.chamber_in
    c.chamber_after-left.ensures c.turn_for.ensures c.in_default.is
