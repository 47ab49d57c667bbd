use Rattle.replan.proofs.TurnLemmas.{opens_small}
use Rattle.replan.proofs.turning.chamber_begun.Goals as goal

pub turned-requires-clause-opens_small : goal.turned-requires-clause-opens_small
turned-requires-clause-opens_small c = opens_small c.args.instance.now c.args.kept.now c.args.chamber c.chamber_after-left.result c.requires.can c.requires.chamber_in c.chamber_after-left.ensures
