use Rattle.deck_laws.specs.Slack.{IsLeastTo, done_in}
use Rattle.deck_laws.proofs.normal.least_slack.Given as goal

abbrev pub invariant-loop-i : goal.invariant-loop-i
invariant-loop-i l = IsLeastTo l.deck l.spots (done_in l.done) l.i l.best.0 l.best.1
