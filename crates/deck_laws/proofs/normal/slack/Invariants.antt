use Rattle.deck_laws.specs.Slack.{IsSlackTo, done_in}
use Rattle.deck_laws.proofs.normal.slack.Given as goal

abbrev pub invariant-loop-j : goal.invariant-loop-j
invariant-loop-j l = IsSlackTo l.deck l.spots (done_in l.done) l.i l.j l.s
