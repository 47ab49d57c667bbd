use Rattle.deck_laws.specs.Slack.{done_in}
use Rattle.deck_laws.proofs.SlackLemmas.{shift_next}
use Rattle.deck_laws.proofs.normal.shift.Goals as goal

pub loop-i-preserved : goal.loop-i-preserved
loop-i-preserved c = shift_next (done_in c.args.done.now) c.args.s c.loop-i.i c.args.spots.now c.loop-i.moved c.push.new.self c.shifted.result c.loop-i.invariant c.loop-i-test.true c.push.ensures c.shifted.ensures
