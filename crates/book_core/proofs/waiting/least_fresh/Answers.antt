use Rattle.book_core.proofs.NextLemmas.{up-to-end}
use Rattle.book_core.proofs.waiting.least_fresh.Goals as goal

pub returns : goal.returns
returns c = up-to-end c.args.slots.now c.args.first c.args.end c.loop-id.id c.loop-id.least c.loop-id.auto.id-end c.loop-id-test.false c.loop-id.invariant.begun c.loop-id.invariant.least
