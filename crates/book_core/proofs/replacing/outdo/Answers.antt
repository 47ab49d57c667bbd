use Rattle.std.proofs.Common.{arith}
use Rattle.book_core.proofs.OutdoneLemmas.{each-outdone}
use Rattle.book_core.proofs.replacing.outdo.Goals as goal

pub returns : goal.returns
returns c = each-outdone c.args.cost c.args.slots.now c.loop-id.slots c.loop-id.auto.slots (λ k known. c.loop-id.invariant.done k (omega (arith, known, c.loop-id.auto.slots)))
