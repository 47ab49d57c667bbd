use Rattle.lock_model.specs.declared.closure.Closure.{Closure}
use Rattle.instance_text.proofs.ClosureLemmas.{closures_next}
use Rattle.instance_text.proofs.closing_line.append.Goals as goal

abbrev none : Closure
none = record { from = 0; to = 0 }

pub push-requires-clause-room : goal.push-requires-clause-room
push-requires-clause-room c = (closures_next c.args.closures.now c.args.more.now c.loop-closure.closures c.loop-closure.closure-index none c.loop-closure-test.true c.requires c.loop-closure.invariant).0

pub push-requires-clause-good : goal.push-requires-clause-good
push-requires-clause-good c = (closures_next c.args.closures.now c.args.more.now c.loop-closure.closures c.loop-closure.closure-index none c.loop-closure-test.true c.requires c.loop-closure.invariant).1

pub push-requires-clause-later : goal.push-requires-clause-later
push-requires-clause-later c = (closures_next c.args.closures.now c.args.more.now c.loop-closure.closures c.loop-closure.closure-index none c.loop-closure-test.true c.requires c.loop-closure.invariant).2
