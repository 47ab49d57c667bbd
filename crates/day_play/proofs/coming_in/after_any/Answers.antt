use Rattle.std.proofs.Common.{sym}
use Rattle.day_play.specs.ComingIn.{comes_after}
use Rattle.day_play.proofs.ReadyLemmas.{any-hit, any-miss}
use Rattle.day_play.proofs.coming_in.after_any.Goals as goal

pub returns-then-comes_after : goal.returns-then-comes_after
returns-then-comes_after c = sym (any-hit (comes_after c.args.instance.now c.args.lockage.now) c.args.places.now c.loop-j.j-index c.loop-j-test.true c.args.k c.comes_after.result c.loop-j.invariant c.comes_after.ensures c.if-comes_after.true)

pub loop-j-preserved : goal.loop-j-preserved
loop-j-preserved c = any-miss (comes_after c.args.instance.now c.args.lockage.now) c.args.places.now c.loop-j.j-index c.loop-j-test.true c.args.k c.comes_after.result c.loop-j.invariant c.comes_after.ensures c.if-comes_after.false
