use Rattle.std.proofs.Common.{◌≡◌, ◌+◌, suc, subst, arith}
use Rattle.solve_workers.specs.Settling.{AreHeldFrom}
use Rattle.solve_workers.proofs.SettleLemmas.{held_at_first, back_at_first, held_after, back_after}
use Rattle.solve_workers.proofs.settling.release_others.Goals as goal

pub loop-worker-init : goal.loop-worker-init
loop-worker-init c = (held_at_first c.args.book.now c.keeps.ensures.parts.workers c.requires.empty, back_at_first c.args.book.now c.requires.running)

pub loop-worker-preserved : goal.loop-worker-preserved
loop-worker-preserved c =
    let keeps = c.keeps-in-loop-worker.ensures.parts.workers in (
      subst (λ n. AreHeldFrom n c.release.new.self) (let up : suc c.loop-worker.worker ≡ c.loop-worker.worker + 1 = omega arith in up) (held_after c.loop-worker.book c.loop-worker.worker keeps c.loop-worker-test.true c.release.result c.release.new.self c.release.ensures c.loop-worker.invariant.0),
      back_after c.loop-worker.book c.loop-worker.worker keeps c.loop-worker-test.true c.release.result c.release.new.self c.release.ensures c.args.book.now c.loop-worker.invariant.1,
    )
