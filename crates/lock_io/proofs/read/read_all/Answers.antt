use Rattle.std.proofs.Common.{arith, length-take}
use Rattle.std.proofs.lemmas.Result.{err_from_is_err_and}
use Rattle.lock_io.proofs.TransferLemmas.{LosesFront-too_long, LosesFront-no_memory}
use Rattle.lock_io.proofs.read.read_all.Goals as goal

pub returns-then-count-limit-clause-front : goal.returns-then-count-limit-clause-front
returns-then-count-limit-clause-front g c =
    let given = c.in-Given.ensures.bytes in
    LosesFront-too_long _ _ _ _ _ _ c.loop-count.invariant.front given.next (omega (arith, c.if-count-limit.true, given.fits, length-take c.in-Given.count c.take.new.room))

pub returns-in_err-extend_from_slice-in-Given-clause-front :
    goal.returns-in_err-extend_from_slice-in-Given-clause-front
returns-in_err-extend_from_slice-in-Given-clause-front g c =
    let given = c.in-Given.ensures.bytes in
    let exit = err_from_is_err_and c.from_residual.result c.from_residual.ensures.1 in
    rw (exit.1, exit.2) (LosesFront-no_memory _ _ _ _ _ _ c.loop-count.invariant.front given.next (omega (arith, c.if-count-limit.false, given.fits, length-take c.in-Given.count c.take.new.room)))
