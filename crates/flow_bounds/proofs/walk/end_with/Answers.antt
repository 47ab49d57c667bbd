use Rattle.std.proofs.Common.{◌+◌, arith}
use Rattle.lock_rules.proofs.FreeLemmas.{first_free-from}
use Rattle.flow_bounds.proofs.walk.end_with.Goals as goal

pub returns-clause-late : goal.returns-clause-late
returns-clause-late c =
    let lock = c.args.lock.now in
    omega (arith, c.free_from.ensures.value, first_free-from lock.closures (lock.pass + c.args.load.now.handling) c.max-low.result)
