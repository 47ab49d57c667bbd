use Rattle.sweep.proofs.LateLemmas.{early_same}
use Rattle.sweep.proofs.late_bound.is_early_above.Goals as goal

pub returns-clause-none : goal.returns-clause-none
returns-clause-none c told ends =
    c.in_ok-above.ensures told (early_same c.args.case.now c.args.label.now c.args.late.now.ships.bits c.joined.result.bits c.args.left c.joined.ensures ends)
