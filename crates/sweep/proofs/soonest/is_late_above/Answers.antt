use Rattle.std.proofs.Common.{rules}
use Rattle.sweep.proofs.SoonestLemmas.{late_none}
use Rattle.sweep.proofs.soonest.is_late_above.Goals as goal

pub returns : goal.returns
returns c told =
    late_none c.args.case.now c.args.label.now c.requires.arrive c.soonest_of-soonest.result (record { ships = c.in_ok-ships.ships; triples = c.args.triples }) c.args.gains.now c.args.goal
    (c.is_steady.ensures (search rules)) c.soonest_of-soonest.ensures c.in_ok-ships.ensures c.requires.triples c.requires.gains (c.in_ok-above.ensures told)
