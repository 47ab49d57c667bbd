use Rattle.std.proofs.Common.{sym, subst, arith}
use Rattle.price_groups.specs.Asked.{line_asked}
use Rattle.price_table.specs.Values.{IsValue}
use Rattle.price_table.proofs.FrameLemmas.{value-alone, found-told, rounded}
use Rattle.price_table.proofs.counting.known.Goals as goal

pub returns-then-state-table-clause-some : goal.returns-then-state-table-clause-some
returns-then-state-table-clause-some c =
    let table = c.args.table.now in
    let case = table.case.now in
    let I = case.instance.now in
    let state = c.args.state in
    let told = c.alone.ensures in
    subst (IsValue (line_asked case) table.horizon state.place state.stand state.minute) (sym (rounded c.alone.result told.low told.high))
    (value-alone (line_asked case) case.chamber_in table.horizon table.uncut case.kept table.late state.place state.stand state.minute c.alone.result c.if-state-table.true told.value told.low told.high)

pub returns-else-state-table-clause-some : goal.returns-else-state-table-clause-some
returns-else-state-table-clause-some c =
    let table = c.args.table.now in
    let case = table.case.now in
    let state = c.args.state in
    found-told (line_asked case) case.chamber_in table.horizon c.args.values.now state.place state.stand state.minute c.find.result
    (omega (arith, c.requires.place, case.few)) c.requires.values c.find.ensures
