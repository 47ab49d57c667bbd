use Rattle.std.proofs.Common.{arith}
use Rattle.price_groups.specs.Asked.{line_asked}
use Rattle.price_table.proofs.FrameLemmas.{value-rounded}
use Rattle.price_table.proofs.least.found.Goals as goal

pub returns-in-Some : goal.returns-in-Some
returns-in-Some c =
    let table = c.args.table.now in
    let case = table.case.now in
    let I = case.instance.now in
    let first = c.args.first.now in
    value-rounded (line_asked case) case.chamber_in table.horizon first.place first.stand first.minute c.in-Some.value table.small
    (c.requires.values.told first.place first.stand first.minute c.in-Some.value (omega (arith, c.requires.place, case.few)) c.in-Some.ensures)
