use Rattle.price_groups.specs.Asked.{line_asked}
use Rattle.price_table.proofs.FrameLemmas.{values-none}
use Rattle.price_table.proofs.line_least.line_by.Goals as goal

pub value_of-requires-clause-values : goal.value_of-requires-clause-values
value_of-requires-clause-values c =
    let table = c.args.table.now in
    let case = table.case.now in
    let I = case.instance.now in
    values-none (line_asked case) case.chamber_in table.horizon c.in_ok-values.values c.in_ok-values.ensures
