use Rattle.std.proofs.Common.{drop}
use Rattle.std.proofs.lemmas.List.Elements.{All-drop}
use Rattle.price_rules.specs.Prices.{IsUncut}
use Rattle.price_terms.specs.Cuts.{plain_cuts}
use Rattle.price_groups.specs.Asked.{line_asked}
use Rattle.price_groups.specs.Worth.{IsKeptGroup}
use Rattle.price_table.proofs.StepLemmas.{alone-least}
use Rattle.price_table.proofs.WalkLemmas.{least-one}
use Rattle.price_table.proofs.walking.next_group.Goals as goal

pub returns-then-from-table-clause-none : goal.returns-then-from-table-clause-none
returns-then-from-table-clause-none c =
    let table = c.args.table.now in
    let case = table.case.now in
    let I = case.instance.now in
    let from = c.args.from.now in
    let rest = drop from.state.place case.line.now in
    least-one (line_asked case) case.chamber_in from.state.stand from.state.minute rest _ from.value
    (alone-least (line_asked case) case.chamber_in table.horizon table.late from.state.stand from.state.minute rest c.if-from-table.true (All-drop (IsUncut I case.index (plain_cuts I case.cuts.now)) from.state.place case.line.now table.uncut) (All-drop (IsKeptGroup I case.depth) from.state.place case.line.now case.kept))
    c.requires.value.least
