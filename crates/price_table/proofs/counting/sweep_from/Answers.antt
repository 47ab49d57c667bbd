use Rattle.std.proofs.Common.{All, sym, subst}
use Rattle.price_groups.specs.Asked.{line_asked}
use Rattle.price_successors.specs.Successors.{IsSuccessor, Leads}
use Rattle.price_successors.proofs.SuccessorListLemmas.{some-successor_list, successor_list-each}
use Rattle.price_table.proofs.ThresholdLemmas.{leads-within}
use Rattle.price_table.proofs.counting.sweep_from.Goals as goal

pub sweep-requires-clause-place : goal.sweep-requires-clause-place
sweep-requires-clause-place c =
    let table = c.args.table.now in
    let case = table.case.now in
    let I = case.instance.now in
    let state = c.args.frame.now.ready.state in
    let route = c.in-Some.route in
    let successor = c.index-successors-frame.result in
    let e = some-successor_list (line_asked case) table.successor_lists.now c.requires.successor_lists in
    let each = successor_list-each (line_asked case) case.chamber_in table.successor_lists.now c.requires.successor_lists state.place state.minute c.requires.frame.place e in
    let own = subst (All (IsSuccessor (line_asked case))) (sym (c.requires.listed e)) each in
    let is : IsSuccessor (line_asked case) successor = subst (IsSuccessor (line_asked case)) (sym c.index-successors-frame.is) (own c.args.frame.now.next successor c.requires.here) in
    leads-within (line_asked case) successor.joins successor.group state.place route.place is.keeps (subst (λ to. Leads to state.place route.place) c.in-Some.ensures.joins c.in-Some.ensures.is.leads) c.requires.frame.place
