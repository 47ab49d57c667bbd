use Rattle.std.proofs.Common.{All, refl, sym, subst}
use Rattle.price_groups.specs.Asked.{line_asked}
use Rattle.price_successors.specs.Successors.{IsSuccessor}
use Rattle.price_successors.proofs.SuccessorListLemmas.{some-successor_list, successor_list-each}
use Rattle.price_table.proofs.FrameLemmas.{frame-less, frame-next}
use Rattle.price_table.proofs.counting.count_next.Goals as goal

pub count-requires-clause-is : goal.count-requires-clause-is
count-requires-clause-is c =
    let table = c.args.table.now in
    let case = table.case.now in
    let I = case.instance.now in
    let e = some-successor_list (line_asked case) table.successor_lists.now c.requires.successor_lists in
    let each = successor_list-each (line_asked case) case.chamber_in table.successor_lists.now c.requires.successor_lists c.args.frame.now.ready.state.place c.args.frame.now.ready.state.minute c.requires.frame.place e in
    let own = subst (All (IsSuccessor (line_asked case))) (sym (c.requires.listed e)) each in
    subst (IsSuccessor (line_asked case)) (sym c.index-successors-frame.is) (own c.args.frame.now.next c.index-successors-frame.result c.requires.here)

pub returns-in-Some-clause-frame : goal.returns-in-Some-clause-frame
returns-in-Some-clause-frame c =
    let table = c.args.table.now in
    let case = table.case.now in
    let I = case.instance.now in
    frame-less (line_asked case) case.chamber_in table.horizon table.successor_lists.now c.args.frame.now c.count.new.best c.count.ensures.less c.count.ensures.best c.requires.frame

pub returns-in-None-clause-frame : goal.returns-in-None-clause-frame
returns-in-None-clause-frame c =
    let table = c.args.table.now in
    let case = table.case.now in
    let I = case.instance.now in
    let told = c.in-None.ensures in
    frame-next (line_asked case) case.chamber_in table.horizon table.successor_lists.now c.args.frame.now c.count.new.best c.index-successors-frame.result c.args.frame.now.next c.args.successors.now c.requires.listed c.requires.here refl c.index-successors-frame.is told.less told.best told.none c.requires.frame
