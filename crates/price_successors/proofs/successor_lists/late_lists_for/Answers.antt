use Rattle.std.proofs.Common.{◌≡◌, ◌+◌, length, refl, sym, subst, arith, rules}
use Rattle.price_successors.specs.declared.late_list.LateList.{LateList}
use Rattle.price_successors.specs.SuccessorLists.{AreFor, AreLateListsFor}
use Rattle.price_successors.proofs.SuccessorListLemmas.{late_lists-next}
use Rattle.price_successors.proofs.successor_lists.late_lists_for.Goals as goal

pub loop-late_list-preserved : goal.loop-late_list-preserved
loop-late_list-preserved c =
    let place = c.args.place in
    let late_lists = c.args.late_lists.now in
    let i = c.loop-late_list.late_list-index in
    let late_list = c.late_list-item.result in
    let own : LateList = record { from = late_list.from; successors = c.in_ok-successors.successors } in
    let same : c.deref.result.now ≡ late_list.successors.items = search rules in
    let fors = subst (λ cs. AreFor place cs c.in_ok-successors.successors.items) same c.in_ok-successors.ensures in
    subst (AreLateListsFor place late_lists (i + 1)) (sym c.in_ok-append.ensures)
    (late_lists-next place late_lists i c.loop-late_list.fors.items late_list own c.loop-late_list-test.true (sym c.late_list-item.is) (record { from = refl; successors = fors }) c.loop-late_list.invariant)

pub returns : goal.returns
returns c =
    let all : c.loop-late_list.late_list-index ≡ length c.args.late_lists.now = omega (arith, c.loop-late_list-test.false, c.loop-late_list.auto.late_list-index-end) in
    subst (λ n. AreLateListsFor c.args.place c.args.late_lists.now n c.loop-late_list.fors.items) all c.loop-late_list.invariant
