use Rattle.std.proofs.Common.{All, sym, subst}
use Rattle.std.proofs.lemmas.List.Elements.{All-push}
use Rattle.std.proofs.lemmas.Result.{on_ok_weaker}
use Rattle.price_groups.specs.Asked.{line_asked}
use Rattle.price_successors.specs.LateLists.{IsLateList}
use Rattle.price_successors.specs.declared.late_list.LateList.{LateList}
use Rattle.price_successors.proofs.late_lists.add_late_list.Goals as goal

pub returns : goal.returns
returns c =
    let case = c.args.case.now in
    let I = case.instance.now in
    let late_list : LateList = record { from = c.args.from; successors = c.in_ok-lates.lates } in
    on_ok_weaker c.append.result (λ pushed.
    subst (All (IsLateList (line_asked case) c.args.successors.now)) (sym pushed)
    (All-push (IsLateList (line_asked case) c.args.successors.now) c.args.late_lists.now.items late_list c.requires.late_lists c.in_ok-lates.ensures)) c.append.ensures
