use Rattle.std.proofs.Common.{◌≡◌, ◌-◌, ◌<◌, ◌≤◌, Some, length, sym, subst, arith, rules}
use Rattle.std.specs.Prelude.{slice_get}
use Rattle.std.proofs.lemmas.Option.{slice_get_within, get_or_from_slice_get}
use Rattle.std.proofs.lemmas.Result.{IfOk-weaker}
use Rattle.price_terms.specs.Cuts.{plain_cuts}
use Rattle.price_groups.specs.Asked.{line_asked}
use Rattle.price_successors.specs.Dominance.{AreLate}
use Rattle.price_successors.specs.LateLists.{IsLateList}
use Rattle.price_successors.proofs.LateLemmas.{late-through}
use Rattle.price_successors.proofs.late_lists.thinned.Goals as goal

pub returns-in-Some : goal.returns-in-Some
returns-in-Some c =
    let case = c.args.case.now in
    let I = case.instance.now in
    let cuts = plain_cuts I case.cuts.now in
    let late_lists = c.args.late_lists.now in
    let successors = c.args.successors.now in
    let late_list = c.in-Some.late_list.now in
    let at : slice_get late_lists (length late_lists - 1) ≡ Some late_list = sym c.in-Some.ensures.value in
    let here : length late_lists - 1 < length late_lists = slice_get_within late_lists (length late_lists - 1) late_list at in
    let is = subst (IsLateList (line_asked case) successors) (get_or_from_slice_get late_lists (length late_lists - 1) late_list late_list at) (c.requires.late_lists (length late_lists - 1) late_list here) in
    let same : c.deref.result.now ≡ late_list.successors.items = search rules in
    let past : late_list.from ≤ c.args.from = omega (arith, c.if-late_list-from.true) in
    IfOk-weaker c.late_successors.result (λ lates. AreLate (line_asked case) c.args.from c.deref.result.now lates.items) (λ lates. AreLate (line_asked case) c.args.from successors lates.items)
    (λ lates fewer.
    late-through (line_asked case) case.chamber_in late_list.from c.args.from successors late_list.successors.items lates.items past c.requires.each is
    (subst (λ mid. AreLate (line_asked case) c.args.from mid lates.items) same fewer)) c.late_successors.ensures
