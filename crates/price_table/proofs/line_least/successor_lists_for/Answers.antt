use Rattle.std.proofs.Common.{◌≡◌, ◌+◌, All, length, sym, subst, rules}
use Rattle.std.proofs.lemmas.Result.{IfOk-weaker}
use Rattle.price_successors.proofs.LateLemmas.{listed-by}
use Rattle.price_table.proofs.line_least.successor_lists_for.Goals as goal
use Rattle.price_groups.specs.Asked.{line_asked}
use Rattle.price_successors.specs.Successors.{IsSuccessor}
use Rattle.price_successors.specs.LateLists.{IsLateList}
use Rattle.price_successors.specs.SuccessorLists.{AreMade}

pub late_lists_of-requires : goal.late_lists_of-requires
late_lists_of-requires c =
    let case = c.args.extension.now.case.now in
    let same : c.deref.result.now ≡ c.in_ok-successors.successors.items = search rules in
    record { each = subst (All (IsSuccessor (line_asked case))) (sym same) c.in_ok-successors.ensures.early.early.each }

pub returns-clause-successor_lists : goal.returns-clause-successor_lists
returns-clause-successor_lists c =
    let case = c.args.extension.now.case.now in
    let successors = c.in_ok-successors.successors.items in
    let late_lists = c.in_ok-late_lists.late_lists.items in
    let early = c.in_ok-successors.ensures.early in
    let thinned : c.deref.result.now ≡ successors = search rules in
    let looked : c.deref-3.result.now ≡ successors = search rules in
    let later : c.deref-4.result.now ≡ late_lists = search rules in
    let each = subst (λ successors. All (IsLateList (line_asked case) successors) late_lists) thinned c.in_ok-late_lists.ensures in
    let listed = listed-by (line_asked case) case.chamber_in early.successors successors late_lists early.enough early.early each in
    IfOk-weaker c.successor_lists_of.result _ _ (λ successor_lists are.
    let made = subst (λ late_lists. AreMade successors late_lists (length case.line.now + 1) successor_lists.items) later (subst (λ successors. AreMade successors c.deref-4.result.now (length case.line.now + 1) successor_lists.items) looked are) in
    record { successors = successors; late_lists = late_lists; listed = listed; made = made }) c.successor_lists_of.ensures
