use Rattle.std.proofs.Common.{◌≡◌, ◌++◌, All, sym, ap, ◌∙◌, subst, rules}
use Rattle.std.proofs.lemmas.Result.{on_ok_weaker}
use Rattle.price_terms.specs.Cuts.{plain_cuts}
use Rattle.price_groups.specs.Asked.{line_asked}
use Rattle.price_successors.specs.Successors.{IsSuccessor}
use Rattle.price_successors.specs.Dominance.{AreLate}
use Rattle.price_successors.specs.Enough.{HaveEarly}
use Rattle.price_successors.proofs.LateLemmas.{early-together}
use Rattle.price_successors.proofs.choosing.put_grown.Goals as goal

pub late_successors-requires-clause-each : goal.late_successors-requires-clause-each
late_successors-requires-clause-each c =
    let case = c.args.extension.now.case.now in
    let I = case.instance.now in
    let same : c.deref.result.now ≡ c.in_ok-more.more.items = search rules in
    subst (All (IsSuccessor (line_asked case))) (sym same) c.in_ok-more.ensures.each

pub returns : goal.returns
returns c =
    let case = c.args.extension.now.case.now in
    let I = case.instance.now in
    let cuts = plain_cuts I case.cuts.now in
    let more = c.in_ok-more.more.items in
    let enough = c.in_ok-enough.enough.items in
    let old = c.args.successors.now.items in
    let same : c.deref.result.now ≡ more = search rules in
    let put : c.deref-2.result.now ≡ enough = search rules in
    let late = subst (λ more. AreLate (line_asked case) 0 more enough) same c.in_ok-enough.ensures in
    on_ok_weaker c.append_all.result (λ appended all each first.
    subst (HaveEarly (line_asked case) c.args.joins c.args.list.now.base all) (sym (appended ∙ ap (λ xs. old ++ xs) put))
    (early-together (line_asked case) c.args.joins c.args.list.now.base all more old enough each c.in_ok-more.ensures first late)) c.append_all.ensures
