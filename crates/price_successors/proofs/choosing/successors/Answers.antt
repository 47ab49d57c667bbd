use Rattle.std.proofs.Common.{◌≡◌, ◌+◌, suc, length, Some, sym, ap, ◌∙◌, subst, arith}
use Rattle.price_groups.specs.declared.grown_lists.GrownList.{GrownList}
use Rattle.price_terms.specs.Cuts.{plain_cuts}
use Rattle.price_groups.specs.Asked.{line_asked, group_asked}
use Rattle.price_groups.specs.GrownLists.{IsGrownList}
use Rattle.price_successors.specs.Successors.{IsBaseOf}
use Rattle.price_successors.specs.Enough.{AreEnoughSuccessorsSoFar, HaveEarly, AreSomeEarly}
use Rattle.price_successors.proofs.SuccessorLemmas.{base-own, own-next, all-some}
use Rattle.price_successors.proofs.choosing.successors.Goals as goal

pub list_for-requires-clause-base : goal.list_for-requires-clause-base
list_for-requires-clause-base c =
    let case = c.args.extension.now.case.now in
    let I = case.instance.now in
    let own : IsBaseOf (line_asked case) (Some c.loop-place.place) c.index-line-place.result =
    subst (IsBaseOf (line_asked case) (Some c.loop-place.place)) (sym c.index-line-place.is)
    (base-own (line_asked case) case.good case.kept case.ships_in c.loop-place.place c.index-line-place.result c.loop-place-test.true) in
    own.good

pub put_grown-requires-clause-list : goal.put_grown-requires-clause-list
put_grown-requires-clause-list c =
    let case = c.args.extension.now.case.now in
    subst (IsGrownList (group_asked c.args.extension.now)) (sym c.index.ensures) (c.in_ok-own.ensures.lists c.in_ok-own.own c.index.result.now c.in_ok-own.ensures.place)

pub put_grown-requires-clause-base : goal.put_grown-requires-clause-base
put_grown-requires-clause-base c =
    let case = c.args.extension.now.case.now in
    let I = case.instance.now in
    let same : c.index.result.now.base ≡ c.index-line-place.result = ap (λ (l : GrownList). l.base) c.index.ensures ∙ c.in_ok-own.ensures.base c.index.result.now in
    subst (IsBaseOf (line_asked case) (Some c.loop-place.place)) (sym (same ∙ c.index-line-place.is))
    (base-own (line_asked case) case.good case.kept case.ships_in c.loop-place.place c.index-line-place.result c.loop-place-test.true)

pub loop-place-preserved : goal.loop-place-preserved
loop-place-preserved c =
    let case = c.args.extension.now.case.now in
    let I = case.instance.now in
    let cuts = plain_cuts I case.cuts.now in
    let place = c.loop-place.place in
    let up : suc place ≡ place + 1 = omega arith in
    let was = c.loop-place.invariant.some in
    let same : c.index.result.now.base ≡ c.index-line-place.result = ap (λ (l : GrownList). l.base) c.index.ensures ∙ c.in_ok-own.ensures.base c.index.result.now in
    let now = subst (λ base. HaveEarly (line_asked case) (Some place) base was.successors c.put_grown.new.successors.items) (same ∙ c.index-line-place.is) (c.in_ok-put_grown.ensures was.successors was.some.each was.early) in
    record {
      lists = c.in_ok-own.ensures.lists;
      some =
          subst (λ i. AreSomeEarly (line_asked case) i c.put_grown.new.successors.items) up
          (record { successors = now.more; some = own-next (line_asked case) place c.index-line-place.result was.successors now.more c.loop-place-test.true was.some now.have; early = now.early });
    }

pub returns-clause-early : goal.returns-clause-early
returns-clause-early c =
    let case = c.args.extension.now.case.now in
    let I = case.instance.now in
    let cuts = plain_cuts I case.cuts.now in
    let all : c.loop-place.place ≡ length case.line.now = omega (arith, c.loop-place-test.false, c.loop-place.auto.place-end) in
    let some = c.loop-place.invariant.some in
    record {
      successors = some.successors;
      enough = all-some (line_asked case) some.successors (subst (λ i. AreEnoughSuccessorsSoFar (line_asked case) i some.successors) all some.some);
      early = some.early;
    }
