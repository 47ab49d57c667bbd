use Rattle.std.proofs.Common.{◌≡◌, ◌+◌, ◌<◌, suc, length, inl, inr, sym, ap, ◌∙◌, subst, arith, slice_index_or}
use Rattle.price_groups.specs.declared.grown_lists.GrownGroup.{GrownGroup}
use Rattle.price_terms.specs.Cuts.{plain_cuts}
use Rattle.price_groups.specs.Asked.{line_asked}
use Rattle.price_successors.specs.Dominance.{IsGainless}
use Rattle.price_successors.specs.Enough.{PutsGroup, HaveSome}
use Rattle.price_successors.proofs.SuccessorLemmas.{grown-uncut, some-skip, some-next, some-vain, some-done}
use Rattle.price_groups.proofs.GrownListLemmas.{grown-at}
use Rattle.price_successors.proofs.choosing.add_grown.Goals as goal

pub loop-grown-init : goal.loop-grown-init
loop-grown-init c = record {
  each = c.requires.each;
  kept = λ h at. at;
  done = λ j d none. absurd (omega (arith, none));
}

pub add_group-requires-clause-known : goal.add_group-requires-clause-known
add_group-requires-clause-known c =
    let case = c.args.extension.now.case.now in
    let own = grown-at case.instance.now case.index case.depth c.args.extension.now.ceilings.now c.args.extension.now.sets.now c.args.list.now c.deref-grown-items.result.now c.loop-grown.grown-index c.grown-item.result c.requires.list c.deref-grown-items.ensures.value c.loop-grown-test.true c.grown-item.is in
    own.grown.known

pub add_group-requires-clause-sums : goal.add_group-requires-clause-sums
add_group-requires-clause-sums c =
    let case = c.args.extension.now.case.now in
    let own = grown-at case.instance.now case.index case.depth c.args.extension.now.ceilings.now c.args.extension.now.sets.now c.args.list.now c.deref-grown-items.result.now c.loop-grown.grown-index c.grown-item.result c.requires.list c.deref-grown-items.ensures.value c.loop-grown-test.true c.grown-item.is in
    own.sums

pub add_group-requires-clause-uncut : goal.add_group-requires-clause-uncut
add_group-requires-clause-uncut c = λ some.
    let case = c.args.extension.now.case.now in
    let I = case.instance.now in
    let own = grown-at case.instance.now case.index case.depth c.args.extension.now.ceilings.now c.args.extension.now.sets.now c.args.list.now c.deref-grown-items.result.now c.loop-grown.grown-index c.grown-item.result c.requires.list c.deref-grown-items.ensures.value c.loop-grown-test.true c.grown-item.is in
    grown-uncut (line_asked case) c.args.extension.now.sets.now c.args.extension.now.forbids c.args.list.now.base (length I.ships) c.grown-item.result.group own.grown some

pub add_group-requires-clause-keeps : goal.add_group-requires-clause-keeps
add_group-requires-clause-keeps c =
    let case = c.args.extension.now.case.now in
    let own = grown-at case.instance.now case.index case.depth c.args.extension.now.ceilings.now c.args.extension.now.sets.now c.args.list.now c.deref-grown-items.result.now c.loop-grown.grown-index c.grown-item.result c.requires.list c.deref-grown-items.ensures.value c.loop-grown-test.true c.grown-item.is in
    c.requires.base.keeps c.grown-item.result.group (record { way = own.grown.way; keeps = own.grown.keeps })

pub loop-grown-preserved : goal.loop-grown-preserved
loop-grown-preserved c =
    let case = c.args.extension.now.case.now in
    let I = case.instance.now in
    let cuts = plain_cuts I case.cuts.now in
    let sets = c.args.extension.now.sets.now in
    let list = c.args.list.now in
    let groups = list.groups.items in
    let one = c.grown-item.result in
    let i = c.loop-grown.grown-index in
    let same = c.deref-grown-items.ensures.value in
    let at : one ≡ slice_index_or groups i one = c.grown-item.is ∙ ap (λ gs. slice_index_or gs i one) same in
    let here : i < length groups = omega (arith, c.loop-grown-test.true, ap length same) in
    let up : suc i ≡ i + 1 = omega arith in
    let puts : PutsGroup (line_asked case) c.args.joins one.group c.loop-grown.successors.items c.add_group.new.successors.items = c.in_ok-add_group.ensures in
    let have = c.loop-grown.invariant in
    let is : HaveSome (line_asked case) c.args.joins groups (suc i) c.args.successors.now.items c.add_group.new.successors.items =
    elim puts.puts [
      | inl none ↦
          subst (HaveSome (line_asked case) c.args.joins groups (suc i) c.args.successors.now.items) (sym none.1)
          (some-skip (line_asked case) sets c.args.extension.now.forbids c.args.joins c.args.extension.now.ceilings.now c.args.extension.now.below list c.requires.list i one c.args.successors.now.items c.loop-grown.successors.items here
          (ap (λ (g : GrownGroup). length g.group.ships) (sym at) ∙ none.0) have)
      | inr (inl put) ↦
          some-next (line_asked case) sets c.args.extension.now.forbids c.args.joins c.args.extension.now.ceilings.now c.args.extension.now.below list c.requires.list i one c.args.successors.now.items c.loop-grown.successors.items c.add_group.new.successors.items put.0 here put.1
          (put.2 ∙ ap (λ (g : GrownGroup). g.group) at) have put.3
      | inr (inr vain) ↦
          subst (HaveSome (line_asked case) c.args.joins groups (suc i) c.args.successors.now.items) (sym vain.1)
          (some-vain (line_asked case) sets c.args.extension.now.forbids c.args.joins c.args.extension.now.ceilings.now c.args.extension.now.below list c.requires.list i one c.args.successors.now.items c.loop-grown.successors.items here
          (subst (λ (g : GrownGroup). IsGainless (line_asked case) 0 c.args.joins g.group) at vain.0) have)
    ] in
    subst (λ i. HaveSome (line_asked case) c.args.joins groups i c.args.successors.now.items c.add_group.new.successors.items) up is

pub returns : goal.returns
returns c =
    let case = c.args.extension.now.case.now in
    let I = case.instance.now in
    let cuts = plain_cuts I case.cuts.now in
    let list = c.args.list.now in
    let groups = list.groups.items in
    let all : c.loop-grown.grown-index ≡ length groups = omega (arith, c.loop-grown-test.false, c.loop-grown.auto.grown-index-end, ap length c.deref-grown-items.ensures.value) in
    some-done (line_asked case) c.args.extension.now.sets.now c.args.extension.now.forbids c.args.joins c.args.extension.now.ceilings.now c.args.extension.now.below list c.requires.list case.chamber_in c.args.successors.now.items c.loop-grown.successors.items
    (subst (λ i. HaveSome (line_asked case) c.args.joins groups i c.args.successors.now.items c.loop-grown.successors.items) all c.loop-grown.invariant)
