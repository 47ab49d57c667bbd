use Rattle.std.proofs.Common.{◌≡◌, ◌∙◌, sym, subst, below_more, rules, arith, slice_index_or}
use Rattle.std.proofs.lemmas.List.{get_or_default}
use Rattle.book_rules.specs.Book.{no_group}
use Rattle.search_worker.specs.Owning.{IsOwnGroup}
use Rattle.search_worker.proofs.OwnLemmas.{all_from}
use Rattle.search_worker.proofs.trusting.are_own_groups.Goals as goal

pub loop-group-preserved : goal.loop-group-preserved
loop-group-preserved c =
    let here : slice_index_or c.args.line.now c.loop-group.group-index no_group ≡ c.group-item.result =
    get_or_default c.args.line.now c.loop-group.group-index _ c.group-item.result c.loop-group-test.true ∙ sym c.group-item.is in
    let own : IsOwnGroup c.args.instance.now c.args.first.now c.args.most c.group-item.result = search rules in
    below_more _ _ c.loop-group.invariant (subst (IsOwnGroup c.args.instance.now c.args.first.now c.args.most) (sym here) own)

pub returns : goal.returns
returns c = (λ _. all_from (IsOwnGroup c.args.instance.now c.args.first.now c.args.most) c.args.line.now no_group c.loop-group.group-index (omega (arith, c.loop-group-test.false)) c.loop-group.invariant, λ _. search rules)
