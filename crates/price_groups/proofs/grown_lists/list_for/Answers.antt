use Rattle.std.proofs.Common.{All, sym, subst}
use Rattle.std.proofs.lemmas.List.Elements.{All-push}
use Rattle.price_groups.specs.declared.grown_lists.GrownList.{GrownList}
use Rattle.price_groups.specs.Asked.{group_asked}
use Rattle.price_groups.specs.GrownLists.{IsGrownList}
use Rattle.price_groups.proofs.grown_lists.list_for.Goals as goal
use Rattle.price_groups.proofs.grown_lists.list_for.Goals.{in-Ok, in-Err}

pub returns-clause-lists : goal.returns-clause-lists
returns-clause-lists c =
    let case = c.args.extension.now.case.now in
    let is : GrownList → Type 0 = IsGrownList (group_asked c.args.extension.now) in
    elim c.match-push.branch [
      | in-Ok w ↦ subst (All is) (sym w.in-Ok.ensures.items) (All-push is c.args.lists.now.items c.in_ok-list.list c.requires.lists c.in_ok-list.ensures.grown)
      | in-Err w ↦ subst (All is) (sym w.in-Err.ensures.items) c.requires.lists
    ]
