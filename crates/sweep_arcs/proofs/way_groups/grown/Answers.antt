use Rattle.std.proofs.Common.{◌≡◌, ℕ, List, sym, ap, ◌∙◌, subst}
use Rattle.lock_model.specs.declared.group.Group.{Group}
use Rattle.lock_model.specs.declared.way.Way.{Way}
use Rattle.price_groups.specs.declared.grown_lists.GrownList.{GrownList}
use Rattle.price_groups.specs.Asked.{line_asked}
use Rattle.price_groups.specs.Asks.{group_ask}
use Rattle.price_groups.specs.GrownLists.{IsGrownList}
use Rattle.sweep_arcs.proofs.GroupLemmas.{all-grown, empty}
use Rattle.sweep_arcs.proofs.way_groups.grown.Goals as goal

abbrev group : Way → List ℕ → Group
group way ships = record { way = way; ships = ships }

pub returns : goal.returns
returns c =
    let case = c.args.case.now in
    let L = line_asked case in
    let growth = c.args.growth.now in
    let high = c.ceilings_of-ceilings.result in
    let lists = c.list_for.new.lists.items in
    let place = c.in_ok-place.place in
    let list : GrownList = c.swap_remove.result in
    let here = c.in_ok-place.ensures.place in
    let is : GrownList → Type 0 = IsGrownList (group_ask L.instance L.chamber L.depth high c.args.sets.now) in
    let grown : is list = subst is (sym c.swap_remove.ensures.value) (c.in_ok-place.ensures.lists place list here) in
    let base : list.base ≡ empty L c.requires.root growth.way = ap (λ (list : GrownList). list.base) c.swap_remove.ensures.value ∙ c.in_ok-place.ensures.base list ∙ ap (group growth.way) c.new-ships.ensures in
    all-grown L c.requires.root growth.way c.args.sets.now growth.spread high list case.chamber_in c.requires.sets c.ceilings_of-ceilings.ensures.each c.requires.brief base grown
