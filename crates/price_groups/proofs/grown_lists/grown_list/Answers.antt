use Rattle.std.proofs.Common.{refl}
use Rattle.price_groups.proofs.GrownListLemmas.{listed}
use Rattle.price_groups.proofs.grown_lists.grown_list.Goals as goal

pub returns-clause-grown : goal.returns-clause-grown
returns-clause-grown c =
    let case = c.args.extension.now.case.now in
    let all = c.in_ok-listed.listed in
    let grown = c.in_ok-listed.ensures in
    listed case.instance.now case.index case.depth c.args.extension.now.ceilings.now c.args.extension.now.sets.now c.args.base.now all.groups.items all.sums.items c.in_ok-groups.groups.items c.soon_first.new.groups.items _
    grown.grown grown.weighed c.in_ok-groups.ensures c.in_ok-soon_first.ensures c.copy.ensures refl
