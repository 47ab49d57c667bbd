use Rattle.std.proofs.Common.{◌≡◌, ◌<◌, ◌≤◌, ◌∙◌, All, length, sym, ap, subst}
use Rattle.std.proofs.lemmas.List.{get_or_default}
use Rattle.lock_rules.proofs.NodeLemmas.{All-insert_number}
use Rattle.master_branch.specs.Steps.{group_in}
use Rattle.price_groups.proofs.WeighLemmas.{weighed-at, sums-short}
use Rattle.price_groups.proofs.growing.join.Goals as goal

pub joined-requires-clause-mask : goal.joined-requires-clause-mask
joined-requires-clause-mask c =
    let case = c.args.extension.now.case.now in
    (weighed-at case.instance.now case.index c.args.groups.now.items c.args.sums.now.items c.requires.weighed c.args.place c.index.result.now c.index-own.result.now c.requires.place c.index.ensures c.index-own.ensures).mask

pub more_sums-more-requires-clause-short : goal.more_sums-more-requires-clause-short
more_sums-more-requires-clause-short c =
    let case = c.args.extension.now.case.now in
    let I = case.instance.now in
    let group = c.index.result.now in
    let own = c.index-own.result.now in
    let same : group_in c.args.groups.now.items c.args.place ≡ group = get_or_default c.args.groups.now.items c.args.place _ group c.requires.place ∙ sym c.index.ensures in
    sums-short I case.index case.chamber_in own group.ships (subst (λ g. All (λ s. s < length I.ships) g.ships) same c.requires.ships_in) (subst (λ g. length g.ships ≤ 8) same c.requires.few)
    (weighed-at I case.index c.args.groups.now.items c.args.sums.now.items c.requires.weighed c.args.place group own c.requires.place c.index.ensures c.index-own.ensures)

pub put_joined-requires-clause-known : goal.put_joined-requires-clause-known
put_joined-requires-clause-known c =
    let I = c.args.extension.now.case.now.instance.now in
    let same : group_in c.args.groups.now.items c.args.place ≡ c.index.result.now = get_or_default c.args.groups.now.items c.args.place _ c.index.result.now c.requires.place ∙ sym c.index.ensures in
    let known = subst (λ g. All (λ s. s < length I.ships) g.ships) same c.requires.ships_in in
    subst (All (λ s. s < length I.ships)) (sym (ap (λ g. g.ships) c.in-Some.ensures.some.1)) (All-insert_number (λ s. s < length I.ships) c.args.ship c.index.result.now.ships c.requires.known known)
