use Rattle.std.proofs.Common.{All, ◌≡◌, ◌+◌, ◌<◌, ◌≤◌, [], suc, length, sym, subst, arith}
use Rattle.lock_rules.specs.Plan.{times_in}
use Rattle.lock_model.specs.Fleet.{no_chamber}
use Rattle.lock_model.specs.declared.way.Way.TheVariants.{Up}
use Rattle.master_branch.specs.Steps.{group_in}
use Rattle.price_groups.specs.Asked.{group_asked}
use Rattle.price_groups.specs.Growing.{IsAllowed, AreGrown, AreJoining, IsJoined}
use Rattle.price_groups.specs.Sparing.{IsSpared}
use Rattle.price_groups.proofs.GrowLemmas.{joining-start, joining-next, joining-done, grown-absent, missing-fresh}
use Rattle.price_groups.proofs.growing.join_each.Goals as goal

pub loop-place-init : goal.loop-place-init
loop-place-init c = record {
  joining =
      joining-start c.args.extension.now.case.now.instance.now c.args.extension.now.case.now.index c.args.extension.now.case.now.depth c.args.extension.now.ceilings.now c.args.extension.now.sets.now c.args.base.now c.args.ship
      (missing-fresh c.args.extension.now.case.now.instance.now c.args.extension.now.case.now.depth c.args.ship c.requires.new.missing) c.args.groups.now.items c.requires.grown;
  weighed = c.requires.weighed;
}

pub returns-clause-grown : goal.returns-clause-grown
returns-clause-grown c =
    let I = c.args.extension.now.case.now.instance.now in
    let n = c.args.extension.now.case.now.index in
    let k = c.args.extension.now.case.now.depth in
    let prices = c.args.extension.now.ceilings.now in
    let sets = c.args.extension.now.sets.now in
    let old = c.args.groups.now.items in
    let all : c.loop-place.place ≡ length old = omega (arith, c.loop-place-test.false, c.loop-place.auto.place-end, c.len-place-end.ensures, c.args.groups.now.ok) in
    let up : suc c.args.ship ≡ c.args.ship + 1 = omega arith in
    subst (λ m. AreGrown (group_asked c.args.extension.now) c.args.base.now m c.loop-place.groups.items) up
    (joining-done I n k prices sets c.args.base.now c.args.ship (missing-fresh I k c.args.ship c.requires.new.missing) old c.requires.grown c.loop-place.groups.items
    (subst (λ i. AreJoining (group_asked c.args.extension.now) c.args.base.now c.args.ship old i c.loop-place.groups.items) all c.loop-place.invariant.joining))

pub join-requires-clause-absent : goal.join-requires-clause-absent
join-requires-clause-absent c =
    let I = c.args.extension.now.case.now.instance.now in
    let n = c.args.extension.now.case.now.index in
    let k = c.args.extension.now.case.now.depth in
    let prices = c.args.extension.now.ceilings.now in
    let sets = c.args.extension.now.sets.now in
    let old = c.args.groups.now.items in
    let place = c.loop-place.place in
    let here : place < length old = omega (arith, c.loop-place-test.true, c.len-place-end.ensures, c.args.groups.now.ok) in
    subst (λ g. times_in g.ships c.args.ship ≡ 0) (sym (c.loop-place.invariant.joining.first place _ here))
    (grown-absent I n k prices sets c.args.base.now c.args.ship (missing-fresh I k c.args.ship c.requires.new.missing) (group_in old place) (c.requires.grown.each place _ here))

pub join-requires-clause-allowed : goal.join-requires-clause-allowed
join-requires-clause-allowed c =
    let case = c.args.extension.now.case.now in
    let old = c.args.groups.now.items in
    let place = c.loop-place.place in
    let here : place < length old = omega (arith, c.loop-place-test.true, c.len-place-end.ensures, c.args.groups.now.ok) in
    subst (λ g. All (IsAllowed case.instance.now case.depth c.args.ship) g.ships) (sym (c.loop-place.invariant.joining.first place _ here)) (c.requires.grown.each place _ here).allowed

pub join-requires-clause-spared : goal.join-requires-clause-spared
join-requires-clause-spared c =
    let sets = c.args.extension.now.sets.now in
    let old = c.args.groups.now.items in
    let place = c.loop-place.place in
    let here : place < length old = omega (arith, c.loop-place-test.true, c.len-place-end.ensures, c.args.groups.now.ok) in
    subst (IsSpared sets) (sym (c.loop-place.invariant.joining.first place _ here)) (record { missed = (c.requires.grown.each place _ here).missed })

pub join-requires-clause-few : goal.join-requires-clause-few
join-requires-clause-few c =
    let I = c.args.extension.now.case.now.instance.now in
    let n = c.args.extension.now.case.now.index in
    let old = c.args.groups.now.items in
    let place = c.loop-place.place in
    let here : place < length old = omega (arith, c.loop-place-test.true, c.len-place-end.ensures, c.args.groups.now.ok) in
    let most = (I.limits.chamber n no_chamber c.args.extension.now.case.now.chamber_in).most.1 in
    subst (λ g. length g.ships ≤ 8) (sym (c.loop-place.invariant.joining.first place _ here)) (omega (arith, most, (c.requires.grown.each place (record { way = Up; ships = [] }) here).few))

pub loop-place-preserved : goal.loop-place-preserved
loop-place-preserved c =
    let I = c.args.extension.now.case.now.instance.now in
    let n = c.args.extension.now.case.now.index in
    let k = c.args.extension.now.case.now.depth in
    let prices = c.args.extension.now.ceilings.now in
    let sets = c.args.extension.now.sets.now in
    let old = c.args.groups.now.items in
    let place = c.loop-place.place in
    let here : place < length old = omega (arith, c.loop-place-test.true, c.len-place-end.ensures, c.args.groups.now.ok) in
    let up : suc place ≡ place + 1 = omega arith in
    let step = subst (λ g. IsJoined (group_asked c.args.extension.now) c.args.ship g c.loop-place.groups.items c.join.new.groups.items) (c.loop-place.invariant.joining.first place _ here) c.in_ok-join.ensures.joined in
    record {
      joining =
          subst (λ i. AreJoining (group_asked c.args.extension.now) c.args.base.now c.args.ship old i c.join.new.groups.items) up
          (joining-next I n k prices sets c.args.base.now c.args.ship (missing-fresh I k c.args.ship c.requires.new.missing) old c.requires.grown place _ c.loop-place.groups.items c.join.new.groups.items here c.requires.known c.requires.new.way c.loop-place.invariant.joining step);
      weighed = c.in_ok-join.ensures.weighed;
    }
