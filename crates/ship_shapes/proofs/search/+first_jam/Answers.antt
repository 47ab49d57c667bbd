use Rattle.std.proofs.Common.{◌≡◌, ◌+◌, ◌-◌, ◌∷◌, arith, rules, subst, sym}
use Rattle.ship_shapes.specs.Lanes.{along_of}
use Rattle.ship_shapes.specs.Jams.{AreChosen, IsCrowdedBy}
use Rattle.ship_shapes.proofs.JamLemmas.{none_short, chosen_less, chosen_more, chosen_after, chosen_few, before_step, none_apart, first_without, none_by, first_by}
use Rattle.ship_shapes.proofs.search.+first_jam.Goals as goal

pub returns-then-not-is_long-clause-none : goal.returns-then-not-is_long-clause-none
returns-then-not-is_long-clause-none t c = none_short c.args.lane.now c.args.below c.args.chosen.now c.args.along c.args.most c.requires.along c.requires.most (c.is_long.ensures.no.0 c.if-not-is_long.true)

pub first_jam-requires : goal.first_jam-requires
first_jam-requires t c =
    let e : c.args.below ≡ (c.args.below - 1) + 1 = omega arith in
    let step = before_step c.args.lane.now (c.args.below - 1) c.args.below e in
    let own = c.along-own.ensures.value in
    let most = c.requires.most in
    (omega arith, (omega arith, (chosen_less c.args.lane.now (c.args.below - 1) c.args.below c.args.chosen.now e c.requires.chosen, (c.requires.along, (omega (arith, step, own, most), omega arith)))))

pub returns-in-Some-clause-some : goal.returns-in-Some-clause-some
returns-in-Some-clause-some t c =
    let e : c.args.below ≡ (c.args.below - 1) + 1 = omega arith in
    first_without c.args.lane.now (c.args.below - 1) c.args.below c.args.chosen.now e c.in-Some.jam c.in-Some.ensures.some

pub returns-then-not-is_crowded_by-clause-none : goal.returns-then-not-is_crowded_by-clause-none
returns-then-not-is_crowded_by-clause-none t c =
    let e : c.args.below ≡ (c.args.below - 1) + 1 = omega arith in
    let apart : IsCrowdedBy c.args.lane.now (c.args.below - 1) c.args.chosen.now → ⊥ = search rules in
    none_apart c.args.lane.now (c.args.below - 1) c.args.below c.args.chosen.now e c.in_default.ensures.none apart

pub with_first-requires-clause-room : goal.with_first-requires-clause-room
with_first-requires-clause-room t c = omega (arith, chosen_few c.args.lane.now c.args.below c.args.chosen.now c.requires.chosen c.requires.below, c.along-own.ensures.room)

pub with_first-requires-clause-before : goal.with_first-requires-clause-before
with_first-requires-clause-before t c =
    let e : c.args.below ≡ (c.args.below - 1) + 1 = omega arith in
    chosen_after c.args.lane.now (c.args.below - 1) c.args.below c.args.chosen.now e c.requires.chosen

pub first_jam-requires-2 : goal.first_jam-requires-2
first_jam-requires-2 t c =
    let e : c.args.below ≡ (c.args.below - 1) + 1 = omega arith in
    let step = before_step c.args.lane.now (c.args.below - 1) c.args.below e in
    let own = c.along-own.ensures.value in
    let most = c.requires.most in
    let along = c.requires.along in
    let by : IsCrowdedBy c.args.lane.now (c.args.below - 1) c.args.chosen.now = search rules in
    let more = chosen_more c.args.lane.now (c.args.below - 1) c.args.below c.args.chosen.now e (omega arith) c.requires.chosen by in
    let made : c.with_first.result ≡ (c.args.below - 1) ∷ c.args.chosen.now = c.with_first.ensures in
    (omega arith, (omega arith, (subst (AreChosen c.args.lane.now (c.args.below - 1)) (sym made) more, (subst (λ T. c.args.along + c.along-own.result ≡ along_of c.args.lane.now T) (sym made) (omega (arith, own, along)), (omega (arith, step, own, most), omega (arith, step, own, most))))))

pub returns-clause-none : goal.returns-clause-none
returns-clause-none t c =
    let e : c.args.below ≡ (c.args.below - 1) + 1 = omega arith in
    none_by c.args.lane.now (c.args.below - 1) c.args.below c.args.chosen.now e c.with_first.result c.first_jam-2.result c.with_first.ensures c.in_default.ensures.none c.first_jam-2.ensures.none

pub returns-clause-some : goal.returns-clause-some
returns-clause-some t c =
    let e : c.args.below ≡ (c.args.below - 1) + 1 = omega arith in
    first_by c.args.lane.now (c.args.below - 1) c.args.below c.args.chosen.now e c.with_first.result c.first_jam-2.result c.with_first.ensures c.in_default.ensures.none c.first_jam-2.ensures.some
