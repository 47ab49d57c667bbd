use Rattle.std.proofs.Common.{◌≤ℤ◌, pos, refl, sym, ◌∙◌, subst, arith}
use Rattle.lock_rules.specs.Lawful.{stand_after}
use Rattle.price_groups.specs.Asked.{line_asked}
use Rattle.price_table.specs.Values.{IsValue}
use Rattle.price_table.proofs.FrameLemmas.{value-far, worth-far, far-rounded}
use Rattle.price_table.proofs.ThresholdLemmas.{threshold-next}
use Rattle.price_table.proofs.SweepLemmas.{low-rounded, high-rounded, told-far, swept-next}
use Rattle.price_table.proofs.sweeping.sweep_one.Goals as goal

pub is_reached-requires-clause-worth_low : goal.is_reached-requires-clause-worth_low
is_reached-requires-clause-worth_low c =
    let served = c.serve_open-served.ensures in
    low-rounded c.serve_open-served.result.worth (worth-far c.serve_open-served.result.worth served.low served.high)

pub is_reached-requires-clause-worth_high : goal.is_reached-requires-clause-worth_high
is_reached-requires-clause-worth_high c =
    let served = c.serve_open-served.ensures in
    high-rounded c.serve_open-served.result.worth (worth-far c.serve_open-served.result.worth served.low served.high)

pub returns-then-is_reached-clause-counted : goal.returns-then-is_reached-clause-counted
returns-then-is_reached-clause-counted c =
    let served = c.serve_open-served.ensures in
    let reached = c.if-is_reached.ensures in
    let more = subst (λ w. c.args.counted.now.threshold.worth ≤ℤ w) (far-rounded c.serve_open-served.result.worth (worth-far c.serve_open-served.result.worth served.low served.high) ∙ served.worth) (reached.worth refl) in
    λ told. c.requires.threshold.over c.args.successor.now c.requires.is (c.if-not-has.ensures.joins refl) (c.if-not-has.ensures.way refl) (omega (arith, reached.end refl, served.end)) more (subst (λ w. w ≤ℤ pos 30000000000) served.worth served.high)

pub lesser-best-requires-clause-behind_low : goal.lesser-best-requires-clause-behind_low
lesser-best-requires-clause-behind_low c =
    let table = c.args.table.now in
    let case = table.case.now in
    let I = case.instance.now in
    let route = c.args.route.now in
    low-rounded c.in-Some.value (told-far (line_asked case) case.chamber_in table.horizon table.small c.args.values.now c.requires.values route.place c.stand_after.result c.serve_open-served.result.end c.in-Some.value c.requires.place c.in-Some.ensures)

pub lesser-best-requires-clause-behind_high : goal.lesser-best-requires-clause-behind_high
lesser-best-requires-clause-behind_high c =
    let table = c.args.table.now in
    let case = table.case.now in
    let I = case.instance.now in
    let route = c.args.route.now in
    high-rounded c.in-Some.value (told-far (line_asked case) case.chamber_in table.horizon table.small c.args.values.now c.requires.values route.place c.stand_after.result c.serve_open-served.result.end c.in-Some.value c.requires.place c.in-Some.ensures)

pub threshold-requires-clause-value_low : goal.threshold-requires-clause-value_low
threshold-requires-clause-value_low c =
    let table = c.args.table.now in
    let case = table.case.now in
    let I = case.instance.now in
    let route = c.args.route.now in
    low-rounded c.in-Some.value (told-far (line_asked case) case.chamber_in table.horizon table.small c.args.values.now c.requires.values route.place c.stand_after.result c.serve_open-served.result.end c.in-Some.value c.requires.place c.in-Some.ensures)

pub threshold-requires-clause-value_high : goal.threshold-requires-clause-value_high
threshold-requires-clause-value_high c =
    let table = c.args.table.now in
    let case = table.case.now in
    let I = case.instance.now in
    let route = c.args.route.now in
    high-rounded c.in-Some.value (told-far (line_asked case) case.chamber_in table.horizon table.small c.args.values.now c.requires.values route.place c.stand_after.result c.serve_open-served.result.end c.in-Some.value c.requires.place c.in-Some.ensures)

pub threshold-requires-clause-best_low : goal.threshold-requires-clause-best_low
threshold-requires-clause-best_low c =
    let table = c.args.table.now in
    let case = table.case.now in
    let I = case.instance.now in
    let route = c.args.route.now in
    let served = c.serve_open-served.ensures in
    let now = swept-next (line_asked case) case.chamber_in table.horizon table.small case.kept c.args.values.now c.requires.values c.args.ready.now route c.args.successor.now c.requires.early c.requires.route c.requires.place c.requires.is (c.if-not-has.ensures.joins refl) (c.if-not-has.ensures.way refl)
    c.stand_after.result c.serve_open-served.result.end c.in-Some.value c.serve_open-served.result.worth c.args.counted.now.best c.lesser-best.result c.stand_after.ensures served.end c.in-Some.ensures served.worth served.low served.high c.requires.best c.lesser-best.ensures in
    (value-far _ table.horizon c.args.ready.now.state.minute table.small now.0.low now.0.high).0

pub threshold-requires-clause-best_high : goal.threshold-requires-clause-best_high
threshold-requires-clause-best_high c =
    let table = c.args.table.now in
    let case = table.case.now in
    let I = case.instance.now in
    let route = c.args.route.now in
    let served = c.serve_open-served.ensures in
    let now = swept-next (line_asked case) case.chamber_in table.horizon table.small case.kept c.args.values.now c.requires.values c.args.ready.now route c.args.successor.now c.requires.early c.requires.route c.requires.place c.requires.is (c.if-not-has.ensures.joins refl) (c.if-not-has.ensures.way refl)
    c.stand_after.result c.serve_open-served.result.end c.in-Some.value c.serve_open-served.result.worth c.args.counted.now.best c.lesser-best.result c.stand_after.ensures served.end c.in-Some.ensures served.worth served.low served.high c.requires.best c.lesser-best.ensures in
    (value-far _ table.horizon c.args.ready.now.state.minute table.small now.0.low now.0.high).1

pub returns-in-Some-clause-best : goal.returns-in-Some-clause-best
returns-in-Some-clause-best c =
    let table = c.args.table.now in
    let case = table.case.now in
    let I = case.instance.now in
    let route = c.args.route.now in
    let served = c.serve_open-served.ensures in
    (swept-next (line_asked case) case.chamber_in table.horizon table.small case.kept c.args.values.now c.requires.values c.args.ready.now route c.args.successor.now c.requires.early c.requires.route c.requires.place c.requires.is (c.if-not-has.ensures.joins refl) (c.if-not-has.ensures.way refl)
    c.stand_after.result c.serve_open-served.result.end c.in-Some.value c.serve_open-served.result.worth c.args.counted.now.best c.lesser-best.result c.stand_after.ensures served.end c.in-Some.ensures served.worth served.low served.high c.requires.best c.lesser-best.ensures).0

pub returns-in-Some-clause-less : goal.returns-in-Some-clause-less
returns-in-Some-clause-less c =
    let table = c.args.table.now in
    let case = table.case.now in
    let I = case.instance.now in
    let route = c.args.route.now in
    let served = c.serve_open-served.ensures in
    (swept-next (line_asked case) case.chamber_in table.horizon table.small case.kept c.args.values.now c.requires.values c.args.ready.now route c.args.successor.now c.requires.early c.requires.route c.requires.place c.requires.is (c.if-not-has.ensures.joins refl) (c.if-not-has.ensures.way refl)
    c.stand_after.result c.serve_open-served.result.end c.in-Some.value c.serve_open-served.result.worth c.args.counted.now.best c.lesser-best.result c.stand_after.ensures served.end c.in-Some.ensures served.worth served.low served.high c.requires.best c.lesser-best.ensures).2

pub returns-in-Some-clause-counted : goal.returns-in-Some-clause-counted
returns-in-Some-clause-counted c =
    let table = c.args.table.now in
    let case = table.case.now in
    let I = case.instance.now in
    let route = c.args.route.now in
    let served = c.serve_open-served.ensures in
    λ told. (swept-next (line_asked case) case.chamber_in table.horizon table.small case.kept c.args.values.now c.requires.values c.args.ready.now route c.args.successor.now c.requires.early c.requires.route c.requires.place c.requires.is (c.if-not-has.ensures.joins refl) (c.if-not-has.ensures.way refl)
    c.stand_after.result c.serve_open-served.result.end c.in-Some.value c.serve_open-served.result.worth c.args.counted.now.best c.lesser-best.result c.stand_after.ensures served.end c.in-Some.ensures served.worth served.low served.high c.requires.best c.lesser-best.ensures).1

pub returns-in-Some-clause-threshold : goal.returns-in-Some-clause-threshold
returns-in-Some-clause-threshold c =
    let table = c.args.table.now in
    let case = table.case.now in
    let I = case.instance.now in
    let route = c.args.route.now in
    let end = c.serve_open-served.result.end in
    let value = c.requires.values.told route.place c.stand_after.result end c.in-Some.value c.requires.place c.in-Some.ensures in
    let far = value-far c.in-Some.value table.horizon end table.small value.low value.high in
    let plain = subst (IsValue (line_asked case) table.horizon route.place (stand_after route.way) end) (sym (far-rounded c.in-Some.value far)) (subst (λ stand. IsValue (line_asked case) table.horizon route.place stand end c.in-Some.value) c.stand_after.ensures value) in
    threshold-next (line_asked case) case.chamber_in c.args.ready.now route table.horizon _ _ end c.threshold.result c.requires.route c.threshold.ensures.end c.threshold.ensures.low c.threshold.ensures.high c.threshold.ensures.worth plain
