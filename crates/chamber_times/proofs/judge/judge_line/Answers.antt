use Rattle.std.proofs.Common.{◌≡◌, ◌+◌, ◌<◌, length, take, get_or, All, ap, refl, ◌∙◌, arith}
use Rattle.std.proofs.lemmas.List.{take_all}
use Rattle.lock_model.specs.declared.plan.Lockage.{Lockage}
use Rattle.lock_rules.specs.Lines.{lockage_at}
use Rattle.chamber_times.specs.Walk.{line_places}
use Rattle.chamber_times.specs.FirstBreak.{IsFirstBreak}
use Rattle.chamber_times.proofs.WalkLemmas.{line_places-within, line_lockage, line_lockage-has}
use Rattle.chamber_times.proofs.BreakLemmas.{IsFirstBreak-untimely, IsFirstBreak-at, IsTimely-walked, AreTimely-more, stand_after-more, done_after-more}
use Rattle.chamber_times.proofs.judge.judge_line.Goals as goal

pub bounds-as_slice-place : goal.bounds-as_slice-place
bounds-as_slice-place c =
    omega (
      arith,
      line_places-within c.args.plan.now c.args.chamber c.as_slice-place-items.result.now c.loop-place.place-index (c.as_slice-place-items.ensures.value ∙ c.line_places-places.ensures) c.loop-place-test.true,
      ap length c.as_slice-in-loop-place.ensures.value,
    )

pub judge_start-requires-clause-ships_in : goal.judge_start-requires-clause-ships_in
judge_start-requires-clause-ships_in c =
    line_lockage-has c.args.plan.now c.args.chamber c.as_slice-place-items.result.now c.loop-place.place-index c.index-as_slice-place.result c.as_slice-in-loop-place.result.now
    (c.as_slice-place-items.ensures.value ∙ c.line_places-places.ensures) c.loop-place-test.true c.as_slice-in-loop-place.ensures.value c.index-as_slice-place.is
    (λ (l : Lockage). All (λ s. s < length c.args.instance.now.ships) l.ships) c.requires.ships_in

-- the lockage that broke a rule is the first break
first_break : (c : goal.In-Some) → IsFirstBreak c.args.instance.now c.args.plan.now c.args.chamber c.in-Some.broken
first_break c =
    let P = c.args.plan.now in
    let ps = c.as_slice-place-items.result.now in
    let i = c.loop-place.place-index in
    let l = c.index-as_slice-place.result in
    let same : ps ≡ line_places P c.args.chamber = c.as_slice-place-items.ensures.value ∙ c.line_places-places.ensures in
    let here : l ≡ lockage_at P (get_or ps i 0) = line_lockage P c.args.chamber ps i l c.as_slice-in-loop-place.result.now same c.loop-place-test.true c.as_slice-in-loop-place.ensures.value c.index-as_slice-place.is in
    IsFirstBreak-at c.args.instance.now c.args.chamber P ps i c.loop-place-test.true c.loop-place.stand c.loop-place.from l c.loop-place.invariant.stand c.loop-place.invariant.from here
    c.in-Some.broken same c.loop-place.invariant.timely c.in-Some.ensures.some

pub returns-in-Some-clause-none : goal.returns-in-Some-clause-none
returns-in-Some-clause-none c = (
  λ never. absurd (cc),
  λ timely. absurd (IsFirstBreak-untimely c.args.instance.now c.args.chamber c.args.plan.now c.in-Some.broken (first_break c) timely),
)

pub returns-in-Some-clause-some : goal.returns-in-Some-clause-some
returns-in-Some-clause-some c = first_break c

pub duration-requires-clause-ships_in : goal.duration-requires-clause-ships_in
duration-requires-clause-ships_in c =
    line_lockage-has c.args.plan.now c.args.chamber c.as_slice-place-items.result.now c.loop-place.place-index c.index-as_slice-place.result c.as_slice-in-loop-place.result.now
    (c.as_slice-place-items.ensures.value ∙ c.line_places-places.ensures) c.loop-place-test.true c.as_slice-in-loop-place.ensures.value c.index-as_slice-place.is
    (λ (l : Lockage). All (λ s. s < length c.args.instance.now.ships) l.ships) c.requires.ships_in

pub loop-place-preserved : goal.loop-place-preserved
loop-place-preserved c =
    let I = c.args.instance.now in
    let P = c.args.plan.now in
    let ps = c.as_slice-place-items.result.now in
    let i = c.loop-place.place-index in
    let l = c.index-as_slice-place.result in
    let same : ps ≡ line_places P c.args.chamber = c.as_slice-place-items.ensures.value ∙ c.line_places-places.ensures in
    let here : l ≡ lockage_at P (get_or ps i 0) = line_lockage P c.args.chamber ps i l c.as_slice-in-loop-place.result.now same c.loop-place-test.true c.as_slice-in-loop-place.ensures.value c.index-as_slice-place.is in
    record {
      timely = AreTimely-more I c.args.chamber P ps i c.loop-place-test.true c.loop-place.stand c.loop-place.from l c.loop-place.invariant.stand c.loop-place.invariant.from here c.loop-place.invariant.timely (c.in_default.ensures.none.0 refl);
      stand = c.stand_after-stand.ensures ∙ stand_after-more I c.args.chamber P ps i c.loop-place-test.true c.loop-place.stand c.loop-place.from l c.loop-place.invariant.stand c.loop-place.invariant.from here;
      from = ap (λ n. l.start + n) c.duration.ensures.value ∙ done_after-more I c.args.chamber P ps i c.loop-place-test.true c.loop-place.stand c.loop-place.from l c.loop-place.invariant.stand c.loop-place.invariant.from here;
      small = omega arith;
    }

pub returns-clause-none : goal.returns-clause-none
returns-clause-none c =
    let ps = c.as_slice-place-items.result.now in
    let i = c.loop-place.place-index in
    let all : take i ps ≡ ps = take_all i ps c.loop-place-test.false in (
      λ none. IsTimely-walked c.args.instance.now c.args.chamber c.args.plan.now (take i ps) (all ∙ c.as_slice-place-items.ensures.value ∙ c.line_places-places.ensures) c.loop-place.invariant.timely,
      λ timely. refl,
    )
