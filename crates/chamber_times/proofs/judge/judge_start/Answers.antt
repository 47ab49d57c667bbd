use Rattle.std.proofs.Common.{◌≡◌, ◌<◌, ◌≤◌, ◌+◌, true, false, ap, refl, sym, subst, arith}
use Rattle.std.proofs.lemmas.Grind.{common_steps}
use Rattle.lock_model.specs.Fleet.{chamber_at}
use Rattle.lock_rules.specs.Lawful.{IsFree, duration_of}
use Rattle.lock_rules.specs.Timetable.{ready_at}
use Rattle.chamber_times.specs.FirstBreak.{IsSoon}
use Rattle.chamber_times.specs.declared.breaks.BrokenTime.TheVariants.{Soon}
use Rattle.chamber_times.proofs.BreakLemmas.{Breaks-unlawful, IsSoon-before, IsLawfulStart-free, IsShut-not_free}
use Rattle.chamber_times.proofs.judge.judge_start.Goals as goal

too_soon : (c : goal.Then-start-ready) → IsSoon c.args.instance.now c.args.chamber c.args.stand c.args.from c.args.lockage.now
too_soon c =
    let lock : c.index-as_slice-chamber.result ≡ chamber_at c.args.instance.now c.args.chamber = grind (arith, common_steps) in
    let before : c.args.lockage.now.start < ready_at (chamber_at c.args.instance.now c.args.chamber) c.args.stand c.args.from c.args.lockage.now.way =
    omega (arith, c.if-start-ready.true, c.ready.ensures.value, ap (λ k. ready_at k c.args.stand c.args.from c.args.lockage.now.way) lock) in
    IsSoon-before c.args.instance.now c.args.chamber c.args.stand c.args.from c.args.lockage.now c.if-is_early.ensures.on_time before

pub returns-then-start-ready-clause-none : goal.returns-then-start-ready-clause-none
returns-then-start-ready-clause-none c = (
  λ never. absurd (cc),
  λ lawful. absurd (Breaks-unlawful c.args.instance.now c.args.chamber c.args.stand c.args.from c.args.lockage.now c.args.place (Soon c.args.place) (refl, too_soon c) lawful),
)

pub returns-then-start-ready-clause-some : goal.returns-then-start-ready-clause-some
returns-then-start-ready-clause-some c = (refl, too_soon c)

pub returns-then-not-is_free-clause-some : goal.returns-then-not-is_free-clause-some
returns-then-not-is_free-clause-some c =
    let I = c.args.instance.now in
    let l = c.args.lockage.now in
    let lock : c.index-as_slice-chamber.result ≡ chamber_at I c.args.chamber = grind (arith, common_steps) in
    let ready : ready_at (chamber_at I c.args.chamber) c.args.stand c.args.from l.way ≤ l.start =
    omega (arith, c.if-start-ready.false, c.ready.ensures.value, ap (λ k. ready_at k c.args.stand c.args.from l.way) lock) in
    let end : l.start + c.duration.result ≡ l.start + duration_of I c.args.chamber l.ships = omega (arith, c.duration.ensures.value) in (
      refl,
      IsShut-not_free I c.args.chamber c.requires.chamber_in c.args.stand c.args.from l c.if-is_early.ensures.on_time ready (λ free.
          let never : false ≡ true =
          c.if-not-is_free.ensures.1 (subst (λ k. IsFree k.closures l.start (l.start + c.duration.result)) (sym lock) (subst (IsFree (chamber_at I c.args.chamber).closures l.start) (sym end) free)) in
          cc),
    )

pub returns-clause-none : goal.returns-clause-none
returns-clause-none c =
    let I = c.args.instance.now in
    let l = c.args.lockage.now in
    let lock : c.index-as_slice-chamber.result ≡ chamber_at I c.args.chamber = grind (arith, common_steps) in
    let ready : ready_at (chamber_at I c.args.chamber) c.args.stand c.args.from l.way ≤ l.start =
    omega (arith, c.if-start-ready.false, c.ready.ensures.value, ap (λ k. ready_at k c.args.stand c.args.from l.way) lock) in
    let end : l.start + c.duration.result ≡ l.start + duration_of I c.args.chamber l.ships = omega (arith, c.duration.ensures.value) in
    let free : IsFree (chamber_at I c.args.chamber).closures l.start (l.start + duration_of I c.args.chamber l.ships) =
    subst (IsFree (chamber_at I c.args.chamber).closures l.start) end (subst (λ k. IsFree k.closures l.start (l.start + c.duration.result)) lock (c.if-not-is_free.ensures.0 refl)) in
    (λ same. IsLawfulStart-free I c.args.chamber c.requires.chamber_in c.args.stand c.args.from l c.if-is_early.ensures.on_time ready free, λ lawful. refl)
