-- Loose lines, group by group, and what they are worth.
use Rattle.std.proofs.Common.{◌≡◌, ℕ, suc, ◌+◌, ◌-◌, ◌*◌, ◌<◌, ◌≤◌, pos, ◌+ℤ◌, ◌-ℤ◌, ◌≤ℤ◌, Bool, List, [], ◌∷◌, length, filter, All, Contains, sum_by, refl, arith, slice_index_or}
use Rattle.std.specs.List.Sorted.{IsStrictlyIncreasing}
use Rattle.std.proofs.lemmas.Int.{ints}
use Rattle.std.proofs.lemmas.List.Sums.{sum_by-cons}
use Rattle.std.proofs.lemmas.List.Elements.{All-head, All-tail, All-cons, All-filter, All-weaker, All-contains, Contains-get_or, filter_passes}
use Rattle.list_laws.proofs.Counts.{filter-shorter}
use Rattle.lock_model.specs.Fleet.{ship_at, chamber_at, no_chamber}
use Rattle.lock_model.specs.declared.instance.Instance.{Instance}
use Rattle.lock_model.specs.declared.group.Group.{Group}
use Rattle.lock_model.specs.declared.way.Way.{Way}
use Rattle.lock_model.specs.declared.way.Stand.{Stand}
use Rattle.lock_rules.specs.Lawful.{stand_after}
use Rattle.lock_rules.specs.Timetable.{timetable_from, starts_of}
use Rattle.lock_rules.specs.Arrival.{first_ships}
use Rattle.lock_rules.specs.Trace.{has_number, with_group, trace_by}
use Rattle.lock_rules.specs.Bound.{flow_of}
use Rattle.lock_rules.proofs.TreeLemmas.{RisesFrom-filter}
use Rattle.lock_rules.proofs.SplitLemmas.{RisesFrom-increasing}
use Rattle.lock_rules.proofs.NodeLemmas.{increasing-RisesFrom}
use Rattle.lock_rules.proofs.CountLemmas.{sum_by-parts}
use Rattle.lock_rules.proofs.LineLemmas.{sum_by-each}
use Rattle.lock_rules.proofs.TimetableLemmas.{start_of-lawful, timetable-lawful}
use Rattle.lock_rules.proofs.TraceLemmas.{Dominates-itself, kept_flow, trace-flow}
use Rattle.price_rules.specs.Prices.{PriceList, PlainCut, Spares, IsUncut, is_missing, price_at, paid_by, paid_in, charged_on, charged_by, charged_in}
use Rattle.price_rules.proofs.ChargeLemmas.{charged-filter}
use Rattle.price_groups.specs.Worth.{end_after, worth_of, worth_from, IsHorizon}

sum_by-times : (f : ℕ → ℕ) (xs : List ℕ) → sum_by (λ s. 100 * f s) xs ≡ 100 * sum_by f xs
sum_by-times f [] = refl
sum_by-times f (x ∷ xs) = omega (arith, sum_by-times f xs, sum_by-cons f x xs, sum_by-cons (λ s. 100 * f s) x xs)

module _ (I : Instance) (c : ℕ) (cuts : List PlainCut) where
  -- Some ships of an uncut group are uncut: so sets may be listed by growing them while no cut hits.
  pub uncut-among : (g : Group) (ks : List ℕ) → IsUncut I c cuts g → All (Contains g.ships) ks → IsStrictlyIncreasing ks → 1 ≤ length ks → length ks ≤ length g.ships → IsUncut I c cuts (record { way = g.way; ships = ks })
  uncut-among g ks uncut among rising some few = record {
    good = record {
      rising = rising;
      count = (some, omega (arith, few, uncut.good.count.1));
      way = All-weaker (Contains g.ships) (λ s. (ship_at I s).way ≡ g.way) (λ s h. All-contains (λ s. (ship_at I s).way ≡ g.way) g.ships s uncut.good.way h) ks among;
    };
    known = All-weaker (Contains g.ships) (λ s. s < length I.ships) (λ s h. All-contains (λ s. s < length I.ships) g.ships s uncut.known h) ks among;
    spared = All-weaker (Spares I c g.ships) (Spares I c ks) (λ cut spares. record {
      spared = λ hits. spares.spared (record {
        among = All-weaker (Contains ks) (Contains g.ships) (λ s h. All-contains (Contains g.ships) ks s among h) cut.ships hits.among;
        sizes = hits.sizes;
        tight = hits.tight;
      });
    }) cuts uncut.spared;
  }

  pub uncut-part : (p : ℕ → Bool) (g : Group) → IsUncut I c cuts g → 1 ≤ length (filter p g.ships) → IsUncut I c cuts (record { way = g.way; ships = filter p g.ships })
  uncut-part p g uncut some =
      uncut-among g (filter p g.ships) uncut
      (All-filter p (Contains g.ships) g.ships (λ k d here. Contains-get_or g.ships k d here))
      (increasing-RisesFrom 0 (filter p g.ships) (RisesFrom-filter p 0 g.ships (RisesFrom-increasing g.ships uncut.good.rising)))
      some (filter-shorter p g.ships)

  -- the trace of uncut groups has uncut groups
  pub uncut-trace : (p : ℕ → Bool) (gs : List Group) → All (IsUncut I c cuts) gs → All (IsUncut I c cuts) (trace_by p gs)
  uncut-trace p [] all = all
  uncut-trace p (g ∷ gs) all =
      put g.way (filter p g.ships) (trace_by p gs) (uncut-trace p gs (All-tail (IsUncut I c cuts) g gs all)) (uncut-part p g (All-head (IsUncut I c cuts) g gs all))
    where
      put : (way : Way) (ks : List ℕ) (rest : List Group) → All (IsUncut I c cuts) rest → (1 ≤ length ks → IsUncut I c cuts (record { way = way; ships = ks })) → All (IsUncut I c cuts) (with_group way ks rest)
      put way [] rest all make = all
      put way (k ∷ ks) rest all make = All-cons (IsUncut I c cuts) (record { way = way; ships = k ∷ ks }) rest (make (omega arith)) all

-- the trace of a line is charged no more than the line
charged-trace : (prices : PriceList) (p : ℕ → Bool) (gs : List Group) → charged_in prices (trace_by p gs) ≤ charged_in prices gs
charged-trace prices p [] = omega arith
charged-trace prices p (g ∷ gs) = put g.way (filter p g.ships) (trace_by p gs) (charged-filter prices p g.ships) (charged-trace prices p gs)
  where
    put : (way : Way) (ks : List ℕ) (rest : List Group) → charged_on prices ks ≤ charged_on prices g.ships → charged_in prices rest ≤ charged_in prices gs
        → charged_in prices (with_group way ks rest) ≤ charged_in prices (g ∷ gs)
    put way [] rest here more = omega (arith, more)
    put way (k ∷ ks) rest here more = omega (arith, here, more)

module _ (I : Instance) (c k : ℕ) (prices : PriceList) where
  -- a line is worth its first group and the rest
  pub worth-next : (stand : Stand) (from : ℕ) (g : Group) (gs : List Group)
      → worth_from I c k prices stand from (g ∷ gs) ≡ (worth_of I c k prices stand from g +ℤ worth_from I c k prices (stand_after g.way) (end_after I c stand from g) gs)
  worth-next stand from g gs =
      step (sum_by (λ s. end_after I c stand from g - (ship_at I s).arrival) g.ships) (charged_by prices g) (paid_by I k prices g)
      (flow_of I gs (timetable_from I c (stand_after g.way) (end_after I c stand from g) gs)) (charged_in prices gs) (paid_in I k prices gs)
    where
      step : (a d b x e y : ℕ) → (pos (100 * (a + x) + (d + e)) -ℤ pos (b + y)) ≡ ((pos (100 * a + d) -ℤ pos b) +ℤ (pos (100 * x + e) -ℤ pos y))
      step a d b x e y = omega (arith, ints)

  module _ (known : c < length I.chambers) where
    -- each end is later than the minute before
    pub end-later : (stand : Stand) (from : ℕ) (g : Group) → suc from ≤ end_after I c stand from g
    end-later stand from g = omega (arith, (start_of-lawful I c known stand from g).later, (I.limits.chamber c no_chamber known).pass.0)

    module _ (horizon : ℕ) (late : IsHorizon I k prices horizon) where
      abbrev kept : ℕ → Bool
      kept = has_number (first_ships I k)

      -- from the horizon on missing ships pay no more than their flow times
      late-group : (end : ℕ) (g : Group) → horizon ≤ end → All (λ s. s < length I.ships) g.ships → paid_by I k prices g ≤ 100 * sum_by (λ s. end - (ship_at I s).arrival) (filter (is_missing I k) g.ships)
      late-group end g past numbers =
          let missing = filter (is_missing I k) g.ships in
          let own : All (λ s. s < length I.ships) missing = All-filter (is_missing I k) (λ s. s < length I.ships) g.ships numbers in
          let passes = filter_passes (is_missing I k) g.ships in
          let each : All (λ s. price_at prices s ≤ 100 * (end - (ship_at I s).arrival)) missing = λ j d here. (
          let h = late.late (slice_index_or missing j d) (own j d here) (passes j d here) in
          omega (arith, h)
          ) in
          omega (
            arith,
            sum_by-each (price_at prices) (λ s. 100 * (end - (ship_at I s).arrival)) missing each,
            sum_by-times (λ s. end - (ship_at I s).arrival) missing,
          )

      late-paid : (stand : Stand) (from : ℕ) (gs : List Group) → horizon ≤ from → All (λ g. All (λ s. s < length I.ships) g.ships) gs
          → paid_in I k prices gs + 100 * kept_flow I c known kept gs (starts_of (timetable_from I c stand from gs)) ≤ 100 * flow_of I gs (timetable_from I c stand from gs)
      late-paid stand from [] past numbers = omega arith
      late-paid stand from (g ∷ gs) past numbers =
          let end = end_after I c stand from g in
          let later = end-later stand from g in
          let rest = late-paid (stand_after g.way) end gs (omega (arith, later, past)) (All-tail (λ (g : Group). All (λ s. s < length I.ships) g.ships) g gs numbers) in
          let here = late-group end g (omega (arith, later, past)) (All-head (λ (g : Group). All (λ s. s < length I.ships) g.ships) g gs numbers) in
          let parts = sum_by-parts (λ s. end - (ship_at I s).arrival) kept g.ships in
          omega (arith, rest, here, parts)

      -- FROM THE HORIZON ON the line's own groups are worth no more than any loose line.
      pub late-least : (stand : Stand) (from : ℕ) (gs : List Group) → horizon ≤ from → All (λ g. All (λ s. s < length I.ships) g.ships) gs
          → worth_from I c k prices stand from (trace_by kept gs) ≤ℤ worth_from I c k prices stand from gs
      late-least stand from gs past numbers =
          step (flow_of I (trace_by kept gs) (timetable_from I c stand from (trace_by kept gs))) (charged_in prices (trace_by kept gs)) (paid_in I k prices (trace_by kept gs))
          (flow_of I gs (timetable_from I c stand from gs)) (charged_in prices gs) (paid_in I k prices gs) (kept_flow I c known kept gs (starts_of (timetable_from I c stand from gs)))
          (trace-flow I c known kept stand stand from from gs (starts_of (timetable_from I c stand from gs)) (Dominates-itself (chamber_at I c) stand from) (timetable-lawful I c known stand from gs))
          (late-paid stand from gs past numbers)
          (charged-trace prices kept gs)
        where
          step : (a d b x e y f : ℕ) → a ≤ f → y + 100 * f ≤ 100 * x → d ≤ e → (pos (100 * a + d) -ℤ pos b) ≤ℤ (pos (100 * x + e) -ℤ pos y)
          step a d b x e y f h j l = omega (arith, ints)
