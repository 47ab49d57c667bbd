-- A label whose bound by prices is above the goal has no completion of a total below it.
use Rattle.std.proofs.lemmas.Int.{ints}
use Rattle.std.proofs.Common.{◌≡◌, ◌≢◌, ℕ, zero, suc, ◌+◌, ◌*◌, ◌<◌, ◌≤◌, ℤ, pos, ◌+ℤ◌, ◌-ℤ◌, ◌≤ℤ◌, ◌||◌, Bool, true, false, cond, List, [], ◌∷◌, ◌++◌, length, All, sum_by, filter, inl, inr, refl, sym, ◌∙◌, subst, arith, slice_index_or}
use Rattle.std.specs.List.{flat_map}
use Rattle.std.proofs.lemmas.Bool.Decides.{eqb_tells, leb_tells}
use Rattle.std.proofs.lemmas.List.Sums.{sum_by-cons, sum_by-append}
use Rattle.lock_model.specs.declared.instance.Instance.{Instance}
use Rattle.lock_model.specs.declared.group.Group.{Group}
use Rattle.lock_model.specs.declared.way.Way.{Way}
use Rattle.lock_model.specs.declared.way.Stand.{Stand}
use Rattle.lock_rules.specs.Timetable.{timetable_from}
use Rattle.lock_rules.specs.Lawful.{stand_before, stand_after}
use Rattle.lock_rules.specs.Plan.{times_in}
use Rattle.lock_rules.specs.Trace.{has_number, trace_of, with_group}
use Rattle.lock_rules.specs.Arrival.{numbers_from}
use Rattle.lock_rules.specs.Node.{times_on}
use Rattle.lock_rules.specs.Bound.{flow_of}
use Rattle.lock_rules.proofs.CountLemmas.{sum_by-counts, times_in-append, times_in-outside}
use Rattle.lock_rules.proofs.LeafLemmas.{sum_by-flat_map}
use Rattle.lock_rules.proofs.LeafLemmas.{has_number-some}
use Rattle.lock_rules.proofs.SplitLemmas.{All-times, has_number-none, RisesFrom-increasing}
use Rattle.lock_rules.proofs.LineLemmas.{sum_by-each, sum_by-plus, sum_by-zero}
use Rattle.price_rules.specs.Prices.{PlainCut, IsUncut, IsLoose, PriceList, price_at, paid_in, charged_on, charged_in}
use Rattle.price_rules.proofs.ChargeLemmas.{one, has-times, charged-among, charged-parts}
use Rattle.sweep_rules.specs.Uncut.{times_over}
use Rattle.sweep_rules.specs.Label.{Label, IsWanted, CanGoOn, IsGoneOn, end_on, flow_on}
use Rattle.sweep_rules.specs.Completion.{IsCompletion, EndsBelow, flow_starting}
use Rattle.sweep_rules.specs.Gain.{IsWayOn, IsGainFrom, IsGain, IsAbove, timetable_after, ships_missing, prices_missing, triples_missing}
use Rattle.sweep_rules.proofs.FlowLemmas.{flow-after, flow-later, flow-ready, flow-minutes}
use Rattle.sweep_rules.proofs.GoingLemmas.{still-missing, others-later}
use Rattle.sweep_rules.proofs.MissingLemmas.{ships_of, times_in-ships_of, paid-ships, missing-counts, missing-one, missing-none, missing-past, missing-has, times_on-past, times_in-flat}
use Rattle.sweep_rules.proofs.OverLemmas.{sum-same, completion-on, rising-once}
use Rattle.sweep_rules.proofs.ReadyLemmas.{way_on-head, uncut-ship, ship-wanted}

-- one sum bounded by another, part by part
sum-bounded : (p f g : ℕ → ℕ) (low n : ℕ) → ((c : ℕ) → low ≤ c → c < low + n → p c ≤ 100 * f c + g c) → sum_by p (numbers_from low n) ≤ 100 * sum_by f (numbers_from low n) + sum_by g (numbers_from low n)
sum-bounded p f g low zero each = omega arith
sum-bounded p f g low (suc n) each =
    omega (
      arith,
      each low (omega arith) (omega arith),
      sum-bounded p f g (suc low) n (λ c h less. each c (omega arith) (omega arith)),
      sum_by-cons p low (numbers_from (suc low) n),
      sum_by-cons f low (numbers_from (suc low) n),
      sum_by-cons g low (numbers_from (suc low) n),
    )

-- a line is charged group by group
charged-line : (prices : PriceList) (gs : List Group) → charged_in prices gs ≡ sum_by (λ g. charged_on prices g.ships) gs
charged-line prices [] = refl
charged-line prices (g ∷ gs) = omega (arith, charged-line prices gs, sum_by-cons (λ (g : Group). charged_on prices g.ships) g gs)

-- groups have a ship no oftener than it stands in them
stands-times : (s : ℕ) (gs : List Group) → sum_by (λ (g : Group). one (has_number g.ships s)) gs ≤ times_on s gs
stands-times s [] = omega arith
stands-times s (g ∷ gs) = omega (arith, stands-times s gs, has-times g.ships s, sum_by-cons (λ (g : Group). one (has_number g.ships s)) g gs)

module _ (I : Instance) (cuts : List PlainCut) (label : Label) where
  -- a completion has each missing ship once, and no other
  pub completion-counts : (lines : ℕ → List Group) (starts : ℕ → List ℕ) → IsCompletion I cuts label lines starts → (s : ℕ) → times_over I s lines ≡ times_in (ships_missing I label.served) s
  completion-counts lines starts completion =
      let m = length I.chambers in
      let past : (s : ℕ) → length I.ships ≤ s → times_over I s lines ≡ 0 =
      λ s out. sum-same (λ c. times_on s (lines c)) (λ c. 0) 0 m (λ c low less. times_on-past I (lines c) (λ j d here. (completion.uncut c (omega (arith, less)) j d here).known) s out) ∙ sum_by-zero (numbers_from 0 m) in
      missing-counts I label.served (λ s. times_over I s lines) (λ s known. completion.once s known) past

  -- a completion's sum over its ships is that over the missing ships
  pub completion-sum : (f : ℕ → ℕ) (lines : ℕ → List Group) (starts : ℕ → List ℕ) → IsCompletion I cuts label lines starts
      → sum_by (λ c. sum_by f (ships_of (lines c))) (numbers_from 0 (length I.chambers)) ≡ sum_by f (ships_missing I label.served)
  completion-sum f lines starts completion =
      let m = length I.chambers in
      let all : List ℕ = flat_map (λ c. ships_of (lines c)) (numbers_from 0 m) in
      let count : (s : ℕ) → times_in all s ≡ times_over I s lines =
      λ s. times_in-flat (λ c. ships_of (lines c)) (numbers_from 0 m) s ∙ (λ i. sum_by (λ c. times_in-ships_of (lines c) s i) (numbers_from 0 m)) in
      sym (sum_by-flat_map f (λ c. ships_of (lines c)) (numbers_from 0 m))
      ∙ sum_by-counts f all (ships_missing I label.served) (λ s. count s ∙ completion-counts lines starts completion s)

  -- and it pays for each missing ship once
  pub completion-paid : (prices : PriceList) (lines : ℕ → List Group) (starts : ℕ → List ℕ) → IsCompletion I cuts label lines starts
      → sum_by (λ c. paid_in I 0 prices (lines c)) (numbers_from 0 (length I.chambers)) ≡ prices_missing I prices label.served
  completion-paid prices lines starts completion =
      (λ i. sum_by (λ c. paid-ships I prices (lines c) i) (numbers_from 0 (length I.chambers))) ∙ completion-sum (price_at prices) lines starts completion

  -- and it is charged for the triples that are missing at most once
  pub completion-charged : (prices : PriceList) (lines : ℕ → List Group) (starts : ℕ → List ℕ) → IsCompletion I cuts label lines starts
      → sum_by (λ c. charged_in prices (lines c)) (numbers_from 0 (length I.chambers)) ≤ triples_missing I prices label.served
  completion-charged prices lines starts completion =
      let cs = numbers_from 0 (length I.chambers) in
      let missing = ships_missing I label.served in
      let parts : sum_by (λ c. charged_in prices (lines c)) cs ≡ sum_by (λ c. sum_by (λ (g : Group). charged_on prices g.ships) (lines c)) cs = λ i. sum_by (λ c. charged-line prices (lines c) i) cs in
      let flat = sum_by-flat_map (λ (g : Group). charged_on prices g.ships) lines cs in
      omega (arith, parts, flat, charged-among (λ (g : Group). g.ships) (flat_map lines cs) (has_number missing) each prices)
    where
      each : (s : ℕ) → sum_by (λ (g : Group). one (has_number g.ships s)) (flat_map lines (numbers_from 0 (length I.chambers))) ≤ one (has_number (ships_missing I label.served) s)
      each s =
          let cs = numbers_from 0 (length I.chambers) in
          let stands : ℕ → ℕ = λ c. sum_by (λ (g : Group). one (has_number g.ships s)) (lines c) in
          let below : All (λ c. stands c ≤ times_on s (lines c)) cs = λ j d here. stands-times s (lines (slice_index_or cs j d)) in
          missing-has I label.served (sum_by (λ (g : Group). one (has_number g.ships s)) (flat_map lines cs)) s
          (omega (
            arith,
            sum_by-flat_map (λ (g : Group). one (has_number g.ships s)) lines cs,
            sum_by-each stands (λ c. times_on s (lines c)) cs below,
            completion-counts lines starts completion s,
          ))

  -- A LABEL ABOVE ITS BOUND has no completion of a total below the goal.
  pub above-none : (prices : PriceList) (gains : ℕ → ℕ) → ((c : ℕ) → c < length I.chambers → IsGain I c cuts label prices (gains c)) → (goal : ℕ) → IsAbove I label prices gains goal → EndsBelow I cuts goal label → ⊥
  above-none prices gains bounds goal above ends =
      let m = length I.chambers in
      let flow : ℕ → ℕ = λ c. flow_starting I c (ends.lines c) (ends.starts c) in
      let charged : ℕ → ℕ = λ c. charged_in prices (ends.lines c) in
      let high = sum-bounded (λ c. paid_in I 0 prices (ends.lines c)) flow (λ c. charged c + gains c) 0 m (λ c low less.
      let known : c < m = omega arith in
      omega (
        arith,
        (bounds c known).high (ends.lines c) (completion-on I cuts label ends.lines ends.starts ends.is c known),
        flow-after I c known (label.ready c) (ends.lines c) (ends.starts c) (ends.is.lawful c known),
      )) in
      absurd (omega (
        arith,
        high,
        sum_by-plus charged gains (numbers_from 0 m),
        completion-paid prices ends.lines ends.starts ends.is,
        completion-charged prices ends.lines ends.starts ends.is,
        above.high,
        ends.below,
      ))

-- fewer missing ships leave fewer ways to go on
pub way_on-fewer : (I : Instance) (c : ℕ) (cuts : List PlainCut) (served more : ℕ → Bool) → ((s : ℕ) → s < length I.ships → more s ≡ false → served s ≡ false) → (gs : List Group) → IsWayOn I c cuts more gs → IsWayOn I c cuts served gs
way_on-fewer I c cuts served more fewer gs on = record {
  uncut = on.uncut;
  missing = λ j d here i e inside.
      let s = slice_index_or (slice_index_or gs j d).ships i e in
      fewer s ((on.uncut j d here).known i e inside) (on.missing j d here i e inside);
}

-- A GAIN FROM A STATE stays one from later minutes, with fewer missing ships, and with more gain.
pub gain_from-later : (I : Instance) (c : ℕ) → c < length I.chambers → (cuts : List PlainCut) (served more : ℕ → Bool) (prices : PriceList) (stand : Stand) (from later gain greater : ℕ)
    → ((s : ℕ) → s < length I.ships → more s ≡ false → served s ≡ false) → from ≤ later → gain ≤ greater
    → IsGainFrom I c cuts served prices stand from gain → IsGainFrom I c cuts more prices stand later greater
gain_from-later I c known cuts served more prices stand from later gain greater fewer early less bound = record {
  high = λ gs on. omega (arith, less, bound.high gs (way_on-fewer I c cuts served more fewer gs on), flow-later I c known stand from later gs early);
}

-- A LABEL'S GAIN of a chamber is at most the greater of those from its two minutes.
pub gain-ways : (I : Instance) (c : ℕ) (cuts : List PlainCut) (label : Label) (prices : PriceList) (gain : ℕ)
    → ((way : Way) → IsGainFrom I c cuts label.served prices (stand_before way) (label.ready c way) gain) → IsGain I c cuts label prices gain
gain-ways I c cuts label prices gain bounds = record { high = λ gs on. each gs on }
  where
    each : (gs : List Group) → IsWayOn I c cuts label.served gs → paid_in I 0 prices gs ≤ 100 * flow_of I gs (timetable_after I c (label.ready c) gs) + charged_in prices gs + gain
    each [] on = omega arith
    each (g ∷ gs) on = (bounds g.way).high (g ∷ gs) on

module _ (I : Instance) (cuts : List PlainCut) (label next : Label) (c : ℕ) (g : Group) (can : CanGoOn I cuts label c g) (gone : IsGoneOn I cuts label c g next) (prices : PriceList) where
  -- the first group of a way to go on has a wanted ship
  first-wanted : (d : ℕ) (gs : List Group) → IsWayOn I d cuts next.served gs → (h : Group) (rest : List Group) → gs ≡ h ∷ rest → (s : ℕ) × IsWanted I cuts next.served d h.way s
  first-wanted d gs on h rest line =
      let own = way_on-head I d cuts next.served h rest (subst (IsWayOn I d cuts next.served) line on) in
      let one = uncut-ship I d cuts h own.0 in
      (one.ship, ship-wanted I d cuts next.served h own.0 own.1 one.ship one.held)

  -- THE GAIN OF ANOTHER CHAMBER is no more behind the group.
  pub gain-other : (d : ℕ) → d < length I.chambers → d ≢ c → (gain : ℕ) → IsGain I d cuts label prices gain → IsGain I d cuts next prices gain
  gain-other d known other gain bound = record {
    high = λ gs on. omega (
      arith,
      bound.high gs (way_on-fewer I d cuts label.served next.served (still-missing I cuts label next c g gone) gs on),
      flow-minutes I d known (label.ready d) (next.ready d) gs (λ h rest line.
          let one = first-wanted d gs on h rest line in
          others-later I cuts label next c g gone d known other h.way one.0 one.1),
    );
  }

  -- THE GAIN OF ITS OWN CHAMBER is no more than the gain from the group's end.
  pub gain-own : (gain : ℕ) → IsGainFrom I c cuts next.served prices (stand_after g.way) (end_on I label c g) gain → IsGain I c cuts next prices gain
  gain-own gain bound = record {
    high = λ gs on. omega (
      arith,
      bound.high gs on,
      flow-ready I c can.chamber (stand_after g.way) (end_on I label c g) (next.ready c) gs (λ h rest line.
          let one = first-wanted c gs on h rest line in
          (gone.own h.way).after one.0 one.1),
    );
  }

  -- the missing ships are those of the group and those that are still missing
  missing-both : (s : ℕ) → times_in (ships_missing I next.served ++ g.ships) s ≡ times_in (ships_missing I label.served) s
  missing-both =
      let left = ships_missing I next.served in
      missing-counts I label.served (times_in (left ++ g.ships)) (λ s known. both s known) (λ s past. times_in-append left g.ships s ∙ outside s past)
    where
      differ : true ≡ false → ⊥
      differ e = cc

      outside : (s : ℕ) → length I.ships ≤ s → times_in (ships_missing I next.served) s + times_in g.ships s ≡ 0
      outside s past = omega (arith, missing-past I next.served s past, times_in-outside (length I.ships) g.ships s can.uncut.known past)

      parts : (served after held : Bool) (left own : ℕ) → after ≡ (served || held) → (after ≡ true → left ≡ 0) → (after ≡ false → left ≡ 1) → (1 ≤ own → served ≡ false) → (1 ≤ own → held ≡ true) → (own ≡ 0 → held ≡ false) → own ≤ 1
          → left + own ≡ cond served 0 1
      parts true after held left own is gone kept out some none most =
          elim (leb_tells 1 own) [
            | inl here ↦ absurd (differ (out here.1))
            | inr missed ↦ omega (arith, gone is, missed.1)
          ]
      parts false after true left own is gone kept out some none most =
          elim (leb_tells 1 own) [
            | inl here ↦ omega (arith, gone is, here.1, most)
            | inr missed ↦ absurd (differ (none (omega (arith, missed.1))))
          ]
      parts false after false left own is gone kept out some none most =
          elim (leb_tells 1 own) [
            | inl here ↦ absurd (differ (sym (some here.1)))
            | inr missed ↦ omega (arith, kept is, missed.1)
          ]

      both : (s : ℕ) → s < length I.ships → times_in (ships_missing I next.served ++ g.ships) s ≡ cond (label.served s) 0 1
      both s known =
          times_in-append (ships_missing I next.served) g.ships s
          ∙ parts (label.served s) (next.served s) (has_number g.ships s) (times_in (ships_missing I next.served) s) (times_in g.ships s) (gone.served s known)
          (missing-none I next.served s) (missing-one I next.served s known)
          (λ some. All-times (λ s. label.served s ≡ false) s g.ships can.missing some)
          (has_number-some g.ships s) (has_number-none g.ships s)
          (rising-once 0 g.ships (RisesFrom-increasing g.ships can.uncut.good.rising) s)

  -- a sum over the missing ships is that over those of the group and those that are still missing
  pub missing-sum : (f : ℕ → ℕ) → sum_by f (ships_missing I label.served) ≡ sum_by f (ships_missing I next.served) + sum_by f g.ships
  missing-sum f =
      let left = ships_missing I next.served in
      sym (sum_by-counts f (left ++ g.ships) (ships_missing I label.served) missing-both) ∙ sum_by-append f left g.ships

  -- the triples that the group has aren't missing any more
  pub missing-charged : triples_missing I prices next.served + charged_on prices g.ships ≤ triples_missing I prices label.served
  missing-charged =
      let left = ships_missing I next.served in
      charged-parts prices (has_number left) (has_number g.ships) (has_number (ships_missing I label.served)) (λ s.
      missing-has I label.served (one (has_number left s) + one (has_number g.ships s)) s
      (omega (arith, has-times left s, has-times g.ships s, times_in-append left g.ships s, missing-both s)))

  -- so the group pays for its ships, and the others are still missing
  pub missing-paid : prices_missing I prices label.served ≡ prices_missing I prices next.served + sum_by (price_at prices) g.ships
  missing-paid = missing-sum (price_at prices)

  -- A GROUP WHOSE OWN SUM IS ABOVE THE GOAL leads to no label that has a completion of a total below it.
  pub arc-none : (gains : ℕ → ℕ) → ((d : ℕ) → d < length I.chambers → d ≢ c → IsGain I d cuts label prices (gains d)) → IsGainFrom I c cuts label.served prices (stand_after g.way) (end_on I label c g) (gains c)
      → (goal : ℕ)
      → 100 * goal + sum_by gains (numbers_from 0 (length I.chambers)) + triples_missing I prices label.served + sum_by (price_at prices) g.ships
      < 100 * (label.flow + flow_on I label c g) + charged_on prices g.ships + prices_missing I prices label.served + 100
      → EndsBelow I cuts goal next → ⊥
  arc-none gains others own goal above =
      above-none I cuts next prices gains bounds goal (record { high = omega (arith, above, missing-paid, missing-charged, gone.flow) })
    where
      bounds : (d : ℕ) → d < length I.chambers → IsGain I d cuts next prices (gains d)
      bounds d known =
          elim (eqb_tells d c) [
            | inl same ↦
                subst (λ d. IsGain I d cuts next prices (gains d)) (sym same.1)
                (gain-own (gains c) (gain_from-later I c can.chamber cuts label.served next.served prices (stand_after g.way) (end_on I label c g) (end_on I label c g) (gains c) (gains c) (still-missing I cuts label next c g gone) (omega arith) (omega arith) own))
            | inr other ↦ gain-other d known other.1 (gains d) (others d known other.1)
          ]

-- uncut groups are a loose line of the root
pub uncut-loose : (I : Instance) (c : ℕ) (cuts : List PlainCut) (gs : List Group) → All (IsUncut I c cuts) gs → IsLoose I c cuts 0 [] gs
uncut-loose I c cuts gs uncut = record { uncut = uncut; trace = nothing gs }
  where
    none : (xs : List ℕ) → filter (has_number []) xs ≡ []
    none [] = refl
    none (x ∷ xs) = none xs

    nothing : (gs : List Group) → trace_of [] gs ≡ []
    nothing [] = refl
    nothing (g ∷ gs) = (λ i. with_group g.way (none g.ships i) (trace_of [] gs)) ∙ nothing gs

-- THE LEAST WORTH OF THE ROOT'S LOOSE LINES from a state is a gain from it.
pub gain_from-least : (I : Instance) (c : ℕ) (cuts : List PlainCut) (prices : PriceList) (stand : Stand) (from gain : ℕ) (least : ℤ)
    → ((gs : List Group) → IsLoose I c cuts 0 [] gs → least ≤ℤ (pos (100 * flow_of I gs (timetable_from I c stand from gs) + charged_in prices gs) -ℤ pos (paid_in I 0 prices gs)))
    → pos 0 ≤ℤ (least +ℤ pos gain) → IsGainFrom I c cuts (λ s. false) prices stand from gain
gain_from-least I c cuts prices stand from gain least below high = record {
  high = λ gs on.
      let own = below gs (uncut-loose I c cuts gs on.uncut) in
      omega (arith, ints, own, high);
}
