-- Sums over chambers and ships, and gains of one chamber more.
use Rattle.std.proofs.Common.{◌≡◌, ◌≢◌, ℕ, ℤ, pos, ◌+ℤ◌, ◌-ℤ◌, ◌≤ℤ◌, ◌+◌, ◌-◌, ◌*◌, ◌<◌, ◌≤◌, not, Bool, true, false, cond, inl, inr, List, [], ◌∷◌, ◌++◌, length, sum_by, filter, refl, sym, ap, ◌∙◌, subst, arith, slice_index_or, slice_set}
use Rattle.std.proofs.lemmas.Int.{ints}
use Rattle.std.proofs.lemmas.Bool.Decides.{eqb_tells}
use Rattle.std.proofs.lemmas.List.{length-set, get_or-set_same, get_or-set_other}
use Rattle.std.proofs.lemmas.List.Elements.{filter-append}
use Rattle.std.proofs.lemmas.List.Sums.{sum_by-append}
use Rattle.lock_model.specs.declared.instance.Instance.{Instance}
use Rattle.lock_rules.specs.Arrival.{numbers_from}
use Rattle.lock_rules.specs.Trace.{has_number}
use Rattle.lock_rules.proofs.LeafLemmas.{has_number-some}
use Rattle.lock_rules.proofs.LineLemmas.{numbers_more}
use Rattle.lock_rules.proofs.SplitLemmas.{has_number-none}
use Rattle.price_rules.specs.Prices.{PriceList, PlainCut}
use Rattle.price_groups.specs.Asks.{LineAsk, line_ask}
use Rattle.sweep_rules.specs.Label.{Label}
use Rattle.sweep_rules.specs.Gain.{IsGain, ships_missing}
use Rattle.sweep_rules.proofs.MissingLemmas.{missing-one, missing-none, missing-past}
use Rattle.sweep_rules.proofs.OverLemmas.{sum-but_one}
use Rattle.sweep_labels.specs.declared.label.Label.{Label as CodeLabel}
use Rattle.sweep_labels.specs.declared.ready_times.ReadyTimes.{ReadyTimes}
use Rattle.sweep_labels.specs.Labels.{label_of, times_at}
use Rattle.sweep_labels.specs.Arcs.{IsGainBehind, gains_with}
use Rattle.sweep_labels.proofs.ArcLemmas.{own-gain, other-gain}
use Rattle.sweep_labels.specs.declared.step.Arc.{Arc}
use Rattle.sweep_arcs.specs.declared.asked.ArcsAsked.{ArcsAsked}
use Rattle.sweep_arcs.specs.declared.lane.Lane.{Lane}
use Rattle.sweep_arcs.specs.Lanes.{ask_of, IsSameLane, HasGain, HasArcs}
use Rattle.sweep.specs.declared.sweep_case.SweepCase.{SweepCase}
use Rattle.sweep.specs.declared.origin.Origin.{Origin}
use Rattle.sweep.specs.Bounds.{cuts_of, AreLanesFrom, AreLanesOf, AreSameLanes, AreArcsAsked, gain_in, AreGainsTo, IsRoom}

zero-plus : (n : ℕ) → 0 + n ≡ n
zero-plus n = omega arith

last : (n : ℕ) → numbers_from 0 (n + 1) ≡ numbers_from 0 n ++ n ∷ []
last n = numbers_more 0 n ∙ ap (λ k. numbers_from 0 n ++ k ∷ []) (zero-plus n)

one : (f : ℕ → ℕ) (n : ℕ) → sum_by f (n ∷ []) ≡ f n
one f n = omega arith

-- one number more
pub sum_more : (f : ℕ → ℕ) (n sum all : ℕ) → sum ≡ sum_by f (numbers_from 0 n) → all ≡ sum + f n → all ≡ sum_by f (numbers_from 0 (n + 1))
sum_more f n sum all so_far is = omega (arith, so_far, is, ap (sum_by f) (last n), sum_by-append f (numbers_from 0 n) (n ∷ []), one f n)

-- one ship more, missing or not
module _ (f : ℕ → ℕ) (p : ℕ → Bool) (n : ℕ) where
  kept : filter p (numbers_from 0 (n + 1)) ≡ filter p (numbers_from 0 n) ++ filter p (n ∷ [])
  kept = ap (filter p) (last n) ∙ filter-append p (numbers_from 0 n) (n ∷ [])

  single : (b : Bool) → p n ≡ b → filter p (n ∷ []) ≡ cond b (n ∷ []) []
  single b is = ap {B = List ℕ} (λ b. cond b (n ∷ []) []) is

  pub filter_in : (sum all : ℕ) → p n ≡ true → sum ≡ sum_by f (filter p (numbers_from 0 n)) → all ≡ sum + f n → all ≡ sum_by f (filter p (numbers_from 0 (n + 1)))
  filter_in sum all is so_far more = omega (arith, so_far, more, ap (sum_by f) (kept ∙ ap (λ ns. filter p (numbers_from 0 n) ++ ns) (single true is)), sum_by-append f (filter p (numbers_from 0 n)) (n ∷ []), one f n)

  pub filter_out : (sum : ℕ) → p n ≡ false → sum ≡ sum_by f (filter p (numbers_from 0 n)) → sum ≡ sum_by f (filter p (numbers_from 0 (n + 1)))
  filter_out sum is so_far = omega (arith, so_far, ap (sum_by f) (kept ∙ ap (λ ns. filter p (numbers_from 0 n) ++ ns) (single false is)), sum_by-append f (filter p (numbers_from 0 n)) [], none)
    where
      none : sum_by f [] ≡ 0
      none = refl

-- a ship of the instance is missing where it isn't served, and no other number is
module _ (I : Instance) (served : ℕ → Bool) (s : ℕ) where
  pub missing_told : s < length I.ships → not (served s) ≡ has_number (ships_missing I served) s
  missing_told known = by (served s) refl
    where
      by : (b : Bool) → served s ≡ b → not b ≡ has_number (ships_missing I served) s
      by true is = sym (has_number-none (ships_missing I served) s (missing-none I served s is))
      by false out = sym (has_number-some (ships_missing I served) s (omega (arith, missing-one I served s known out)))

  pub missing_untold : length I.ships ≤ s → false ≡ has_number (ships_missing I served) s
  missing_untold past = sym (has_number-none (ships_missing I served) s (missing-past I served s past))

-- the gains of no chambers, and of one more
pub gains_none : (case : SweepCase) (label : Label) (gains : List ℕ) → AreGainsTo case label 0 gains
gains_none case label gains = record { each = λ c none. absurd (omega (arith, none)) }

pub gains_more : (case : SweepCase) (label : CodeLabel) (n : ℕ) (gains : List ℕ) (gain : ℕ) → n < length gains
    → IsGainBehind case.instance.now (cuts_of case) case.prices.now n (times_at label.ready n) gain
    → AreGainsTo case (label_of label) n gains → AreGainsTo case (label_of label) (n + 1) (slice_set gains n gain)
gains_more case label n gains gain within here all = record {
  each = λ c less. elim (eqb_tells c n) [
    | inl y ↦
        subst (λ c. IsGain case.instance.now c (cuts_of case) (label_of label) case.prices.now (gain_in (slice_set gains n gain) c)) (sym y.1)
        (subst (IsGain case.instance.now n (cuts_of case) (label_of label) case.prices.now) (sym (get_or-set_same gains n gain 0 within)) (here.is (label_of label) (λ way. refl)))
    | inr m ↦
        subst (IsGain case.instance.now c (cuts_of case) (label_of label) case.prices.now) (sym (get_or-set_other gains n c gain 0 m.1)) (all.each c (before c m.1 less))
  ];
}
  where
    before : (c : ℕ) → c ≢ n → c < n + 1 → c < n
    before c other less = omega arith

-- a lane was asked: all are the same, and what it says is of its chamber
pub lanes_set : (lanes : List Lane) (c : ℕ) (old new : Lane) → c < length lanes → ((d : Lane) → slice_index_or lanes c d ≡ old) → IsSameLane old new → AreSameLanes lanes (slice_set lanes c new)
lanes_set lanes c old new within here same = record {
  count = length-set lanes c new;
  each = λ k d less is. elim (eqb_tells k c) [
    | inl y ↦
        subst (λ k. IsSameLane (slice_index_or lanes k d) (slice_index_or (slice_set lanes c new) k d)) (sym y.1)
        (subst (IsSameLane (slice_index_or lanes c d)) (sym (get_or-set_same lanes c new d within))
        (subst (λ l. IsSameLane l new) (sym (here d)) same))
    | inr m ↦
        subst (IsSameLane (slice_index_or lanes k d)) (sym (get_or-set_other lanes c k new d m.1)) (record { is = is; same = refl })
  ];
}

pub same_none : (lanes : List Lane) → AreSameLanes lanes lanes
same_none lanes = record { count = refl; each = λ k d less is. record { is = is; same = refl } }

pub same_more : (a b c : List Lane) → AreSameLanes a b → AreSameLanes b c → AreSameLanes a c
same_more a b c first second = record {
  count = second.count ∙ first.count;
  each = λ k d less is.
      let one = first.each k d less is in
      let two = second.each k d (omega (arith, less, first.count)) one.is in
      record { is = two.is; same = two.same ∙ one.same };
}

pub lanes_on : (I : Instance) (cuts : List PlainCut) (prices : PriceList) (first n : ℕ) (old new : List Lane) → AreLanesFrom I cuts prices first n old → AreSameLanes old new → AreLanesFrom I cuts prices first n new
lanes_on I cuts prices first n old new are same = record {
  within = omega (arith, are.within, same.count);
  each = λ c d less.
      let was = are.each c d less in
      let one = same.each (first + c) d (omega (arith, less, are.within)) was.is in
      record { is = one.is; ask = one.same ∙ was.ask };
}

module _ (case : SweepCase) (lanes : List Lane) (first c : ℕ) (old : Lane) (are : AreLanesOf case first lanes) (known : c < length case.instance.now.chambers) (here : (d : Lane) → slice_index_or lanes (first + c) d ≡ old) where
  own-ask : ask_of old ≡ line_ask case.instance.now c (cuts_of case) 0 case.prices.now []
  own-ask = ap ask_of (sym (here old)) ∙ (are.each c old known).ask

  pub lane_gain : (times : ReadyTimes) (gain : ℕ) → HasGain (ask_of old) times gain → IsGainBehind case.instance.now (cuts_of case) case.prices.now c times gain
  lane_gain times gain has = (subst (λ (ask : LineAsk). HasGain ask times gain) own-ask has).is

  pub lane_arcs : (asked : ArcsAsked) (arcs : List Arc) → HasArcs (ask_of old) asked arcs → AreArcsAsked case c asked arcs
  lane_arcs asked arcs has = (subst (λ (ask : LineAsk). HasArcs ask asked arcs) own-ask has).are

-- the room that the goal leaves
pub room_wide : (case : SweepCase) (from : Origin) (c goal sum beside low high : ℕ) (room : ℤ) → c < length case.instance.now.chambers
    → sum ≡ sum_by (gain_in from.gains) (numbers_from 0 (length case.instance.now.chambers)) → beside ≡ sum - gain_in from.gains c → low ≡ 100 * goal + beside + from.missing.triples
    → high ≡ 100 * from.label.flow + 100 + from.missing.ships → room ≡ pos low -ℤ pos high → IsRoom case from c goal room
room_wide case from c goal sum beside low high room known all rest is_low is_high is = record {
  wide = wide (sum_by (gain_in from.gains) (numbers_from 0 (length case.instance.now.chambers))) (sum_by (gains_with (gain_in from.gains) c 0) (numbers_from 0 (length case.instance.now.chambers))) (gain_in from.gains c) from.label.flow
      from.missing.ships from.missing.triples parts all rest is_low is_high is;
}
  where
    parts : sum_by (gain_in from.gains) (numbers_from 0 (length case.instance.now.chambers)) ≡ sum_by (gains_with (gain_in from.gains) c 0) (numbers_from 0 (length case.instance.now.chambers)) + gain_in from.gains c
    parts =
        sum-but_one (gain_in from.gains) (gains_with (gain_in from.gains) c 0) (gain_in from.gains c) 0 (length case.instance.now.chambers) c (omega arith) (omega (arith, known))
        (sym (ap (λ n. n + gain_in from.gains c) (own-gain (gain_in from.gains) c 0 c refl) ∙ zero-plus (gain_in from.gains c)))
        (λ d other. sym (other-gain (gain_in from.gains) c 0 d other))

    wide : (total others own flow ships triples : ℕ) → total ≡ others + own → sum ≡ total → beside ≡ sum - own → low ≡ 100 * goal + beside + triples → high ≡ 100 * flow + 100 + ships → room ≡ pos low -ℤ pos high
        → pos (100 * goal + others + triples) ≤ℤ (room +ℤ pos (100 * flow + ships + 100))
    wide total others own flow ships triples parts all rest is_low is_high is = omega (arith, ints, parts, all, rest, is_low, is_high, is)
