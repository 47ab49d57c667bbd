-- Of equal ships the earlier ones go first: a completion stays one when two of them are swapped.
use Rattle.std.proofs.Common.{◌≡◌, ◌≢◌, ℕ, ◌+◌, ◌-◌, ◌<◌, ◌≤◌, cond, List, [], ◌∷◌, length, map, All, Contains, sum_by, inl, inr, refl, sym, ap, ◌∙◌, subst, arith, slice_index_or}
use Rattle.std.proofs.lemmas.List.Sums.{sum_by-cons, sum_by-append}
use Rattle.std.proofs.lemmas.List.Elements.{All-head, All-tail, All-weaker, All-contains, All-map}
use Rattle.lock_model.specs.Limits.{Within}
use Rattle.lock_model.specs.Fleet.{ship_at, chamber_at}
use Rattle.lock_model.specs.declared.instance.Instance.{Instance}
use Rattle.lock_model.specs.declared.group.Group.{Group}
use Rattle.lock_model.specs.declared.way.Way.{Way}
use Rattle.lock_model.specs.declared.way.Stand.{Stand}
use Rattle.lock_rules.specs.Lawful.{IsLawfulStart, AreLawfulFrom, IsFree, duration_of, stand_before, stand_after}
use Rattle.lock_rules.specs.Plan.{times_in}
use Rattle.lock_rules.specs.Arrival.{numbers_from}
use Rattle.lock_rules.specs.Node.{times_on}
use Rattle.lock_rules.proofs.AmongLemmas.{times-contains, contains-times}
use Rattle.lock_rules.proofs.LineLemmas.{sum_by-plus}
use Rattle.lock_rules.proofs.NodeLemmas.{increasing-RisesFrom}
use Rattle.lock_rules.proofs.SplitLemmas.{RisesFrom-increasing}
use Rattle.price_rules.specs.Prices.{PlainCut, Spares, IsUncut}
use Rattle.sweep_rules.specs.Label.{Label}
use Rattle.sweep_rules.specs.Completion.{AreLawfulAfter, IsCompletion, flow_starting, flow_completed}
use Rattle.sweep_rules.specs.Equal.{IsEqualBefore, swapped, AreSwapped}
use Rattle.sweep_rules.specs.Gain.{ships_missing}
use Rattle.sweep_rules.proofs.OverLemmas.{sum-same, rising-once}
use Rattle.sweep_rules.proofs.MissingLemmas.{ships_of}
use Rattle.sweep_rules.proofs.GainLemmas.{completion-sum}
use Rattle.sweep_rules.proofs.SwapLemmas.{swapped-cases, swapped-alike, swapped-twice, swap_ships, times_in-swap, length-swap, All-swap, rises-swap, sum_by-alike}

-- ---- ends and arrivals in place of flow times
module _ (I : Instance) (c : ℕ) where
  -- for each ship the end of its group
  abbrev ends_in : List Group → List ℕ → ℕ
  ends_in [] ts = 0
  ends_in (g ∷ gs) [] = 0
  ends_in (g ∷ gs) (t ∷ ts) = sum_by (λ (s : ℕ). t + duration_of I c g.ships) g.ships + ends_in gs ts

  abbrev arrivals_in : List Group → ℕ
  arrivals_in gs = sum_by (λ s. (ship_at I s).arrival) (ships_of gs)

  -- the flow times and the arrivals of ships that have arrived are their ends
  arrived-ends : (end : ℕ) (ss : List ℕ) → All (λ s. (ship_at I s).arrival ≤ end) ss → sum_by (λ s. end - (ship_at I s).arrival) ss + sum_by (λ s. (ship_at I s).arrival) ss ≡ sum_by (λ s. end) ss
  arrived-ends end [] all = refl
  arrived-ends end (s ∷ ss) all =
      let here : (ship_at I s).arrival ≤ end = All-head (λ s. (ship_at I s).arrival ≤ end) s ss all in
      omega (
        arith,
        here,
        arrived-ends end ss (All-tail (λ s. (ship_at I s).arrival ≤ end) s ss all),
        sum_by-cons (λ s. end - (ship_at I s).arrival) s ss,
        sum_by-cons (λ s. (ship_at I s).arrival) s ss,
        sum_by-cons (λ (s : ℕ). end) s ss,
      )

  flow-ends : (stand : Stand) (from : ℕ) (gs : List Group) (ts : List ℕ) → AreLawfulFrom I c stand from gs ts → flow_starting I c gs ts + arrivals_in gs ≡ ends_in gs ts
  flow-ends stand from [] ts lawful = refl
  flow-ends stand from (g ∷ gs) [] lawful = absurd lawful
  flow-ends stand from (g ∷ gs) (t ∷ ts) lawful =
      let end : ℕ = t + duration_of I c g.ships in
      let here = arrived-ends end g.ships (All-weaker (λ s. (ship_at I s).arrival ≤ t) (λ s. (ship_at I s).arrival ≤ end) (λ s h. omega arith) g.ships lawful.0.arrived) in
      omega (arith, here, flow-ends (stand_after g.way) end gs ts lawful.1, sum_by-append (λ s. (ship_at I s).arrival) g.ships (ships_of gs))

  flow-ends_after : (ready : Way → ℕ) (gs : List Group) (ts : List ℕ) → AreLawfulAfter I c ready gs ts → flow_starting I c gs ts + arrivals_in gs ≡ ends_in gs ts
  flow-ends_after ready [] ts lawful = refl
  flow-ends_after ready (g ∷ gs) ts lawful = flow-ends (stand_before g.way) (ready g.way) (g ∷ gs) ts lawful

-- a completion's flow time and the missing ships' arrivals are its ends
completion-ends : (I : Instance) (cuts : List PlainCut) (label : Label) (lines : ℕ → List Group) (starts : ℕ → List ℕ) → IsCompletion I cuts label lines starts
    → flow_completed I lines starts + sum_by (λ s. (ship_at I s).arrival) (ships_missing I label.served) ≡ sum_by (λ c. ends_in I c (lines c) (starts c)) (numbers_from 0 (length I.chambers))
completion-ends I cuts label lines starts completion =
    let m = length I.chambers in
    let arrivals = completion-sum I cuts label (λ s. (ship_at I s).arrival) lines starts completion in
    let both = sum_by-plus (λ c. flow_starting I c (lines c) (starts c)) (λ c. arrivals_in I c (lines c)) (numbers_from 0 m) in
    let same = sum-same (λ c. flow_starting I c (lines c) (starts c) + arrivals_in I c (lines c)) (λ c. ends_in I c (lines c) (starts c)) 0 m
    (λ c low less. flow-ends_after I c (label.ready c) (lines c) (starts c) (completion.lawful c (omega (arith, less)))) in
    omega (arith, arrivals, both, same)

-- a group with a and b swapped, and the lines of all chambers
abbrev pub swap_group : ℕ → ℕ → Group → Group
swap_group a b g = record { way = g.way; ships = swap_ships a b g.ships }

abbrev pub swap_lines : ℕ → ℕ → (ℕ → List Group) → ℕ → List Group
swap_lines a b lines c = map (swap_group a b) (lines c)

module _ (I : Instance) (cuts : List PlainCut) (closed : AreSwapped I cuts) (a b : ℕ) (known_a : a < length I.ships) (known_b : b < length I.ships) (equal : IsEqualBefore I a b) where
  no_later : (ship_at I a).arrival ≤ (ship_at I b).arrival
  no_later = elim equal.order [ inl sooner ↦ omega (arith, sooner) | inr at_once ↦ omega (arith, at_once.0) ]

  pub equal-differ : a ≢ b
  equal-differ same = elim equal.order [
    | inl sooner ↦ absurd (omega (arith, sooner, ap (λ s. (ship_at I s).arrival) same))
    | inr at_once ↦ absurd (omega (arith, at_once.1, same))
  ]

  swap-known : (s : ℕ) → s < length I.ships → swapped a b s < length I.ships
  swap-known s known = swapped-cases a b (λ s t. s < length I.ships → t < length I.ships) (λ s same h. known_b) (λ s other same h. known_a) (λ s other apart h. h) s known

  swap-spared : (c : ℕ) (ss : List ℕ) → All (Spares I c ss) cuts → All (Spares I c (swap_ships a b ss)) cuts
  swap-spared c ss spared k d here =
      let cut = slice_index_or cuts k d in
      let pair = closed.each a b known_a known_b equal k d here in
      record {
        spared = λ hits. (All-contains (Spares I c ss) cuts pair.other spared pair.held).spared (record {
          among = All-weaker (λ s. Contains cut.ships (swapped a b s)) (Contains ss) (λ s held.
              let there : Contains (swap_ships a b ss) (swapped a b s) = All-contains (Contains (swap_ships a b ss)) cut.ships (swapped a b s) hits.among held in
              let some : 1 ≤ times_in (swap_ships a b ss) (swapped a b s) = contains-times (swap_ships a b ss) (swapped a b s) there in
              let back : times_in ss (swapped a b (swapped a b s)) ≡ times_in ss s = ap (times_in ss) (swapped-twice a b equal-differ s) in
              times-contains ss s (omega (arith, some, times_in-swap a b equal-differ ss (swapped a b s), back))) pair.other.ships pair.ships;
          sizes = pair.sizes;
          tight = pair.tight c hits.tight;
        });
      }

  swap-uncut : (c : ℕ) (g : Group) → IsUncut I c cuts g → IsUncut I c cuts (swap_group a b g)
  swap-uncut c g uncut = record {
    good = record {
      rising = increasing-RisesFrom 0 (swap_ships a b g.ships) (rises-swap a b equal-differ g.ships (rising-once 0 g.ships (RisesFrom-increasing g.ships uncut.good.rising)));
      count = subst (Within 1 (chamber_at I c).most) (sym (length-swap a b g.ships)) uncut.good.count;
      way = All-swap a b (λ s. (ship_at I s).way ≡ g.way) g.ships
          (All-weaker (λ s. (ship_at I s).way ≡ g.way) (λ s. (ship_at I (swapped a b s)).way ≡ g.way) (λ s h. swapped-alike a b (λ s. (ship_at I s).way) equal.way s ∙ h) g.ships uncut.good.way);
    };
    known = All-swap a b (λ s. s < length I.ships) g.ships (All-weaker (λ s. s < length I.ships) (λ s. swapped a b s < length I.ships) swap-known g.ships uncut.known);
    spared = swap-spared c g.ships uncut.spared;
  }

  swap-duration : (c : ℕ) (ss : List ℕ) → duration_of I c (swap_ships a b ss) ≡ duration_of I c ss
  swap-duration c ss = ap {B = ℕ} (λ n. (chamber_at I c).pass + n) (sum_by-alike a b (λ s. (ship_at I s).handling) equal.handling ss)

  -- a start by which b has arrived is one for the swapped group
  swap-start : (c : ℕ) (stand : Stand) (from : ℕ) (g : Group) (t : ℕ) → (ship_at I b).arrival ≤ t → IsLawfulStart I c stand from g t → IsLawfulStart I c stand from (swap_group a b g) t
  swap-start c stand from g t late lawful = record {
    arrived = All-swap a b (λ s. (ship_at I s).arrival ≤ t) g.ships (All-weaker (λ s. (ship_at I s).arrival ≤ t) (λ s. (ship_at I (swapped a b s)).arrival ≤ t) (λ s h.
        swapped-cases a b (λ s t'. (ship_at I s).arrival ≤ t → (ship_at I t').arrival ≤ t) (λ s same h. late) (λ s other same h. omega (arith, no_later, late)) (λ s other apart h. h) s h) g.ships lawful.arrived);
    later = lawful.later;
    turned = lawful.turned;
    free = subst (λ n. IsFree (chamber_at I c).closures t (t + n)) (sym (swap-duration c g.ships)) lawful.free;
  }

  swap-from : (c : ℕ) (stand : Stand) (from : ℕ) (gs : List Group) (ts : List ℕ) → (ship_at I b).arrival ≤ from → AreLawfulFrom I c stand from gs ts → AreLawfulFrom I c stand from (map (swap_group a b) gs) ts
  swap-from c stand from [] [] late lawful = tt
  swap-from c stand from [] (t ∷ ts) late lawful = lawful
  swap-from c stand from (g ∷ gs) [] late lawful = lawful
  swap-from c stand from (g ∷ gs) (t ∷ ts) late lawful =
      let later : from ≤ t = lawful.0.later in (
        swap-start c stand from g t (omega arith) lawful.0,
        subst (λ n. AreLawfulFrom I c (stand_after g.way) (t + n) (map (swap_group a b) gs) ts) (sym (swap-duration c g.ships))
            (swap-from c (stand_after g.way) (t + duration_of I c g.ships) gs ts (omega arith) lawful.1),
      )

  swap-after : (c : ℕ) (ready : Way → ℕ) (gs : List Group) (ts : List ℕ) → ((t : ℕ) (later : List ℕ) → ts ≡ t ∷ later → (ship_at I b).arrival ≤ t)
      → AreLawfulAfter I c ready gs ts → AreLawfulAfter I c ready (map (swap_group a b) gs) ts
  swap-after c ready [] [] late lawful = tt
  swap-after c ready [] (t ∷ ts) late lawful = lawful
  swap-after c ready (g ∷ gs) [] late lawful = lawful
  swap-after c ready (g ∷ gs) (t ∷ ts) late lawful =
      let here : (ship_at I b).arrival ≤ t = late t ts refl in (
        swap-start c (stand_before g.way) (ready g.way) g t here lawful.0,
        subst (λ n. AreLawfulFrom I c (stand_after g.way) (t + n) (map (swap_group a b) gs) ts) (sym (swap-duration c g.ships))
            (swap-from c (stand_after g.way) (t + duration_of I c g.ships) gs ts (omega arith) lawful.1),
      )

  swap-ends : (c : ℕ) (gs : List Group) (ts : List ℕ) → ends_in I c (map (swap_group a b) gs) ts ≡ ends_in I c gs ts
  swap-ends c [] ts = refl
  swap-ends c (g ∷ gs) [] = refl
  swap-ends c (g ∷ gs) (t ∷ ts) =
      let end : ℕ = t + duration_of I c g.ships in
      let own : sum_by (λ (s : ℕ). t + duration_of I c (swap_ships a b g.ships)) (swap_ships a b g.ships) ≡ sum_by (λ (s : ℕ). end) g.ships =
      (λ i. sum_by (λ (s : ℕ). t + swap-duration c g.ships i) (swap_ships a b g.ships)) ∙ sum_by-alike a b (λ (s : ℕ). end) refl g.ships in
      omega (arith, own, swap-ends c gs ts)

  swap-times : (s : ℕ) (gs : List Group) → times_on s (map (swap_group a b) gs) ≡ times_on (swapped a b s) gs
  swap-times s [] = refl
  swap-times s (g ∷ gs) = omega (arith, times_in-swap a b equal-differ g.ships s, swap-times s gs)

  swap-all : (c : ℕ) (gs : List Group) → All (IsUncut I c cuts) gs → All (IsUncut I c cuts) (map (swap_group a b) gs)
  swap-all c gs all = All-map (IsUncut I c cuts) (swap_group a b) gs (All-weaker (IsUncut I c cuts) (λ g. IsUncut I c cuts (swap_group a b g)) (swap-uncut c) gs all)

  module _ (label : Label) (lines : ℕ → List Group) (starts : ℕ → List ℕ) (completion : IsCompletion I cuts label lines starts) (alike : label.served a ≡ label.served b)
      (late : (c : ℕ) → c < length I.chambers → (t : ℕ) (later : List ℕ) → starts c ≡ t ∷ later → (ship_at I b).arrival ≤ t) where
    -- A COMPLETION STAYS ONE when two equal ships are swapped, where the later one has arrived by its first start,
    pub swap-completion : IsCompletion I cuts label (swap_lines a b lines) starts
    swap-completion = record {
      uncut = λ c known. swap-all c (lines c) (completion.uncut c known);
      lawful = λ c known. swap-after c (label.ready c) (lines c) (starts c) (late c known) (completion.lawful c known);
      once = λ s known.
          (λ i. sum_by (λ c. swap-times s (lines c) i) (numbers_from 0 (length I.chambers)))
          ∙ completion.once (swapped a b s) (swap-known s known)
          ∙ ap {B = ℕ} (λ b. cond b 0 1) (swapped-alike a b label.served alike s);
    }

    -- at the same flow time.
    pub swap-flow : flow_completed I (swap_lines a b lines) starts ≡ flow_completed I lines starts
    swap-flow =
        let same : sum_by (λ c. ends_in I c (swap_lines a b lines c) (starts c)) (numbers_from 0 (length I.chambers)) ≡ sum_by (λ c. ends_in I c (lines c) (starts c)) (numbers_from 0 (length I.chambers)) =
        λ i. sum_by (λ c. swap-ends c (lines c) (starts c) i) (numbers_from 0 (length I.chambers)) in
        omega (arith, same, completion-ends I cuts label lines starts completion, completion-ends I cuts label (swap_lines a b lines) starts swap-completion)
