-- A group that is worth more than the room needs no arc.
use Rattle.std.proofs.lemmas.Int.{ints}
use Rattle.std.proofs.Common.{◌≡◌, ◌≢◌, ℕ, ℤ, pos, ◌+ℤ◌, ◌≤ℤ◌, ◌<ℤ◌, ◌+◌, ◌*◌, ◌<◌, cond, inl, inr, false, List, length, sum_by, refl, sym, ap, ◌∙◌, subst, arith}
use Rattle.std.proofs.lemmas.Bool.Decides.{eqb_tells}
use Rattle.lock_model.specs.declared.instance.Instance.{Instance}
use Rattle.lock_model.specs.declared.group.Group.{Group}
use Rattle.lock_rules.specs.Arrival.{numbers_from}
use Rattle.lock_rules.specs.Lawful.{stand_after}
use Rattle.price_rules.specs.Prices.{PriceList, PlainCut, price_at, charged_by}
use Rattle.sweep_rules.specs.Label.{Label, CanGoOn, IsGoneOn, end_on, flow_on}
use Rattle.sweep_rules.specs.Completion.{EndsBelow}
use Rattle.sweep_rules.specs.Gain.{IsGainFrom, IsGain, prices_missing, triples_missing}
use Rattle.sweep_rules.proofs.OverLemmas.{sum-but_one}
use Rattle.sweep_rules.proofs.GainLemmas.{gain_from-later, arc-none}
use Rattle.sweep_labels.specs.Arcs.{gains_with, IsLowWorth}

pub own-gain : (gains : ℕ → ℕ) (c own d : ℕ) → d ≡ c → gains_with gains c own d ≡ own
own-gain gains c own d same = elim (eqb_tells d c) [ inl y ↦ ap {B = ℕ} (λ b. cond b own (gains d)) y.0 | inr m ↦ absurd (m.1 same) ]

pub other-gain : (gains : ℕ → ℕ) (c own d : ℕ) → d ≢ c → gains_with gains c own d ≡ gains d
other-gain gains c own d other = elim (eqb_tells d c) [ inl y ↦ absurd (other y.1) | inr m ↦ ap {B = ℕ} (λ b. cond b own (gains d)) m.0 ]

module _ (I : Instance) (cuts : List PlainCut) (label next : Label) (c : ℕ) (g : Group) (can : CanGoOn I cuts label c g) (gone : IsGoneOn I cuts label c g next) (prices : PriceList) where
  -- THE ROOM IS NO LESS than what the goal leaves beside the label, the missing ships and triples and the other chambers' gains, which count none for
  -- chamber c: a group that is worth more leads to no label with a completion below the goal.
  pub arc-beyond : (gains : ℕ → ℕ) → ((d : ℕ) → d < length I.chambers → d ≢ c → IsGain I d cuts label prices (gains d)) → gains c ≡ 0 → (goal : ℕ) (room worth : ℤ)
      → pos (100 * goal + sum_by gains (numbers_from 0 (length I.chambers)) + triples_missing I prices label.served)
      ≤ℤ (room +ℤ pos (100 * label.flow + prices_missing I prices label.served + 100))
      → room <ℤ worth → IsLowWorth I cuts prices c (label.ready c g.way) g worth → EndsBelow I cuts goal next → ⊥
  arc-beyond gains others none goal room worth wide more low =
      let all : ℕ → ℕ = gains_with gains c low.gain in
      let sum : sum_by all (numbers_from 0 (length I.chambers)) ≡ sum_by gains (numbers_from 0 (length I.chambers)) + low.gain =
      sum-but_one all gains low.gain 0 (length I.chambers) c (omega arith) (omega (arith, can.chamber)) (own-gain gains c low.gain c refl ∙ sym (ap (λ n. n + low.gain) none ∙ zero-plus low.gain)) (λ d other. other-gain gains c low.gain d other) in
      arc-none I cuts label next c g can gone prices all
      (λ d known other. subst (IsGain I d cuts label prices) (sym (other-gain gains c low.gain d other)) (others d known other))
      (subst (IsGainFrom I c cuts label.served prices (stand_after g.way) (end_on I label c g)) (sym (own-gain gains c low.gain c refl))
      (gain_from-later I c can.chamber cuts (λ s. false) label.served prices (stand_after g.way) (end_on I label c g) (end_on I label c g) low.gain low.gain (λ s known is. refl) (omega arith) (omega arith) low.is))
      goal
      (above (100 * goal) (sum_by gains (numbers_from 0 (length I.chambers))) (sum_by all (numbers_from 0 (length I.chambers))) low.gain (sum_by (price_at prices) g.ships) label.flow (flow_on I label c g)
      (prices_missing I prices label.served) (triples_missing I prices label.served) (charged_by prices g) sum wide low.least)
    where
      zero-plus : (n : ℕ) → 0 + n ≡ n
      zero-plus n = omega arith

      above : (goals some sum gain paid flow more_flow missing triples charged : ℕ) → sum ≡ some + gain → pos (goals + some + triples) ≤ℤ (room +ℤ pos (100 * flow + missing + 100))
          → (worth +ℤ pos (paid + gain)) ≤ℤ pos (100 * more_flow + charged) → goals + sum + triples + paid < 100 * (flow + more_flow) + charged + missing + 100
      above goals some sum gain paid flow more_flow missing triples charged same wide least = omega (arith, ints, same, wide, least, more)
