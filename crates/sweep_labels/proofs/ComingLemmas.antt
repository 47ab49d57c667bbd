-- Minutes that are raised to first arrivals.
use Rattle.std.proofs.Common.{◌≡◌, ◌≢◌, ℕ, ◌+◌, ◌<◌, ◌≤◌, max, inl, inr, true, false, List, length, sym, ap, ◌∙◌, subst, arith}
use Rattle.std.proofs.lemmas.Bool.Decides.{eqb_tells, leb_tells}
use Rattle.lock_model.specs.declared.limits.TheConstants.{SHIPS}
use Rattle.lock_model.specs.declared.instance.Instance.{Instance}
use Rattle.lock_model.specs.declared.way.Way.{Way}
use Rattle.price_rules.specs.Prices.{PlainCut}
use Rattle.sweep_rules.specs.Label.{IsWanted}
use Rattle.sweep_labels.specs.declared.arrivals.Coming.{Coming}
use Rattle.sweep_labels.specs.Ships.{is_in}
use Rattle.sweep_labels.specs.Coming.{coming_at, AreByArrival, IsListed, AreComing, AreServed, ComesAt, IsRaised}

differ : {X : Type 0} → true ≡ false → X
differ e = cc

below : (a b : ℕ) → a ≢ b → a ≤ b → a < b
below a b other far = omega arith

pub served_first : (items : List Coming) (bits : ℕ) → AreServed items bits 0
served_first items bits = record { each = λ k none. absurd (omega (arith, none)) }

pub served_more : (items : List Coming) (bits n : ℕ) → AreServed items bits n → ((coming_at items n).ship < SHIPS → is_in bits (coming_at items n).ship ≡ true) → AreServed items bits (n + 1)
served_more items bits n are here = record {
  each = λ k less. elim (eqb_tells k n) [
    | inl y ↦ subst (λ k. (coming_at items k).ship < SHIPS → is_in bits (coming_at items k).ship ≡ true) (sym y.1) here
    | inr m ↦ are.each k (before k m.1 less)
  ];
}
  where
    before : (k : ℕ) → k ≢ n → k < n + 1 → k < n
    before k other less = omega arith

-- the place of a missing ship that is listed isn't among those that are served
past : (I : Instance) (items : List Coming) (bits n s : ℕ) → s < SHIPS → is_in bits s ≡ false → AreServed items bits n → (one : IsListed I items s) → n ≤ one.place
past I items bits n s few missing are one = elim (leb_tells n one.place) [
  | inl y ↦ y.1
  | inr m ↦
      let here = are.each one.place (omega (arith, m.1)) (omega (arith, one.ship, few)) in
      differ (sym here ∙ ap (is_in bits) one.ship ∙ missing)
]

-- a minute is itself without being raised
pub raised_itself : (items : List Coming) (bits low : ℕ) → IsRaised items bits low low
raised_itself items bits low = record { from = λ I cuts c way few are. record { after = λ s wanted. omega arith; before = λ s wanted. omega arith } }

-- where no ship is missing any minute will do,
pub raised_never : (items : List Coming) (bits low at : ℕ) → AreServed items bits (length items) → IsRaised items bits low at
raised_never items bits low at all = record {
  from = λ I cuts c way few are. record { after = λ s wanted. absurd (none I cuts c way few are s wanted); before = λ s wanted. absurd (none I cuts c way few are s wanted) };
}
  where
    none : (I : Instance) (cuts : List PlainCut) (c : ℕ) (way : Way) → length I.ships ≤ SHIPS → AreComing I cuts c way items → (s : ℕ) → IsWanted I cuts (is_in bits) c way s → ⊥
    none I cuts c way few are s wanted =
        let one = are.whole (is_in bits) s wanted in
        absurd (omega (arith, past I items bits (length items) s (omega (arith, few, wanted.known)) wanted.missing all one, one.within))

-- and else none is passed.
pub raised_first : (items : List Coming) (bits low a : ℕ) → ComesAt items bits a → IsRaised items bits low (max low a)
raised_first items bits low a comes = record {
  from = λ I cuts c way few are. record {
    after = λ s wanted. omega arith;
    before = λ s wanted.
        let one = are.whole (is_in bits) s wanted in
        let far = past I items bits comes.place s (omega (arith, few, wanted.known)) wanted.missing comes.before one in
        omega (arith, sooner (are.by_arrival) one.place one.within far, one.arrival, comes.arrival);
  };
}
  where
    sooner : AreByArrival items → (k : ℕ) → k < length items → comes.place ≤ k → (coming_at items comes.place).arrival ≤ (coming_at items k).arrival
    sooner by k within far = elim (eqb_tells comes.place k) [
      | inl y ↦ subst (λ k. (coming_at items comes.place).arrival ≤ (coming_at items k).arrival) y.1 (omega arith)
      | inr m ↦ by.rising comes.place k (below comes.place k m.1 far) within
    ]
