-- No two ships of a legal placement show at one point.
use Rattle.std.proofs.Common.{ℕ, ◌+◌, ◌<◌, ◌≤◌, List, All, IsTrue, inl, inr, arith}
use Rattle.std.proofs.lemmas.Bool.{cases_lt}
use Rattle.std.proofs.lemmas.Bool.Decides.{nat_tests}
use Rattle.std.proofs.lemmas.List.Elements.{All-weaker}
use Rattle.lock_model.specs.Deck.{Deck, size_at}
use Rattle.lock_model.specs.Fitting.{deck_of}
use Rattle.lock_model.specs.Placement.{spot_at, AreApart, IsLegalPlacement}
use Rattle.lock_model.specs.declared.deck.Size.{Size}
use Rattle.lock_model.specs.declared.placement.Spot.{Spot}
use Rattle.lock_model.specs.declared.instance.Instance.{Instance}
use Rattle.lock_model.specs.declared.plan.Plan.{Plan}
use Rattle.lock_rules.specs.Plan.{IsLegal, IsLegalLockage}
use Rattle.plan_print.specs.Drawing.{covers, IsDrawnAlone}

-- a ship that covers a point lies about it
covers-bounds : (s : Size) (p : Spot) (x y : ℕ) → IsTrue (covers s p x y) → (p.x ≤ x) × (x < p.x + s.length) × (p.y ≤ y) × (y < p.y + s.width)
covers-bounds s p x y h = grind (arith, nat_tests)

-- two ships that are apart cover no point together
apart-covers : (d : Deck) (s t : Size) (p q : Spot) (x y : ℕ) → AreApart d s p t q → IsTrue (covers s p x y) → IsTrue (covers t q x y) → ⊥
apart-covers d s t p q x y apart first second =
    let a = covers-bounds s p x y first in
    let b = covers-bounds t q x y second in
    elim apart [
      | inl before ↦ omega arith
      | inr rest ↦ elim rest [ inl behind ↦ omega arith | inr across ↦ elim across [ inl below ↦ omega arith | inr above ↦ omega arith ] ]
    ]

pub legal-alone : (d : Deck) (spots : List Spot) → IsLegalPlacement d spots → IsDrawnAlone d.ships spots
legal-alone d spots legal = record {
  alone = λ x y i j low high first second.
      elim (cases_lt i j) [
        | inl before ↦ absurd (apart-covers d (size_at d i) (size_at d j) (spot_at spots i) (spot_at spots j) x y ((legal.apart i low).later j before high) first second)
        | inr not_before ↦ elim (cases_lt j i) [
          | inl behind ↦ absurd (apart-covers d (size_at d j) (size_at d i) (spot_at spots j) (spot_at spots i) x y ((legal.apart j high).later i behind low) second first)
          | inr not_behind ↦ omega arith
        ]
      ];
}

-- in each drawing of a legal plan
pub legal-drawings : (I : Instance) (P : Plan) → IsLegal I P → All (λ l. IsDrawnAlone (deck_of I l.chamber l.ships).ships l.spots) P.lockages
legal-drawings I P legal =
    All-weaker (IsLegalLockage I) (λ l. IsDrawnAlone (deck_of I l.chamber l.ships).ships l.spots) (λ l h. legal-alone (deck_of I l.chamber l.ships) l.spots h.placed) P.lockages legal.lockage
