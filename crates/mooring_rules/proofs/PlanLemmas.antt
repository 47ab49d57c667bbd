-- A plan or a part with a break isn't legal, and one without is.
use Rattle.std.proofs.Common.{◌≡◌, ℕ, ◌<◌, length, subst, ◌∙◌, arith, List, get_or, below_more, ◌+◌}
use Rattle.std.proofs.lemmas.List.{length-map, get_or_default}
use Rattle.std.specs.List.Sorted.{IsStrictlyIncreasing}
use Rattle.lock_model.specs.Fleet.{ship_at}
use Rattle.lock_model.specs.Fitting.{size_of, deck_of}
use Rattle.lock_model.specs.declared.instance.Instance.{Instance}
use Rattle.lock_model.specs.declared.plan.Lockage.{Lockage}
use Rattle.lock_model.specs.declared.plan.Plan.{Plan}
use Rattle.lock_rules.specs.Plan.{IsLegal, IsLegalPart, IsLegalLockage}
use Rattle.lock_rules.specs.Lines.{no_lockage, lockage_at}
use Rattle.lock_rules.proofs.LineLemmas.{lockage_at-read}
use Rattle.lock_rules.proofs.LegalLemmas.{legal-part}
use Rattle.chamber_times.proofs.BreakLemmas.{IsFirstBreak-untimely}
use Rattle.mooring_rules.specs.PlanBreaks.{HasShape, IsPlaced, IsClear, AreShaped, HasNoDouble, HasNoMissing, ArePlaced, AreClear, AreOnTime, IsFirstMisplaced, IsFirstClash, IsFirstBrokenPart, IsFirstBrokenPlan}
use Rattle.mooring_rules.specs.declared.breaks.Broken.{Broken}
use Rattle.mooring_rules.specs.declared.breaks.BrokenPlan.{BrokenPlan}
use Rattle.mooring_rules.specs.declared.breaks.BrokenPlan.TheVariants.{Shape, Double, Missing, Deck, Clash, Time}
use Rattle.mooring_rules.proofs.PlacementLemmas.{IsFirstBroken-illegal}

-- a legal lockage has its shape
HasShape-legal : (I : Instance) (l : Lockage) → IsLegalLockage I l → HasShape I l
HasShape-legal I l legal = record {
  chamber = legal.chamber;
  count = legal.count;
  spots = legal.placed.count ∙ length-map l.ships (λ s. size_of (ship_at I s));
  ships = λ k d within. record { known = legal.known k d within; goes = legal.way k d within };
}

-- a lockage with its shape is legal where its ships rise, lie legally and don't clash
IsLegalLockage-shaped : (I : Instance) (l : Lockage) → HasShape I l → IsStrictlyIncreasing l.ships → IsPlaced I l → IsClear I l → IsLegalLockage I l
IsLegalLockage-shaped I l shape rising placed clear = record {
  chamber = shape.chamber;
  known = λ k d within. (shape.ships k d within).known;
  rising = rising;
  count = shape.count;
  way = λ k d within. (shape.ships k d within).goes;
  placed = placed.legal;
  clear = clear.clear;
}

module _ (I : Instance) (P : Plan) where
  IsFirstMisplaced-illegal : (p : ℕ) (b : Broken) → IsFirstMisplaced I P p b → IsLegalPart I P → ⊥
  IsFirstMisplaced-illegal p b first legal =
      let l = lockage_at P p in
      let lockage : IsLegalLockage I l = legal.lockage p no_lockage first.place in
      IsFirstBroken-illegal (deck_of I l.chamber l.ships) l.spots b first.broken lockage.placed

  IsFirstClash-illegal : (p i j : ℕ) → IsFirstClash I P p i j → IsLegalPart I P → ⊥
  IsFirstClash-illegal p i j first legal =
      let lockage : IsLegalLockage I (lockage_at P p) = legal.lockage p no_lockage first.place in
      let pair = first.pair.pair in
      let ship : i < length (deck_of I (lockage_at P p).chamber (lockage_at P p).ships).ships = omega (arith, pair.order, pair.ship) in
      ((lockage.clear.clear i ship).later j pair.order pair.ship).peace pair.clash

  -- a first break leaves the part not legal
  pub IsFirstBrokenPart-illegal : (b : BrokenPlan) → IsFirstBrokenPart I P b → IsLegalPart I P → ⊥
  IsFirstBrokenPart-illegal (Shape p) first legal = first.misshapen (HasShape-legal I (lockage_at P p) (legal.lockage p no_lockage first.place))
  IsFirstBrokenPart-illegal (Double s) first legal = absurd (omega (arith, first.1.double, legal.once s first.1.ship))
  IsFirstBrokenPart-illegal (Missing s) first legal = first
  IsFirstBrokenPart-illegal (Deck p b) first legal = IsFirstMisplaced-illegal p b first.2 legal
  IsFirstBrokenPart-illegal (Clash p i j) first legal = IsFirstClash-illegal p i j first.3 legal
  IsFirstBrokenPart-illegal (Time c b) first legal = IsFirstBreak-untimely I c P b first.4.broken (legal.timely c first.4.chamber)

  -- and so the plan
  pub IsFirstBrokenPlan-illegal : (b : BrokenPlan) → IsFirstBrokenPlan I P b → IsLegal I P → ⊥
  IsFirstBrokenPlan-illegal (Shape p) first legal = IsFirstBrokenPart-illegal (Shape p) first (legal-part I P legal)
  IsFirstBrokenPlan-illegal (Double s) first legal = IsFirstBrokenPart-illegal (Double s) first (legal-part I P legal)
  IsFirstBrokenPlan-illegal (Missing s) first legal = absurd (omega (arith, first.2.missing, legal.once s first.2.ship))
  IsFirstBrokenPlan-illegal (Deck p b) first legal = IsFirstBrokenPart-illegal (Deck p b) first.1 (legal-part I P legal)
  IsFirstBrokenPlan-illegal (Clash p i j) first legal = IsFirstBrokenPart-illegal (Clash p i j) first.1 (legal-part I P legal)
  IsFirstBrokenPlan-illegal (Time c b) first legal = IsFirstBrokenPart-illegal (Time c b) first.1 (legal-part I P legal)

  -- without a break the part is legal
  pub IsLegalPart-unbroken : AreShaped I P → ((p : ℕ) → p < length P.lockages → IsStrictlyIncreasing (lockage_at P p).ships) → HasNoDouble I P → ArePlaced I P → AreClear I P → AreOnTime I P → IsLegalPart I P
  IsLegalPart-unbroken shaped rising single placed clear timely = record {
    once = single.each;
    lockage = λ p d within.
        subst (IsLegalLockage I) (get_or_default P.lockages p no_lockage d within)
        (IsLegalLockage-shaped I (lockage_at P p) (shaped.each p within) (rising p within) (placed.each p within) (clear.each p within));
    timely = timely.each;
  }

  -- a legal part that lacks no ship is a legal plan
  pub IsLegal-whole : IsLegalPart I P → HasNoMissing I P → IsLegal I P
  IsLegal-whole part served = record { once = λ s known. omega (arith, part.once s known, served.each s known); lockage = part.lockage; timely = part.timely }

-- what holds of the lockages before place p, and of the one that is read there
pub each-more : (R : Lockage → Type 0) (P : Plan) (p : ℕ) (l : Lockage) (ls : List Lockage) → ls ≡ P.lockages → p < length ls → l ≡ get_or ls p l
    → ((k : ℕ) → k < p → R (lockage_at P k)) → R l → (k : ℕ) → k < p + 1 → R (lockage_at P k)
each-more R P p l ls same within read before here = below_more (λ k. R (lockage_at P k)) p before (subst R (lockage_at-read P p l ls same within read) here)
