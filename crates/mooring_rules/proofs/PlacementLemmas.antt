-- A placement with a break isn't legal.
use Rattle.std.proofs.Common.{ℕ, ◌<◌, List, length, arith}
use Rattle.lock_model.specs.Deck.{Deck}
use Rattle.lock_model.specs.Placement.{IsLegalPlacement}
use Rattle.lock_model.specs.declared.placement.Spot.{Spot}
use Rattle.lock_model.specs.declared.placement.Moor.{Moor}
use Rattle.lock_model.specs.declared.placement.Moor.TheVariants.{Quay, Ship}
use Rattle.mooring_rules.specs.PlacementBreaks.{AreFirstTouching, IsFirstLooseAt, IsFirstBroken}
use Rattle.mooring_rules.specs.declared.breaks.Broken.{Broken}
use Rattle.mooring_rules.specs.declared.breaks.Broken.TheVariants.{Outside, Touching, Adrift, BadHost}

module _ (d : Deck) (spots : List Spot) where
  AreFirstTouching-illegal : (i j : ℕ) → AreFirstTouching d spots i j → IsLegalPlacement d spots → ⊥
  AreFirstTouching-illegal i j first legal =
      let pair = first.pair in
      let ship : i < length d.ships = omega (arith, pair.order, pair.ship) in
      pair.touching ((legal.apart i ship).later j pair.order pair.ship)

  IsFirstLooseAt-illegal : (i : ℕ) (m : Moor) → IsFirstLooseAt d spots i m → IsLegalPlacement d spots → ⊥
  IsFirstLooseAt-illegal i m at legal = at.first.loose (legal.berthed i at.first.ship)

  -- a first break leaves the placement not legal
  pub IsFirstBroken-illegal : (b : Broken) → IsFirstBroken d spots b → IsLegalPlacement d spots → ⊥
  IsFirstBroken-illegal (Outside i) first legal = first.outside (legal.inside i first.ship)
  IsFirstBroken-illegal (Touching i j) first legal = AreFirstTouching-illegal i j first.1 legal
  IsFirstBroken-illegal (Adrift i) first legal = IsFirstLooseAt-illegal i Quay first legal
  IsFirstBroken-illegal (BadHost i k) first legal = IsFirstLooseAt-illegal i (Ship k) first legal
