-- Spots that obey the options of a case.
use Rattle.std.specs.Prelude.{◌≡◌, ◌+◌, ◌≤◌, List}
use Rattle.lock_model.specs.Deck.{Deck}
use Rattle.lock_model.specs.Placement.{spot_at}
use Rattle.lock_model.specs.declared.placement.Spot.{Spot}
use Rattle.refute_rules.specs.Reasons.{length_at, width_at}
use Rattle.refute_rules.specs.declared.choices.Choice.{Choice}
use Rattle.refute_rules.specs.declared.choices.Choice.TheVariants.{Lies, Before, Below, LiesAt}

-- the spots obey an option
abbrev pub ObeysChoice : Deck → List Spot → Choice → Type 0
ObeysChoice d spots (Lies i b) = ((spot_at spots i).rank ≡ b.rank) × ((spot_at spots i).moor ≡ b.moor)
ObeysChoice d spots (Before i j) = (spot_at spots i).x + length_at d i + d.gap ≤ (spot_at spots j).x
ObeysChoice d spots (Below i j) = (spot_at spots i).y + width_at d i + d.side ≤ (spot_at spots j).y
ObeysChoice d spots (LiesAt i v) = (spot_at spots i).x ≡ v
