-- The faults of the code as those of the definitions.
use Rattle.std.specs.Prelude.{ℕ, ◌≡◌, ◌<◌, List, length, Some}
use Rattle.lock_model.specs.Deck.{Deck}
use Rattle.refute_rules.specs.declared.choices.Choice.{Choice}
use Rattle.refute_rules.specs.Decided.{x_in}
use Rattle.refute_rules.specs.Known.{y_in}
use Rattle.refute_rules.specs.SpotFaults.{AreTouching, SpotFault as Fault}
use Rattle.refute_rules.specs.SpotFaults.{OtherRank as AtOtherRank, LeadsBack as Back, Outside as NotInside, PastHost as Past, Touching as NotApart}
use Rattle.spot_place.specs.declared.faults.SpotFault.{SpotFault}
use Rattle.spot_place.specs.declared.faults.SpotFault.TheVariants.{OtherRank, LeadsBack, Outside, PastHost, Touching}
use Rattle.spot_place.specs.declared.geometry.Position.{Position}
use Rattle.spot_place.specs.OnWay.{NoneBelow}
use Rattle.spot_place.specs.SpotCase.{OnWay, case_on}

-- a ship of the deck, its x and its y
pub record IsAt (s : OnWay) (i : ℕ) (p : Position) : Type 0 where
  pub ship : p.ship ≡ i
  pub known : i < length s.deck.ships
  pub x : x_in (case_on s) i ≡ Some p.x
  pub y : y_in s.deck (case_on s) i ≡ Some p.y

abbrev pub fault_of : SpotFault → Fault
fault_of (OtherRank i) = AtOtherRank i
fault_of (LeadsBack i) = Back i
fault_of (Outside i) = NotInside i
fault_of (PastHost i) = Past i
fault_of (Touching i j) = NotApart i j

-- none of the first n ships touches one before it
pub record AreApartBelow (d : Deck) (case : List Choice) (n : ℕ) : Type 0 where
  pub each : (i : ℕ) → i < n → NoneBelow (AreTouching d case i) i
