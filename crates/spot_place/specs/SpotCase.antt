-- What is kept of a spot case while the search goes through them.
use Rattle.std.specs.Prelude.{ℕ, suc, ◌≡◌, ◌≤◌, ℤ, List, [], ◌∷◌, ◌++◌, length, take, slice_index_or}
use Rattle.std.specs.declared.option.Option.{Option}
use Rattle.lock_model.specs.Deck.{Deck, IsDeck}
use Rattle.refute_rules.specs.declared.choices.Decision.{Decision}
use Rattle.refute_rules.specs.declared.choices.Choice.{Choice}
use Rattle.refute_rules.specs.declared.choices.Choice.TheVariants.{Before}
use Rattle.refute_rules.specs.Choices.{options_of}
use Rattle.refute_rules.specs.Values.{spot_values}
use Rattle.refute_rules.specs.Spots.{IsListed}
use Rattle.refute_rules.specs.declared.choices.Berth.{Berth}
use Rattle.spot_place.specs.OnWay.{AreKnown, case_of, lying}
use Rattle.spot_place.specs.Heights.{AreHeights}

-- a deck, the berths of its first ships, and the x of these, or of all of them but the last
pub record OnWay : Type 0 where
  pub deck : Deck
  pub berths : List Berth
  pub places : List ℕ

abbrev pub case_on : OnWay → List Choice
case_on s = case_of s.berths s.places

-- the case with an option of a decision
abbrev pub with_choice : OnWay → Decision → ℕ → List Choice
with_choice s decision option = case_on s ++ slice_index_or (options_of s.deck decision) option (Before 0 0) ∷ []

-- berths and places that go in step, of ships of the deck, in a listed spot case
pub record IsOnWay (d : Deck) (berths : List Berth) (places : List ℕ) : Type 0 where
  pub ships : length berths ≤ length d.ships
  pub behind : length places ≤ length berths
  pub ahead : length berths ≤ suc (length places)
  pub known : AreKnown d berths
  pub listed : IsListed d (case_of berths places)

-- level k keeps the y that are known by the first k berths
pub record AreLevels (d : Deck) (berths : List Berth) (levels : List (List (Option ℤ))) : Type 0 where
  pub count : length levels ≡ suc (length berths)
  pub each : (k : ℕ) → k ≤ length berths → AreHeights d (lying (take k berths)) (slice_index_or levels k [])

-- what the type keeps
pub record KeepsSpotCase (d : Deck) (values : List ℕ) (berths : List Berth) (places : List ℕ) (levels : List (List (Option ℤ))) : Type 0 where
  pub limits : IsDeck d
  pub valued : values ≡ spot_values d
  pub way : IsOnWay d berths places
  pub known : AreLevels d berths levels
