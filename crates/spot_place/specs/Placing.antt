-- What the placer by spots answers.
use Rattle.std.specs.Prelude.{ℕ, ◌≡◌, List}
use Rattle.lock_model.specs.Deck.{Deck}
use Rattle.lock_model.specs.Fitting.{Fits as DoesFit}
use Rattle.lock_model.specs.Placement.{IsLegalPlacement}
use Rattle.lock_model.specs.declared.placement.Spot.{Spot}
use Rattle.refute_rules.specs.declared.choices.Choice.{Choice}
use Rattle.refute_rules.specs.Listing.{IsFirstWithin, HasNoneOf}
use Rattle.refute_rules.specs.Spots.{IsListed, IsWholeSpots, IsSpotHard, AreSpotsOfCase, spot_cases_of}
use Rattle.refute_rules.specs.Trees.{IsSpotTree}
use Rattle.deck_cuts.specs.Tried.{Tried}
use Rattle.spot_place.specs.declared.placing.SpotPlaced.{SpotPlaced}
use Rattle.spot_place.specs.declared.placing.SpotPlaced.TheVariants.{Fits, Refuted, Spent}

-- the spots are those of the first whole spot case, which is among the first `turns` listed ones, and they are legal
pub record IsFit (d : Deck) (turns : ℕ) (spots : List Spot) : Type 0 where
  pub case : List Choice
  pub first : IsFirstWithin (IsListed d) (IsWholeSpots d) turns (spot_cases_of d) case
  pub spots_of : AreSpotsOfCase d case spots
  pub legal : IsLegalPlacement d spots

-- at most `turns` spot cases are listed and none is whole, the marks are exactly one spot tree, and the deck doesn't fit
pub record IsRefutedBy (d : Deck) (turns : ℕ) (marks : List ℕ) : Type 0 where
  pub none : HasNoneOf (IsListed d) (IsWholeSpots d) turns (spot_cases_of d)
  pub tree : IsSpotTree d marks
  pub unfit : DoesFit d → ⊥

-- the deck is spot-hard for these turns
pub record IsSpentFor (d : Deck) (turns : ℕ) (hard : Tried) : Type 0 where
  pub is : hard ≡ record { deck = d; turns = turns }
  pub spot_hard : IsSpotHard d turns

-- exact up to its turns
abbrev pub IsSpotPlaced : Deck → ℕ → SpotPlaced → Type 0
IsSpotPlaced d turns (Fits spots) = IsFit d turns spots
IsSpotPlaced d turns (Refuted marks) = IsRefutedBy d turns marks
IsSpotPlaced d turns (Spent hard) = IsSpentFor d turns hard

-- the decks that `place_by_spots` refutes within so many turns: at most so many spot cases are listed and none of them is whole
abbrev pub SpotsRefute : Deck → ℕ → Type 0
SpotsRefute d turns = HasNoneOf (IsListed d) (IsWholeSpots d) turns (spot_cases_of d)

-- `Refuted` comes exactly where `place_by_spots` refutes the deck
abbrev pub RefutesExactly : Deck → ℕ → SpotPlaced → Type 0
RefutesExactly d turns (Fits spots) = SpotsRefute d turns → ⊥
RefutesExactly d turns (Refuted marks) = SpotsRefute d turns
RefutesExactly d turns (Spent hard) = SpotsRefute d turns → ⊥

-- `Spent` comes exactly where the deck is spot-hard
abbrev pub SpendsExactly : Deck → ℕ → SpotPlaced → Type 0
SpendsExactly d turns (Fits spots) = IsSpotHard d turns → ⊥
SpendsExactly d turns (Refuted marks) = IsSpotHard d turns → ⊥
SpendsExactly d turns (Spent hard) = IsSpotHard d turns
