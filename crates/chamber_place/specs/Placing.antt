-- What the placer answers.
use Rattle.std.specs.Prelude.{ℕ, ◌≡◌, ◌⊎◌, List}
use Rattle.lock_model.specs.Deck.{Deck}
use Rattle.lock_model.specs.Placement.{IsLegalPlacement}
use Rattle.lock_model.specs.declared.placement.Spot.{Spot}
use Rattle.refute_rules.specs.declared.refutation.Quick.{Quick}
use Rattle.refute_rules.specs.declared.refutation.Refutation.{Refutation}
use Rattle.refute_rules.specs.declared.refutation.Refutation.TheVariants as refutation
use Rattle.refute_rules.specs.Reasons.{Holds, HasNoReason, IsFirstReason}
use Rattle.refute_rules.specs.declared.choices.Choice.{Choice}
use Rattle.refute_rules.specs.Listing.{IsFirstWithin, HasNoneOf}
use Rattle.refute_rules.specs.Cases.{IsConsistent, IsWhole, IsHard, AreSpotsOf, cases_of}
use Rattle.refute_rules.specs.Trees.{IsCaseTree}
use Rattle.refute_rules.specs.Refutes.{IsRefuted}
use Rattle.deck_cuts.specs.Tried.{Tried}
use Rattle.chamber_place.specs.declared.placing.Placed.{Placed}
use Rattle.chamber_place.specs.declared.placing.Placed.TheVariants.{Fits, Refuted, Spent}

-- no quick reason holds, and the spots are the least solution of the first whole case, which is among the first `turns` consistent ones; they are legal
pub record IsFit (d : Deck) (turns : ℕ) (spots : List Spot) : Type 0 where
  pub reasonless : HasNoReason d
  pub case : List Choice
  pub first : IsFirstWithin (IsConsistent d) (IsWhole d) turns (cases_of d) case
  pub spots_of : AreSpotsOf d case spots
  pub legal : IsLegalPlacement d spots

-- no quick reason holds, at most `turns` cases are consistent and none of them is whole, and the marks are exactly one case tree
pub record IsRefutedBy (d : Deck) (turns : ℕ) (marks : List ℕ) : Type 0 where
  pub reasonless : HasNoReason d
  pub none : HasNoneOf (IsConsistent d) (IsWhole d) turns (cases_of d)
  pub tree : IsCaseTree d marks

-- the first quick reason, or else a case tree
abbrev pub IsRefutedWithin : Deck → ℕ → Refutation → Type 0
IsRefutedWithin d turns (refutation.Quick q) = IsFirstReason d q
IsRefutedWithin d turns (refutation.Cases marks) = IsRefutedBy d turns marks
IsRefutedWithin d turns (refutation.Spots marks) = ⊥
IsRefutedWithin d turns (refutation.Clash i j) = ⊥
IsRefutedWithin d turns (refutation.Berths marks) = ⊥

-- more cases are consistent than there are turns, none of the first is whole, and it is told of this deck and these turns
pub record IsSpentBy (d : Deck) (turns : ℕ) (tried : Tried) : Type 0 where
  pub hard : IsHard d turns
  pub is : tried ≡ record { deck = d; turns = turns }

-- exact up to its turns
abbrev pub IsPlaced : Deck → ℕ → Placed → Type 0
IsPlaced d turns (Fits spots) = IsFit d turns spots
IsPlaced d turns (Refuted r) = IsRefutedWithin d turns r
IsPlaced d turns (Spent tried) = IsSpentBy d turns tried

-- the decks that `place` refutes within so many turns: a quick reason holds, or at most so many cases are consistent and none of them is whole
abbrev pub PlaceRefutes : Deck → ℕ → Type 0
PlaceRefutes d turns = ((q : Quick) × Holds d q) ⊎ HasNoneOf (IsConsistent d) (IsWhole d) turns (cases_of d)

-- the refutation holds, and comes exactly where `place` refutes the deck
abbrev pub RefutesExactly : Deck → ℕ → Placed → Type 0
RefutesExactly d turns (Fits spots) = PlaceRefutes d turns → ⊥
RefutesExactly d turns (Refuted r) = IsRefuted d r × PlaceRefutes d turns
RefutesExactly d turns (Spent tried) = PlaceRefutes d turns → ⊥

-- `Spent` comes exactly where the deck is hard
abbrev pub SpendsExactly : Deck → ℕ → Placed → Type 0
SpendsExactly d turns (Fits spots) = IsHard d turns → ⊥
SpendsExactly d turns (Refuted r) = IsHard d turns → ⊥
SpendsExactly d turns (Spent tried) = IsHard d turns
