-- What the placer by berths answers.
use Rattle.std.specs.Prelude.{ℕ, ◌≡◌, ◌+◌, List, []}
use Rattle.lock_model.specs.Deck.{Deck}
use Rattle.lock_model.specs.Fitting.{Fits as DoesFit}
use Rattle.lock_model.specs.Placement.{IsLegalPlacement}
use Rattle.refute_rules.specs.BerthTrees.{IsBerthTree}
use Rattle.berth_place.specs.Unfinished.{node_count, IsUnfinished}
use Rattle.berth_place.specs.declared.placing.BerthPlaced.{BerthPlaced}
use Rattle.berth_place.specs.declared.placing.BerthPlaced.TheVariants.{Fits, Refuted, Spent}

-- the marks are an unfinished berth tree of the deck, with a node for the deck and for each option that the turns allow
pub record IsSpentBy (d : Deck) (turns : ℕ) (marks : List ℕ) : Type 0 where
  pub unfinished : IsUnfinished d [] marks
  pub nodes : node_count marks ≡ turns + 1

-- legal spots, a berth tree of the deck, or an unfinished one of as many options as turns
abbrev pub IsBerthPlaced : Deck → ℕ → BerthPlaced → Type 0
IsBerthPlaced d turns (Fits spots) = IsLegalPlacement d spots
IsBerthPlaced d turns (Refuted marks) = IsBerthTree d marks
IsBerthPlaced d turns (Spent marks) = IsSpentBy d turns marks

-- a refuted deck doesn't fit
abbrev pub RefutesSoundly : Deck → BerthPlaced → Type 0
RefutesSoundly d (Fits spots) = Unit {0}
RefutesSoundly d (Refuted marks) = DoesFit d → ⊥
RefutesSoundly d (Spent marks) = Unit {0}
