-- What is found of the ships of a chamber.
use Rattle.std.specs.Prelude.{ℕ, ◌≡◌, ◌≤◌, List, length, All, Contains}
use Rattle.lock_model.specs.Deck.{Deck}
use Rattle.lock_model.specs.Fitting.{deck_of}
use Rattle.lock_model.specs.Placement.{IsLegalPlacement}
use Rattle.lock_model.specs.Cargo.{HasNoClash}
use Rattle.lock_model.specs.declared.instance.Instance.{Instance}
use Rattle.lock_model.specs.declared.placement.Spot.{Spot}
use Rattle.lock_rules.specs.Cut.{Hits}
use Rattle.refute_rules.specs.Spots.{IsSpent}
use Rattle.refute_rules.specs.declared.refutation.Refutation.{Refutation}
use Rattle.refute_rules.specs.declared.refutation.Refutation.TheVariants as refutation
use Rattle.refute_rules.specs.Refutes.{IsRefuted}
use Rattle.refute_rules.specs.Cuts.{Cut, IsCut}
use Rattle.deck_cuts.specs.Tried.{Tried}
use Rattle.chamber_place.specs.Parts.{IsShrunk}
use Rattle.book_rules.specs.Cover.{IsOwnCut}
use Rattle.node_work.specs.declared.first_placer.FirstPlacer.{FirstPlacer}
use Rattle.node_work.specs.declared.first_placer.FirstPlacer.TheVariants as first_placer
use Rattle.node_work.specs.declared.settling.Answer.{Answer}
use Rattle.node_work.specs.declared.settling.Answer.TheVariants as answer
use Rattle.node_work.specs.declared.settling.Settled.{Settled}
use Rattle.node_work.specs.declared.settling.Settled.TheVariants.{Fits, Refuted, Spent}

-- the ships lie legally, and no two of them clash
pub record AreMooredAt (d : Deck) (spots : List Spot) : Type 0 where
  pub placed : IsLegalPlacement d spots
  pub clear : HasNoClash d

-- the cut is proved, is about a chamber and ships of the instance, and hits chamber c with the ships S
pub record IsCutOf (I : Instance) (c : ℕ) (S : List ℕ) (cut : Cut) : Type 0 where
  pub proved : IsCut cut
  pub own : IsOwnCut I cut
  pub hits : Hits cut.ships cut.deck I c S

-- how many turns `place` has for each smaller deck of a part that it or the placer by spots refuted
abbrev pub turns_by_cases : FirstPlacer → ℕ → ℕ
turns_by_cases first_placer.Cases turns = turns
turns_by_cases first_placer.Berths turns = 1

-- how many turns `place` has for each smaller deck where a cut is shrunk
abbrev pub shrink_turns : FirstPlacer → ℕ → Refutation → ℕ
shrink_turns first turns (refutation.Berths marks) = 1
shrink_turns first turns (refutation.Quick q) = turns_by_cases first turns
shrink_turns first turns (refutation.Cases marks) = turns_by_cases first turns
shrink_turns first turns (refutation.Spots marks) = turns_by_cases first turns
shrink_turns first turns (refutation.Clash i j) = turns

-- some of the ships S, and a refutation of the deck of chamber c with these alone
pub record IsPartOf (I : Instance) (c : ℕ) (S part : List ℕ) (r : Refutation) : Type 0 where
  pub among : All (Contains S) part
  pub some : 1 ≤ length part
  pub refuted : IsRefuted (deck_of I c part) r

-- the cut is proved, and was shrunk from a refutation of the deck of some of the ships S
pub record IsCutOfPart (first : FirstPlacer) (I : Instance) (c : ℕ) (S : List ℕ) (turns : ℕ) (cut : Cut) : Type 0 where
  pub proved : IsCut cut
  pub part : List ℕ
  pub refutation : Refutation
  pub is_part : IsPartOf I c S part refutation
  pub shrunk : IsShrunk c part (deck_of I c part) refutation (shrink_turns first turns refutation) cut

-- the deck is spent for these turns, which is told of it, and no two of its ships clash
pub record IsTooHard (d : Deck) (turns : ℕ) (hard spots : Tried) : Type 0 where
  pub hard_is : hard ≡ record { deck = d; turns = turns }
  pub spots_are : spots ≡ record { deck = d; turns = turns }
  pub spent : IsSpent d turns
  pub clear : HasNoClash d

-- what is found of chamber c with the ships S is so
abbrev pub IsSettled : Instance → ℕ → List ℕ → ℕ → Settled → Type 0
IsSettled I c S turns (Fits spots) = AreMooredAt (deck_of I c S) spots
IsSettled I c S turns (Refuted cut) = IsCutOf I c S cut
IsSettled I c S turns (Spent hard spots) = IsTooHard (deck_of I c S) turns hard spots

-- what the placers say of a deck of which no two ships clash, or that two of them clash
abbrev pub IsAnswered : Deck → ℕ → Answer → Type 0
IsAnswered d turns (answer.Fits spots) = AreMooredAt d spots
IsAnswered d turns (answer.Refuted r) = IsRefuted d r
IsAnswered d turns (answer.Spent hard spots) = IsTooHard d turns hard spots

-- the same of a deck, of which no cut is remembered
abbrev pub IsRecalled : Deck → ℕ → Settled → Type 0
IsRecalled d turns (Fits spots) = AreMooredAt d spots
IsRecalled d turns (Refuted cut) = ⊥
IsRecalled d turns (Spent hard spots) = IsTooHard d turns hard spots
