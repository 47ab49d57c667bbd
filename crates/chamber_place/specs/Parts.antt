-- Some of a deck's ships, and what shrinking gives.
use Rattle.std.specs.Prelude.{ℕ, ◌≡◌, ◌⊎◌, ◌<◌, ◌≤◌, List, [], ◌∷◌, length, map, All, Contains, slice_index_or}
use Rattle.std.specs.List.{remove}
use Rattle.lock_model.specs.Deck.{Deck, size_at}
use Rattle.deck_laws.specs.Thin.{thin_deck}
use Rattle.refute_rules.specs.declared.refutation.Refutation.{Refutation}
use Rattle.refute_rules.specs.declared.refutation.Refutation.TheVariants as refutation
use Rattle.refute_rules.specs.Reasons.{AreSome}
use Rattle.refute_rules.specs.Refutes.{IsRefuted}
use Rattle.refute_rules.specs.Cuts.{Cut}
use Rattle.chamber_place.specs.Placing.{PlaceRefutes}

-- the deck with the ships at these places alone
abbrev pub part_of : Deck → List ℕ → Deck
part_of d places = record { length = d.length; width = d.width; end = d.end; gap = d.gap; side = d.side; ships = map (size_at d) places }

-- Where a deck has two ships or more, `place` refutes no deck that leaves out one of them.
pub record IsLeast (d : Deck) (turns : ℕ) : Type 0 where
  pub needed : (k : ℕ) → 2 ≤ length d.ships → k < length d.ships → PlaceRefutes (thin_deck d k) turns → ⊥

-- `place` refutes none of the parts with one of these ships fewer
abbrev pub HasNoSmallerPart : Deck → ℕ → List ℕ → Type 0
HasNoSmallerPart d turns places = (k : ℕ) → k < length places → PlaceRefutes (part_of d (remove places k)) turns → ⊥

-- Of a clashing pair both ships are kept, or one that `place` refutes alone.
abbrev pub KeepsClash : Deck → ℕ → Refutation → List ℕ → Type 0
KeepsClash d turns (refutation.Clash i j) kept =
    (kept ≡ i ∷ j ∷ [])
    ⊎ (((kept ≡ i ∷ []) × PlaceRefutes (part_of d (i ∷ [])) turns) ⊎ ((kept ≡ j ∷ []) × PlaceRefutes (part_of d (j ∷ [])) turns))
KeepsClash d turns (refutation.Quick q) kept = Unit {0}
KeepsClash d turns (refutation.Cases marks) kept = Unit {0}
KeepsClash d turns (refutation.Spots marks) kept = Unit {0}
KeepsClash d turns (refutation.Berths marks) kept = Unit {0}

-- The cut has the given chamber, some of the given ships, and their sizes in a deck of the given measures, and is no larger than it has to be.
pub record IsShrunk (chamber : ℕ) (ships : List ℕ) (d : Deck) (r : Refutation) (turns : ℕ) (cut : Cut) : Type 0 where
  pub kept : List ℕ
  pub places : AreSome d kept
  pub chamber_is : cut.chamber ≡ chamber
  pub ships_are : cut.ships ≡ map (λ k. slice_index_or ships k 0) kept
  pub deck_is : cut.deck ≡ part_of d kept
  pub least : IsLeast cut.deck turns
  pub clash : KeepsClash d turns r kept

-- a refutation of the deck with the ships at some places alone
pub record IsPart (d : Deck) (places : List ℕ) (r : Refutation) : Type 0 where
  pub some : AreSome d places
  pub refuted : IsRefuted (part_of d places) r

-- the same places as before, or some of them whose deck `place` refutes
abbrev pub IsSmaller : Deck → ℕ → List ℕ → List ℕ → Type 0
IsSmaller d turns before after = (after ≡ before) ⊎ (All (Contains before) after × PlaceRefutes (part_of d after) turns)

-- shrinking a clash begins with its two ships
abbrev pub BeginsWithClash : Refutation → List ℕ → Type 0
BeginsWithClash (refutation.Clash i j) places = places ≡ i ∷ j ∷ []
BeginsWithClash (refutation.Quick q) places = Unit {0}
BeginsWithClash (refutation.Cases marks) places = Unit {0}
BeginsWithClash (refutation.Spots marks) places = Unit {0}
BeginsWithClash (refutation.Berths marks) places = Unit {0}

-- `place` refutes the deck with the ships at these places alone, and this is its refutation
pub record IsRefutedPart (d : Deck) (turns : ℕ) (places found : List ℕ) (r : Refutation) : Type 0 where
  pub same : found ≡ places
  pub part : IsPart d found r
  pub refutes : PlaceRefutes (part_of d found) turns

-- a part with fewer ships that `place` refutes
pub record IsSmallerPart (d : Deck) (turns : ℕ) (places found : List ℕ) (r : Refutation) : Type 0 where
  pub part : IsPart d found r
  pub smaller : IsSmaller d turns places found
  pub fewer : length found < length places
