-- What the visit of a case does.
use Rattle.std.specs.Prelude.{ℕ, ◌≡◌, ◌≤◌, ◌<◌, ◌⊎◌, List, [], ◌∷◌, ◌++◌, ◌+◌, zero, Bool, true, false, length, slice_index_or, take}
use Rattle.lock_model.specs.Deck.{Deck, IsDeck}
use Rattle.lock_model.specs.Placement.{IsLegalPlacement}
use Rattle.refute_rules.specs.declared.choices.Choice.{Choice}
use Rattle.refute_rules.specs.declared.choices.Choice.TheVariants.{Before}
use Rattle.refute_rules.specs.Trees.{AreInOrder}
use Rattle.refute_rules.specs.BerthTrees.{Split, split_options, split_numbers, BeginsWithTree}
use Rattle.berth_place.specs.Along.{along_edges, order_edges}
use Rattle.berth_check.specs.Raises.{AreKnown}
use Rattle.berth_place.specs.Known.{AreBerths, HasAllBerths}
use Rattle.berth_place.specs.Pairs.{pair, ArePairs, AreAllPairs, ArePairsBut}
use Rattle.berth_place.specs.Unfinished.{node_count, IsUnfinished}
use Rattle.berth_place.specs.declared.pairs.Pair.{Pair}
use Rattle.berth_place.specs.declared.search.Search.{Search}
use Rattle.berth_place.specs.declared.search.Visit.{Visit}
use Rattle.berth_place.specs.declared.search.Visit.TheVariants.{Closed, Placed, Spent}

-- the marks grew by a tree of the case
pub record GrewByTree (d : Deck) (case : List Choice) (old new : List ℕ) : Type 0 where
  pub added : List ℕ
  pub is : new ≡ old ++ added
  pub tree : (rest : List ℕ) → BeginsWithTree d case (added ++ rest) rest
  pub nodes : (rest : List ℕ) → node_count (added ++ rest) ≡ node_count added + node_count rest

-- the marks grew by the numbers of a split and trees of its first options
pub record IsPassed (d : Deck) (case : List Choice) (split : Split) (old new : List ℕ) (count : ℕ) : Type 0 where
  pub inner : List ℕ
  pub is : new ≡ old ++ (split_numbers split ++ inner)
  pub trees : (rest : List ℕ) → AreInOrder (λ choice. BeginsWithTree d (case ++ choice ∷ [])) (take count (split_options d split)) (inner ++ rest) rest
  pub nodes : (rest : List ℕ) → node_count ((split_numbers split ++ inner) ++ rest) ≡ node_count (split_numbers split ++ inner) + node_count rest

-- the search goes on with the same case within its turns
pub record GoesOn (old new : Search) : Type 0 where
  pub case : new.case ≡ old.case
  pub edges : new.edges ≡ old.edges
  pub turns : new.turns ≡ old.turns
  pub more : old.tried ≤ new.tried
  pub few : new.tried ≤ new.turns

-- One option more than the turns was tried. The marks grew by an unfinished tree of the case with a node for the case and for each other option.
pub record IsSpentVisit (d : Deck) (old new : Search) : Type 0 where
  pub turns : new.turns ≡ old.turns
  pub more : new.tried ≡ new.turns + 1
  pub added : List ℕ
  pub is : new.marks ≡ old.marks ++ added
  pub unfinished : IsUnfinished d old.case added
  pub nodes : new.tried ≡ old.tried + node_count added

-- the same of the case with one option more, which may be the one that was too many
pub record IsOptionSpent (d : Deck) (choice : Choice) (old new : Search) : Type 0 where
  pub turns : new.turns ≡ old.turns
  pub more : new.tried ≡ new.turns + 1
  pub added : List ℕ
  pub is : new.marks ≡ old.marks ++ added
  pub unfinished : (added ≡ []) ⊎ IsUnfinished d (old.case ++ choice ∷ []) added
  pub nodes : new.tried ≡ old.tried + 1 + node_count added

-- one option more is counted
pub record IsCounted (old new : Search) : Type 0 where
  pub case : new.case ≡ old.case
  pub edges : new.edges ≡ old.edges
  pub marks : new.marks ≡ old.marks
  pub turns : new.turns ≡ old.turns
  pub tried : new.tried ≡ old.tried + 1

-- and the turns allow it, or they don't
abbrev pub IsTry : Search → Search → Bool → Type 0
IsTry old new true = IsCounted old new × (new.tried ≤ new.turns)
IsTry old new false = IsCounted old new × (new.tried ≡ new.turns + 1)

-- the order of a pair that an option stands for
abbrev pub order_of : Pair → ℕ → Choice
order_of p zero = Before p.lower p.upper
order_of p _ = Before p.upper p.lower

-- an order of two ships is taken, with its edge
pub record TakesOrder (d : Deck) (p : Pair) (option : ℕ) (old new : Search) : Type 0 where
  pub case : new.case ≡ old.case ++ order_of p option ∷ []
  pub edges : new.edges ≡ old.edges ++ order_edges d (order_of p option ∷ [])
  pub marks : new.marks ≡ old.marks
  pub turns : new.turns ≡ old.turns
  pub tried : new.tried ≡ old.tried

-- some options of a split are passed
pub record IsPartWay (d : Deck) (old new : Search) (split : Split) (count : ℕ) : Type 0 where
  pub on : GoesOn old new
  pub passed : IsPassed d old.case split old.marks new.marks count
  pub tried : new.tried + 1 ≡ old.tried + node_count (split_numbers split ++ passed.inner)

-- the case is closed by a tree
pub record IsClosed (d : Deck) (old new : Search) : Type 0 where
  pub grew : GrewByTree d old.case old.marks new.marks
  pub on : GoesOn old new
  pub tried : new.tried + 1 ≡ old.tried + node_count grew.added

-- a case that decides all berths, with its edges along the chamber
pub record IsOrdering (d : Deck) (s : Search) : Type 0 where
  pub limits : IsDeck d
  pub whole : HasAllBerths d s.case
  pub known : AreKnown d s.case
  pub edges : s.edges ≡ along_edges d s.case
  pub few : s.tried ≤ s.turns

-- the pairs of such a case that overlap and have no order yet, with room for their edges
pub record IsOrderedOn (d : Deck) (s : Search) (ps : List Pair) : Type 0 where
  pub ordering : IsOrdering d s
  pub pairs : ArePairs d s.case ps
  pub all : AreAllPairs d s.case ps (length d.ships)
  pub room : length s.edges + length ps ≤ 96

-- one of these pairs is taken out
pub record IsTakenPair (d : Deck) (s : Search) (ps : List Pair) (number : ℕ) (p : Pair) (left : List Pair) : Type 0 where
  pub pairs : ArePairs d s.case ps
  pub all : AreAllPairs d s.case ps (length d.ships)
  pub room : length s.edges + length ps ≤ 96
  pub known : number < length ps
  pub is : p ≡ slice_index_or ps number (pair 0 0)
  pub but : ArePairsBut ps number left

-- a case of berths alone
pub record IsBerthing (d : Deck) (s : Search) : Type 0 where
  pub known : AreKnown d s.case
  pub berths : AreBerths s.case
  pub edges : s.edges ≡ []
  pub few : s.tried ≤ s.turns

-- the case with one option more is closed, and the option is taken back
pub record IsOptionClosed (d : Deck) (choice : Choice) (old new : Search) : Type 0 where
  pub grew : GrewByTree d (old.case ++ choice ∷ []) old.marks new.marks
  pub on : GoesOn old new
  pub tried : new.tried ≡ old.tried + node_count grew.added

-- what the visit of that case does
abbrev pub IsVisitOf : Deck → Choice → Search → Search → Visit → Type 0
IsVisitOf d choice old new Closed = IsOptionClosed d choice old new
IsVisitOf d choice old new Placed = IsLegalPlacement d new.spots
IsVisitOf d choice old new Spent = IsOptionSpent d choice old new

abbrev pub IsVisit : Deck → Search → Search → Visit → Type 0
IsVisit d old new Closed = IsClosed d old new
IsVisit d old new Placed = IsLegalPlacement d new.spots
IsVisit d old new Spent = IsSpentVisit d old new
