-- Walking over the marks of a tree: children are trees of the extensions, in order.
use Rattle.std.specs.Prelude.{ℕ, ◌≡◌, ◌+◌, ◌<◌, ◌≤◌, List, [], ◌∷◌, ◌++◌, length, take, drop, slice_index_or}
use Rattle.lock_model.specs.declared.limits.TheConstants.{DECISIONS, MOST}
use Rattle.lock_model.specs.Deck.{Deck}
use Rattle.refute_rules.specs.declared.choices.Decision.{Decision}
use Rattle.refute_rules.specs.declared.choices.Decision.TheVariants.{BerthOf}
use Rattle.refute_rules.specs.declared.choices.Choice.{Choice}
use Rattle.refute_rules.specs.Choices.{options_of}
use Rattle.refute_rules.specs.Trees.{AreInOrder}
use Rattle.place_refute.specs.declared.leaf.Trees.{Trees}
use Rattle.place_refute.specs.declared.tree.Reading.{Reading}
use Rattle.deck_cases.specs.Asked.{IsAsked}
use Rattle.place_refute.specs.Reading.{IsTreeOf, IsTreeAt, HasNoTreeAt, decisions_of}

-- these are the decisions of the deck, and the values are those of an x where one asks for it
pub record IsReading (d : Deck) (trees : Trees) (list : List Decision) (values : List ℕ) : Type 0 where
  pub all : list ≡ decisions_of trees (length d.ships)
  pub asked : (k : ℕ) → k < length list → IsAsked d values (slice_index_or list k (BerthOf 0))
  pub few : length list ≤ DECISIONS
  pub ships : length d.ships ≤ MOST

-- the next decision of a case, and those after it
abbrev pub next_of : List Decision → List Choice → Decision
next_of list case = slice_index_or list (length case) (BerthOf 0)

abbrev pub later_of : List Decision → List Choice → List Decision
later_of list case = drop (length case + 1) list

-- trees of the extensions by some options, and then the rest
abbrev pub AreTrees : Deck → Trees → List Decision → List Choice → List Choice → List ℕ → List ℕ → Type 0
AreTrees d trees list case options marks rest = AreInOrder (λ choice. IsTreeOf d trees (later_of list case) (case ++ choice ∷ [])) options marks rest

-- the trees of the first extensions stand at a place of the marks and end at another
pub record AreChildrenAt (d : Deck) (trees : Trees) (list : List Decision) (case : List Choice) (marks : List ℕ) (first number end : ℕ) : Type 0 where
  pub inside : end ≤ length marks
  pub children : AreTrees d trees list case (take number (options_of d (next_of list case))) (drop first marks) (drop end marks)

pub record HasNoChildrenAt (d : Deck) (trees : Trees) (list : List Decision) (case : List Choice) (marks : List ℕ) (first : ℕ) : Type 0 where
  pub none : (rest : List ℕ) → AreTrees d trees list case (options_of d (next_of list case)) (drop first marks) rest → ⊥

-- a tree of the extension by an option
abbrev pub IsChildAt : Deck → Trees → List Decision → List Choice → List ℕ → Choice → ℕ → ℕ → Type 0
IsChildAt d trees list case marks choice at end = IsTreeAt d trees (later_of list case) (case ++ choice ∷ []) marks at end

abbrev pub HasNoChildAt : Deck → Trees → List Decision → List Choice → List ℕ → Choice → ℕ → Type 0
HasNoChildAt d trees list case marks choice at = HasNoTreeAt d trees (later_of list case) (case ++ choice ∷ []) marks at

-- ---- what ends where, and what stands nowhere, in the marks that are read

-- the tree of a case
abbrev pub IsTreeEnd : Reading → List Choice → ℕ → ℕ → Type 0
IsTreeEnd r case at end = IsTreeAt r.deck.now r.trees (drop (length case) r.decisions.now) case r.marks.now at end

abbrev pub HasNoTreeEnd : Reading → List Choice → ℕ → Type 0
HasNoTreeEnd r case at = HasNoTreeAt r.deck.now r.trees (drop (length case) r.decisions.now) case r.marks.now at

-- the trees of all its extensions by the options of the next decision
abbrev pub IsChildrenEnd : Reading → List Choice → ℕ → ℕ → Type 0
IsChildrenEnd r case first end =
    AreChildrenAt r.deck.now r.trees r.decisions.now case r.marks.now first (length (options_of r.deck.now (next_of r.decisions.now case))) end

abbrev pub HasNoChildrenEnd : Reading → List Choice → ℕ → Type 0
HasNoChildrenEnd r case first = HasNoChildrenAt r.deck.now r.trees r.decisions.now case r.marks.now first

-- the tree of its extension by an option
abbrev pub IsChildEnd : Reading → List Choice → Choice → ℕ → ℕ → Type 0
IsChildEnd r case choice at end = IsChildAt r.deck.now r.trees r.decisions.now case r.marks.now choice at end

abbrev pub HasNoChildEnd : Reading → List Choice → Choice → ℕ → Type 0
HasNoChildEnd r case choice at = HasNoChildAt r.deck.now r.trees r.decisions.now case r.marks.now choice at
