-- A case on its way through the decisions of a deck.
use Rattle.std.specs.Prelude.{ℕ, suc, ◌≡◌, ◌<◌, ◌≤◌, List, [], ◌∷◌, length, take, slice_index_or, Some, None, false}
use Rattle.std.specs.declared.option.Option.{Option}
use Rattle.lock_model.specs.Deck.{Deck, IsDeck}
use Rattle.diff_rules.specs.declared.edges.Edge.{Edge}
use Rattle.diff_system.specs.PathTree.{PathTree, AreLongest}
use Rattle.refute_rules.specs.declared.choices.Decision.{Decision}
use Rattle.refute_rules.specs.declared.choices.Decision.TheVariants.{BerthOf, PairOf, XOf}
use Rattle.refute_rules.specs.declared.choices.Choice.{Choice}
use Rattle.refute_rules.specs.Choices.{options_of, decisions}
use Rattle.refute_rules.specs.Edges.{case_edges, choice_edges}
use Rattle.refute_rules.specs.Decided.{HasOtherRank}
use Rattle.refute_rules.specs.Cases.{IsConsistent, IsWhole, IsCaseFault, case_fault_numbers, vars_of}
use Rattle.case_search.specs.Rules.{Rules}
use Rattle.deck_cases.specs.Asked.{IsOfDeck}
use Rattle.chamber_place.specs.Faults.{fault_of}
use Rattle.chamber_place.specs.declared.faults.CaseFault.{CaseFault}

-- a deck, and the options that a case has decided
pub record Progress : Type 0 where
  pub deck : Deck
  pub case : List Choice

-- what the search of a deck goes by: a case takes a turn where it is consistent
abbrev pub case_rules : Deck → Rules CaseFault
case_rules d = record {
  options = options_of d;
  decisions = decisions (length d.ships);
  IsFault = λ case fault. IsCaseFault d case (fault_of fault);
  numbers_of = λ fault. case_fault_numbers (fault_of fault);
  IsGood = IsConsistent d;
  IsEnd = IsWhole d;
  counts_faulty = false;
}

-- as many edges as an option of the decision may have
abbrev pub most_edges : Decision → ℕ
most_edges (BerthOf i) = 4
most_edges (PairOf i j) = 1
most_edges (XOf i) = 0

-- these are options of the first decisions, about ships of the deck
abbrev pub AreChosen : Deck → List Decision → List Choice → Type 0
AreChosen d ds [] = Unit {0}
AreChosen d [] (p ∷ ps) = ⊥
AreChosen d (x ∷ ds) (p ∷ ps) = IsOfDeck d p × (length (choice_edges d p) ≤ most_edges x) × AreChosen d ds ps

abbrev pub no_paths : PathTree
no_paths = record { values = []; parents = [] }

-- the paths of the case with the first k options
abbrev pub paths_at : List PathTree → ℕ → PathTree
paths_at paths k = slice_index_or paths k no_paths

-- the case is consistent, and these are the longest paths of its edges
pub record IsSettled (d : Deck) (case : List Choice) (paths : PathTree) : Type 0 where
  pub longest : AreLongest (case_edges d case) (vars_of d) paths
  pub ranks : (i : ℕ) → HasOtherRank case i → ⊥

-- a fault of the last option, or no fault
abbrev pub IsState : Deck → List Choice → List PathTree → Option CaseFault → Type 0
IsState d picks paths None = length paths ≡ suc (length picks)
IsState d picks paths (Some fault) = (length paths ≡ length picks) × IsCaseFault d picks (fault_of fault)

-- The decisions in order, the options of the first of them, the edges of the case, and the paths of each of its beginnings but a faulty last one.
pub record IsOnItsWay (d : Deck) (decided : List Decision) (picks : List Choice) (edges : List Edge) (paths : List PathTree) (fault : Option CaseFault)
    : Type 0 where
  pub limits : IsDeck d
  pub in_order : decided ≡ decisions (length d.ships)
  pub chosen : AreChosen d (decisions (length d.ships)) picks
  pub edges_are : edges ≡ case_edges d picks
  pub settled : (k : ℕ) → k < length paths → IsSettled d (take k picks) (paths_at paths k)
  pub state : IsState d picks paths fault
