-- What is worked out beside a book: a cost that a node reaches by prices and cuts, and a cost that cuts have swept.
use Rattle.std.specs.Prelude.{ℕ, Bool, true, false, ◌&&◌, List, [], ◌∷◌, map, nat_eq}
use Rattle.std.specs.Cmp.Lexicographic.{pointwise}
use Rattle.lock_model.specs.declared.instance.Instance.{Instance}
use Rattle.price_rules.specs.Prices.{PriceList, PlainCut, Reaches}
use Rattle.sweep_rules.specs.Uncut.{IsSwept}
use Rattle.refute_rules.specs.Cuts.{Cut}
use Rattle.closing_rules.specs.ListedPrices.{cut_in}
use Rattle.lock_rules.specs.Node.{Node}

-- a cut without its refutation: what it hits depends on its chamber and ships alone
pub record ChamberCut : Type 0 where
  pub chamber : ℕ
  pub ships : List ℕ

-- a node of an instance, prices, cuts and a cost
pub record Shown : Type 0 where
  pub instance : Instance
  pub node : Node
  pub prices : PriceList
  pub cuts : List ChamberCut
  pub cost : ℕ

abbrev pub shown_cuts : Instance → List ChamberCut → List PlainCut
shown_cuts I cuts = map (λ (c : ChamberCut). cut_in I c.chamber c.ships) cuts

-- what the type of a shown value keeps: the node reaches the cost by these prices and cuts
abbrev pub IsShown : Shown → Type 0
IsShown s = Reaches s.instance (shown_cuts s.instance s.cuts) s.node.depth s.node.lines s.prices s.cost

-- an instance, cuts and a cost
pub record Swept : Type 0 where
  pub instance : Instance
  pub cuts : List ChamberCut
  pub cost : ℕ

-- what the type of a swept value keeps: no uncut plan costs less
abbrev pub IsSweptCost : Swept → Type 0
IsSweptCost s = IsSwept s.instance (shown_cuts s.instance s.cuts) s.cost

-- a cut of a book, without its refutation
abbrev pub chamber_cut : Cut → ChamberCut
chamber_cut c = record { chamber = c.chamber; ships = c.ships }

-- the cuts are the first ones of a book
abbrev pub are_first_cuts : List ChamberCut → List Cut → Bool
are_first_cuts [] cuts = true
are_first_cuts (c ∷ cs) [] = false
are_first_cuts (c ∷ cs) (d ∷ ds) = nat_eq c.chamber d.chamber && pointwise nat_eq c.ships d.ships && are_first_cuts cs ds
