-- What is claimed of a node by prices and cuts, and of a cost by cuts alone, and when it is shown.
use Rattle.std.specs.Prelude.{ℕ, List}
use Rattle.lock_model.specs.declared.instance.Instance.{Instance}
use Rattle.lock_rules.specs.Node.{Node}
use Rattle.price_rules.specs.Prices.{PriceList, Reaches}
use Rattle.sweep_rules.specs.Uncut.{IsSwept}
use Rattle.price_terms.specs.declared.cut.ChamberCut.{ChamberCut}
use Rattle.price_terms.specs.Cuts.{plain_cuts}

-- a node of an instance, prices, cuts and a cost
pub record Claim : Type 0 where
  pub instance : Instance
  pub node : Node
  pub prices : PriceList
  pub cuts : List ChamberCut
  pub cost : ℕ

-- the node reaches the cost by these prices and cuts
abbrev pub IsReached : Claim → Type 0
IsReached claim = Reaches claim.instance (plain_cuts claim.instance claim.cuts) claim.node.depth claim.node.lines claim.prices claim.cost

-- an instance, cuts and a cost
pub record SweptClaim : Type 0 where
  pub instance : Instance
  pub cuts : List ChamberCut
  pub cost : ℕ

-- no uncut plan costs less
abbrev pub IsSweptClaim : SweptClaim → Type 0
IsSweptClaim claim = IsSwept claim.instance (plain_cuts claim.instance claim.cuts) claim.cost
