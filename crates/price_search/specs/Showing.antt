-- What is shown of a node.
use Rattle.std.specs.Prelude.{ℕ, ◌≡◌, List}
use Rattle.lock_model.specs.declared.instance.Instance.{Instance}
use Rattle.lock_rules.specs.Node.{Node}
use Rattle.price_rules.specs.Prices.{PriceList}
use Rattle.price_terms.specs.Claim.{Claim}
use Rattle.price_terms.specs.declared.cut.ChamberCut.{ChamberCut}

-- it is shown that this node reaches this cost by these prices and cuts
abbrev pub IsShownOf : Instance → Node → PriceList → List ChamberCut → ℕ → Claim → Type 0
IsShownOf instance node prices cuts cost shown =
    (shown.instance ≡ instance) × (shown.node ≡ node) × (shown.prices ≡ prices)
    × (shown.cuts ≡ cuts) × (shown.cost ≡ cost)
