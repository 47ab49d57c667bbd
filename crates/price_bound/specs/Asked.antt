-- What is asked by a priced node, and what is claimed of it by a cost.
use Rattle.std.specs.Prelude.{ℕ}
use Rattle.price_bound.specs.declared.priced_node.PricedNode.{PricedNode}
use Rattle.price_terms.specs.Claim.{Claim}
use Rattle.price_terms.specs.Cuts.{plain_cuts}
use Rattle.price_bound.specs.Asks.{NodeAsk, node_ask}

abbrev pub node_asked : PricedNode → NodeAsk
node_asked priced = node_ask priced.instance.now (plain_cuts priced.instance.now priced.cuts.now) priced.node.now.depth priced.node.now.lines priced.prices.now

abbrev pub claimed : PricedNode → ℕ → Claim
claimed priced cost = record { instance = priced.instance.now; node = priced.node.now; prices = priced.prices.now; cuts = priced.cuts.now; cost = cost }
