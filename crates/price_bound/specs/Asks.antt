-- What is asked of a node, said once, and of one of its chambers.
use Rattle.std.specs.Prelude.{ℕ, List}
use Rattle.lock_model.specs.declared.instance.Instance.{Instance}
use Rattle.lock_model.specs.declared.group.Group.{Group}
use Rattle.lock_rules.specs.Node.{line_at}
use Rattle.price_rules.specs.Prices.{PriceList, PlainCut}
use Rattle.price_terms.specs.declared.cut.ChamberCut.{ChamberCut}
use Rattle.price_terms.specs.Cuts.{plain_cuts}
use Rattle.price_groups.specs.Asks.{LineAsk, line_ask}

-- a node of an instance, its depth and its lines, cuts and prices
pub record NodeAsk : Type 0 where
  pub instance : Instance
  pub cuts : List PlainCut
  pub depth : ℕ
  pub lines : List (List Group)
  pub prices : PriceList

abbrev pub node_ask : Instance → List PlainCut → ℕ → List (List Group) → PriceList → NodeAsk
node_ask I cuts k lines prices = record { instance = I; cuts = cuts; depth = k; lines = lines; prices = prices }

-- what it asks of chamber c
abbrev pub chamber_ask : NodeAsk → ℕ → LineAsk
chamber_ask N c = line_ask N.instance c N.cuts N.depth N.prices (line_at N.lines c)

-- what is asked under cuts by chamber and ships
abbrev pub kept_ask : Instance → ℕ → ℕ → PriceList → List ChamberCut → List Group → LineAsk
kept_ask I c k prices cuts line = line_ask I c (plain_cuts I cuts) k prices line
