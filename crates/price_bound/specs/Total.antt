-- The least worths of the chambers, added, and what a node reaches by them.
use Rattle.std.specs.Prelude.{ℕ, ◌≡◌, ◌<◌, ℤ, Some, None, List, length, slice_index_or, zero, suc, pos, ◌+ℤ◌, ◌≤ℤ◌}
use Rattle.std.specs.declared.option.Option.{Option}
use Rattle.lock_model.specs.Fleet.{chamber_at}
use Rattle.lock_model.specs.declared.instance.Instance.{Instance}
use Rattle.lock_model.specs.declared.group.Group.{Group}
use Rattle.lock_rules.specs.Node.{line_at}
use Rattle.price_rules.specs.Prices.{PriceList, missing_prices, triple_prices}
use Rattle.price_terms.specs.declared.loose_line.LooseLine.{LooseLine}
use Rattle.price_terms.specs.declared.loose_line.LooseLines.{LooseLines}
use Rattle.price_groups.specs.Asks.{IsLooseIn}
use Rattle.price_groups.specs.Worth.{worth_from}
use Rattle.price_table.specs.Lines.{IsLeastLine}
use Rattle.price_bound.specs.Asks.{NodeAsk, chamber_ask}

-- what the chosen lines of the first n chambers are worth
abbrev pub worths_of : Instance → ℕ → PriceList → (ℕ → List Group) → ℕ → ℤ
worths_of I k prices chosen zero = pos 0
worths_of I k prices chosen (suc n) =
    worths_of I k prices chosen n +ℤ worth_from I n k prices (chamber_at I n).stands (chamber_at I n).opens (chosen n)

-- the least worth of loose lines of the first n chambers together
pub record IsLeastSum (N : NodeAsk) (n : ℕ) (v : ℤ) : Type 0 where
  pub below : (chosen : ℕ → List Group) → ((c : ℕ) → c < n → IsLooseIn (chamber_ask N c) (line_at N.lines c) (chosen c))
      → v ≤ℤ worths_of N.instance N.depth N.prices chosen n
  pub chosen : ℕ → List Group
  pub loose : (c : ℕ) → c < n → IsLooseIn (chamber_ask N c) (line_at N.lines c) (chosen c)
  pub worth : worths_of N.instance N.depth N.prices chosen n ≡ v

-- some chamber has no loose line
pub record HasNoLooseLine (N : NodeAsk) : Type 0 where
  pub chamber : ℕ
  pub known : chamber < length N.instance.chambers
  pub none : (loose : List Group) → ¬ IsLooseIn (chamber_ask N chamber) (line_at N.lines chamber) loose

-- the least worth of loose lines of all chambers together, or that some chamber has none
abbrev pub IsAdded : NodeAsk → Option ℤ → Type 0
IsAdded N None = HasNoLooseLine N
IsAdded N (Some sum) = IsLeastSum N (length N.instance.chambers) sum

-- the least worth of a loose line for each chamber, and the prices of the missing ships, less those of the triples
pub record IsPriceSum (N : NodeAsk) (sum : ℤ) : Type 0 where
  pub least : ℤ
  pub is_least : IsLeastSum N (length N.instance.chambers) least
  pub value : (sum +ℤ pos (triple_prices N.prices)) ≡ (least +ℤ pos (missing_prices N.instance N.depth N.prices))

-- that sum, or that some chamber has no loose line
abbrev pub IsNodeSum : NodeAsk → Option ℤ → Type 0
IsNodeSum N None = HasNoLooseLine N
IsNodeSum N (Some sum) = IsPriceSum N sum

-- the least lines of the first n chambers
pub record AreLeastLines (N : NodeAsk) (n : ℕ) (found : List LooseLine) : Type 0 where
  pub count : length found ≡ n
  pub each : (c : ℕ) (d : LooseLine) → c < n → IsLeastLine (chamber_ask N c) (slice_index_or found c d)

-- a least line for each chamber, and what they are worth together with the prices of the missing ships
pub record AreLooseLines (N : NodeAsk) (found : LooseLines) : Type 0 where
  pub each_least : AreLeastLines N (length N.instance.chambers) found.lines.items
  pub sum : IsPriceSum N found.sum

-- these, or that some chamber has no loose line
abbrev pub AreLinesFound : NodeAsk → Option LooseLines → Type 0
AreLinesFound N None = HasNoLooseLine N
AreLinesFound N (Some found) = AreLooseLines N found
