-- What is asked of a chamber's line and of its groups, said once.
use Rattle.std.specs.Prelude.{ℕ, ℤ, List}
use Rattle.lock_model.specs.declared.instance.Instance.{Instance}
use Rattle.lock_model.specs.declared.group.Group.{Group}
use Rattle.lock_model.specs.declared.way.Stand.{Stand}
use Rattle.price_rules.specs.Prices.{PlainCut, PriceList, IsUncut, IsLoose}
use Rattle.price_groups.specs.Worth.{end_after, worth_of, worth_from}

-- a chamber of an instance and its line at a node of a depth, cuts and prices
pub record LineAsk : Type 0 where
  pub instance : Instance
  pub chamber : ℕ
  pub cuts : List PlainCut
  pub depth : ℕ
  pub prices : PriceList
  pub line : List Group

abbrev pub line_ask : Instance → ℕ → List PlainCut → ℕ → PriceList → List Group → LineAsk
line_ask I c cuts k prices line = record { instance = I; chamber = c; cuts = cuts; depth = k; prices = prices; line = line }

-- a chamber of an instance at nodes of a depth, prices that no price is above, and the ship sets that are forbidden
pub record GroupAsk : Type 0 where
  pub instance : Instance
  pub chamber : ℕ
  pub depth : ℕ
  pub ceilings : PriceList
  pub sets : List (List ℕ)

abbrev pub group_ask : Instance → ℕ → ℕ → PriceList → List (List ℕ) → GroupAsk
group_ask I c k ceilings sets = record { instance = I; chamber = c; depth = k; ceilings = ceilings; sets = sets }

-- what is uncut and loose there
abbrev pub IsUncutIn : LineAsk → Group → Type 0
IsUncutIn L = IsUncut L.instance L.chamber L.cuts

abbrev pub IsLooseIn : LineAsk → List Group → List Group → Type 0
IsLooseIn L = IsLoose L.instance L.chamber L.cuts L.depth

-- when a group ends that comes next there, and what it and a line are worth
abbrev pub group_end : LineAsk → Stand → ℕ → Group → ℕ
group_end L = end_after L.instance L.chamber

abbrev pub group_worth : LineAsk → Stand → ℕ → Group → ℤ
group_worth L = worth_of L.instance L.chamber L.depth L.prices

abbrev pub line_worth : LineAsk → Stand → ℕ → List Group → ℤ
line_worth L = worth_from L.instance L.chamber L.depth L.prices
