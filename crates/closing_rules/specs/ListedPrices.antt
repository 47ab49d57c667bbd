-- Lists of prices and of cuts, what a node reaches by the prices of a number, and when a cost is swept.
use Rattle.std.specs.Prelude.{ℕ, ◌≡◌, ◌≤◌, ◌<◌, ◌&&◌, Bool, nat_eq, List, [], length, All, slice_get, Some}
use Rattle.std.specs.Cmp.Lexicographic.{pointwise}
use Rattle.lock_model.specs.declared.limits.TheConstants.{SHIPS}
use Rattle.lock_model.specs.Fitting.{deck_of}
use Rattle.lock_model.specs.declared.instance.Instance.{Instance}
use Rattle.lock_model.specs.declared.group.Group.{Group}
use Rattle.price_rules.specs.Prices.{PlainCut, PriceList, Reaches}
use Rattle.price_rules.specs.declared.triple.Triple.{Triple}
use Rattle.price_rules.specs.Triples.{AreTriples}
use Rattle.sweep_rules.specs.Uncut.{IsSwept}

-- what the type of prices keeps: those of at most SHIPS ships, none above 1,000,000 hundredths of a minute, and triples in order
pub record ArePrices (prices : PriceList) : Type 0 where
  pub few : length prices.ships ≤ SHIPS
  pub small : All (λ u. u ≤ 1000000) prices.ships
  pub triples : AreTriples prices.triples

-- one price for each ship, and triples of ships of the instance, of which the third has the greatest number
pub record AreShapedPrices (I : Instance) (prices : PriceList) : Type 0 where
  pub count : length prices.ships ≡ length I.ships
  pub known : All (λ t. t.third < length I.ships) prices.triples

-- prices of ships alone
abbrev pub ship_prices : List ℕ → PriceList
ship_prices prices = record { ships = prices; triples = [] }

-- what stands for prices where there are none
abbrev pub no_prices : PriceList
no_prices = ship_prices []

-- the same prices of the same ships and triples
abbrev pub same_triple : Triple → Triple → Bool
same_triple t u = nat_eq t.first u.first && nat_eq t.second u.second && nat_eq t.third u.third && nat_eq t.price u.price

abbrev pub same_prices : PriceList → PriceList → Bool
same_prices some others = pointwise nat_eq some.ships others.ships && pointwise same_triple some.triples others.triples

-- the cut of these ships in chamber c: it hits what a cut with its refutation hits
abbrev pub cut_in : Instance → ℕ → List ℕ → PlainCut
cut_in I c ships = record { ships = ships; deck = deck_of I c ships }

-- the prices of this number are there, and the node of depth k reaches the cost by them and these cuts
pub record IsPricedBy (I : Instance) (cuts : List PlainCut) (prices : List PriceList) (number k : ℕ) (lines : List (List Group)) (cost : ℕ) : Type 0 where
  pub own : PriceList
  pub there : slice_get prices number ≡ Some own
  pub reached : Reaches I cuts k lines own cost

-- The node is the root, the prices of this number are there, and the cost is swept by these cuts. The prices only tell by which a
-- sweep goes well.
pub record IsSweptBy (I : Instance) (cuts : List PlainCut) (prices : List PriceList) (number k : ℕ) (cost : ℕ) : Type 0 where
  pub root : k ≡ 0
  pub own : PriceList
  pub there : slice_get prices number ≡ Some own
  pub swept : IsSwept I cuts cost
