-- Lists of prices as JSON values.
use Rattle.std.specs.Prelude.{ℕ, ◌≡◌, ◌&&◌, ◌==◌, false, List, [], ◌∷◌, length, All, Option, Some, codes, if◌then◌else◌}
use Rattle.lock_model.specs.Limits.{is_between}
use Rattle.price_rules.specs.Prices.{PriceList}
use Rattle.serde_json.specs.Data.{Data, Items}
use Rattle.serde_json.specs.Find.{as_array}
use Rattle.closing_rules.specs.ListedPrices.{ship_prices}
use Rattle.certificate_rules.specs.WellFormed.{AreFormedPrices}
use Rattle.cert_text.specs.declared.heading.Version.{Version}
use Rattle.cert_text.specs.Versions.{has_prices, has_triples, name_triples}
use Rattle.cert_text.specs.Steps.{◌>>=◌, ◌>>◌, when}
use Rattle.cert_text.specs.Fields.{number_below, list_data, numbers_data, object_data, all_in, list_in, value_at, has_members}
use Rattle.cert_text.specs.Triples.{triples_data, triples_in}

-- prices of ships and of triples by their keys
abbrev pub keyed_data : PriceList → Data
keyed_data prices = object_data ((codes "ships", numbers_data prices.ships) ∷ (codes "triples", triples_data prices.triples) ∷ [])

-- prices of ships alone are a list
abbrev pub prices_data : PriceList → Data
prices_data prices = if length prices.triples == 0 then numbers_data prices.ships else keyed_data prices

abbrev pub price_lists_data : List PriceList → Data
price_lists_data = list_data prices_data

-- a price, in hundredths of a minute
abbrev pub price_in : Data → Option ℕ
price_in = number_below 1000001

-- 1 to so many prices of ships
abbrev pub items_prices : ℕ → Items → Option PriceList
items_prices most items = do
  prices ← all_in price_in items
  when (is_between 1 most (length prices))
  Some (ship_prices prices)

abbrev pub ship_prices_in : ℕ → Data → Option PriceList
ship_prices_in most d = do
  items ← as_array d
  items_prices most items

abbrev pub keyed_prices : ℕ → Data → Option PriceList
keyed_prices most d = do
  prices ← value_at (codes "ships") (ship_prices_in most) d
  value_at (codes "triples") (triples_in prices) d

-- a list, or in a version that has triples an object of exactly the two keys
abbrev pub prices_in : ℕ → Version → Data → Option PriceList
prices_in most version d = if has_triples version && has_members 2 d then keyed_prices most d else ship_prices_in most d

abbrev pub price_lists_in : ℕ → Version → Data → Option (List PriceList)
price_lists_in most version = list_in (prices_in most version)

-- the prices at their key, in a version that has them
abbrev pub prices_under : ℕ → Version → Data → Option (List PriceList)
prices_under most version d = if has_prices version then value_at (codes "prices") (price_lists_in most version) d else Some []

-- the version has triples where some prices are of triples
abbrev pub SuitTriples : Version → List PriceList → Type 0
SuitTriples version prices = has_triples version ≡ false → name_triples prices ≡ false

-- where lists may be so long, what is written of these is read as them in a version that suits them
abbrev pub AreListsBack : List PriceList → Type 0
AreListsBack prices =
    (most : ℕ) (version : Version) → SuitTriples version prices → All (AreFormedPrices most) prices
    → price_lists_in most version (price_lists_data prices) ≡ Some prices
