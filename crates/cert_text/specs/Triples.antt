-- Triples of ships as JSON values.
use Rattle.std.specs.Prelude.{◌&&◌, Bool, List, [], ◌∷◌, length, map, nat_lt, Option, None, Some}
use Rattle.std.specs.List.{list_all}
use Rattle.lock_model.specs.Limits.{is_between}
use Rattle.price_rules.specs.declared.triple.TheConstants.{TRIPLES}
use Rattle.price_rules.specs.declared.triple.Triple.{Triple}
use Rattle.price_rules.specs.Triples.{triple_key}
use Rattle.price_rules.specs.Prices.{PriceList}
use Rattle.serde_json.specs.Data.{Data, Items, no_items, item}
use Rattle.serde_json.specs.Find.{as_array}
use Rattle.cert_text.specs.Steps.{◌>>=◌, ◌>>◌, when}
use Rattle.cert_text.specs.Fields.{list_data, numbers_data, byte_in, word_in, all_in}
use Rattle.cert_text.specs.Ships.{rises_from}

-- the three ships and the price
abbrev pub triple_data : Triple → Data
triple_data t = numbers_data (t.first ∷ t.second ∷ t.third ∷ t.price ∷ [])

abbrev pub triples_data : List Triple → Data
triples_data = list_data triple_data

-- these four, and nothing after them
abbrev pub triple_items : Items → Option Triple
triple_items (item a (item b (item c (item d no_items)))) = do
  first ← byte_in a
  second ← byte_in b
  third ← byte_in c
  price ← word_in d
  Some (record { first = first; second = second; third = third; price = price })
triple_items _ = None

abbrev pub triple_in : Data → Option Triple
triple_in d = do
  items ← as_array d
  triple_items items

-- the ships rise, and the price is from 1 to 1,000,000
abbrev pub is_fair_triple : Triple → Bool
is_fair_triple t = (nat_lt t.first t.second && nat_lt t.second t.third) && is_between 1 1000000 t.price

-- each stands before the next by its ships
abbrev pub are_in_order : List Triple → Bool
are_in_order triples = rises_from 0 (map triple_key triples)

-- 1 to 255 triples in order
abbrev pub are_triples : List Triple → Bool
are_triples triples = is_between 1 TRIPLES (length triples) && (list_all is_fair_triple triples && are_in_order triples)

-- the same prices of ships, and the triples of these items
abbrev pub items_triples : PriceList → Items → Option PriceList
items_triples prices items = do
  triples ← all_in triple_in items
  when (are_triples triples)
  Some (record { ships = prices.ships; triples = triples })

abbrev pub triples_in : PriceList → Data → Option PriceList
triples_in prices d = do
  items ← as_array d
  items_triples prices items
