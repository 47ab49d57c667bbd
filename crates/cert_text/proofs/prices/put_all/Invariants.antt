use Rattle.std.proofs.Common.{◌≡◌, ◌<◌, ℕ, map, take, slice_index_or}
use Rattle.price_rules.specs.Prices.{PriceList}
use Rattle.serde_json.specs.View.{view}
use Rattle.cert_text.specs.Prices.{prices_data}
use Rattle.cert_text.proofs.PriceLemmas.{HasTriplesBack}
use Rattle.cert_text.proofs.prices.put_all.Given as goal

abbrev pub invariant-loop-own : goal.invariant-loop-own
invariant-loop-own l = record {
  values : map view l.list.items ≡ map prices_data (take l.own-index l.prices);
  back : (k : ℕ) (d : PriceList) → k < l.own-index → HasTriplesBack (slice_index_or l.prices k d);
}
