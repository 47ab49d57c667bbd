use Rattle.std.proofs.Common.{◌≡◌, ◌≤◌, length, drop, All}
use Rattle.serde_json.specs.View.{items_view}
use Rattle.cert_text.specs.Fields.{all_in}
use Rattle.cert_text.specs.Prices.{price_in}
use Rattle.cert_text.proofs.ListLemmas.{rest_in}
use Rattle.cert_text.proofs.prices.read_prices.Given as goal

abbrev pub invariant-loop-value : goal.invariant-loop-value
invariant-loop-value l = record {
  whole : all_in price_in (items_view l.list) ≡ rest_in price_in l.prices.items (drop l.value-index l.list);
  small : All (λ p. p ≤ 1000000) l.prices.items;
  count : length l.prices.items ≡ l.value-index;
}
