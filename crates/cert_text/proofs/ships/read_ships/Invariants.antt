use Rattle.std.proofs.Common.{◌≡◌, ◌<◌, length, drop, All}
use Rattle.serde_json.specs.View.{items_view}
use Rattle.cert_text.specs.Fields.{all_in, byte_in}
use Rattle.cert_text.proofs.ListLemmas.{rest_in}
use Rattle.cert_text.proofs.ShipLemmas.{Rises}
use Rattle.cert_text.proofs.ships.read_ships.Given as goal

abbrev pub invariant-loop-value : goal.invariant-loop-value
invariant-loop-value l = record {
  whole : all_in byte_in (items_view l.list) ≡ rest_in byte_in l.ships (drop l.value-index l.list);
  rises : Rises l.ships l.low;
  below : All (λ s. s < l.low) l.ships;
  count : length l.ships ≡ l.value-index;
}
