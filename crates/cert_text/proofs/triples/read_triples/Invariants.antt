use Rattle.std.proofs.Common.{◌≡◌, length, drop}
use Rattle.serde_json.specs.View.{items_view}
use Rattle.cert_text.specs.Fields.{all_in}
use Rattle.cert_text.specs.Triples.{triple_in}
use Rattle.cert_text.proofs.ListLemmas.{rest_in}
use Rattle.cert_text.proofs.triples.read_triples.Given as goal

abbrev pub invariant-loop-value : goal.invariant-loop-value
invariant-loop-value l = record {
  whole : all_in triple_in (items_view l.list) ≡ rest_in triple_in l.triples.items (drop l.value-index l.list);
  count : length l.triples.items ≡ l.value-index;
}
