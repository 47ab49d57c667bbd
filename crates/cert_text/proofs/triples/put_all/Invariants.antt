use Rattle.std.proofs.Common.{◌≡◌, ◌<◌, ℕ, map, take, slice_index_or}
use Rattle.price_rules.specs.declared.triple.Triple.{Triple}
use Rattle.serde_json.specs.View.{view}
use Rattle.cert_text.specs.Triples.{triple_data, triple_in}
use Rattle.cert_text.proofs.FieldLemmas.{ReadsBack}
use Rattle.cert_text.proofs.triples.put_all.Given as goal

abbrev pub invariant-loop-triple : goal.invariant-loop-triple
invariant-loop-triple l = record {
  values : map view l.list.items ≡ map triple_data (take l.triple-index l.triples);
  back : (k : ℕ) (d : Triple) → k < l.triple-index → ReadsBack triple_data triple_in (slice_index_or l.triples k d);
}
