use Rattle.std.proofs.Common.{◌≡◌, length, drop}
use Rattle.serde_json.specs.View.{items_view}
use Rattle.cert_text.specs.Fields.{all_in}
use Rattle.cert_text.specs.Plans.{lockage_in}
use Rattle.cert_text.proofs.ListLemmas.{rest_in}
use Rattle.cert_text.proofs.plan.all_in.Given as goal

abbrev pub invariant-loop-value : goal.invariant-loop-value
invariant-loop-value l = record {
  whole : all_in lockage_in (items_view l.list) ≡ rest_in lockage_in l.lockages (drop l.value-index l.list);
  count : length l.lockages ≡ l.value-index;
}
