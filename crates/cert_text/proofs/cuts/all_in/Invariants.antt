use Rattle.std.proofs.Common.{◌≡◌, drop}
use Rattle.serde_json.specs.View.{items_view}
use Rattle.cert_text.specs.Fields.{all_in}
use Rattle.cert_text.specs.Cuts.{cut_in}
use Rattle.cert_text.proofs.ListLemmas.{rest_in}
use Rattle.cert_text.proofs.cuts.all_in.Given as goal

abbrev pub invariant-loop-value : goal.invariant-loop-value
invariant-loop-value l = all_in cut_in (items_view l.list) ≡ rest_in cut_in l.cuts (drop l.value-index l.list)
