use Rattle.std.proofs.Common.{◌≡◌, drop}
use Rattle.serde_json.specs.View.{items_view}
use Rattle.cert_text.specs.Fields.{all_in, word_in}
use Rattle.cert_text.proofs.ListLemmas.{rest_in}
use Rattle.cert_text.proofs.why.marks_in.Given as goal

abbrev pub invariant-loop-value : goal.invariant-loop-value
invariant-loop-value l = all_in word_in (items_view l.list) ≡ rest_in word_in l.marks (drop l.value-index l.list)
