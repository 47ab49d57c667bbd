use Rattle.std.proofs.Common.{◌≡◌, drop}
use Rattle.serde_json.specs.View.{items_view}
use Rattle.cert_text.specs.Fields.{all_in}
use Rattle.cert_text.specs.Prices.{prices_in}
use Rattle.cert_text.proofs.ListLemmas.{rest_in}
use Rattle.cert_text.proofs.prices.all_in.Given as goal

abbrev pub invariant-loop-value : goal.invariant-loop-value
invariant-loop-value l = all_in (prices_in l.most l.version) (items_view l.list) ≡ rest_in (prices_in l.most l.version) l.found (drop l.value-index l.list)
