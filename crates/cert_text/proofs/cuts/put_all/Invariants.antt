use Rattle.std.proofs.Common.{◌≡◌, ◌<◌, ℕ, map, take, slice_index_or}
use Rattle.closing_rules.specs.ProvedCuts.{CertCut}
use Rattle.serde_json.specs.View.{view}
use Rattle.cert_text.specs.Cuts.{cut_data, cut_in}
use Rattle.cert_text.proofs.FieldLemmas.{ReadsBack}
use Rattle.cert_text.proofs.cuts.put_all.Given as goal

abbrev pub invariant-loop-cut : goal.invariant-loop-cut
invariant-loop-cut l = record {
  values : map view l.list.items ≡ map cut_data (take l.cut-index l.cuts);
  back : (k : ℕ) (d : CertCut) → k < l.cut-index → ReadsBack cut_data cut_in (slice_index_or l.cuts k d);
}
