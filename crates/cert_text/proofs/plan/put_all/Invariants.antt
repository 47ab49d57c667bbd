use Rattle.std.proofs.Common.{◌≡◌, ◌<◌, ℕ, map, take, slice_index_or}
use Rattle.lock_model.specs.declared.plan.Lockage.{Lockage}
use Rattle.serde_json.specs.View.{view}
use Rattle.cert_text.specs.Plans.{lockage_data, lockage_in}
use Rattle.cert_text.proofs.FieldLemmas.{ReadsBack}
use Rattle.cert_text.proofs.plan.put_all.Given as goal

abbrev pub invariant-loop-lockage : goal.invariant-loop-lockage
invariant-loop-lockage l = record {
  values : map view l.list.items ≡ map lockage_data (take l.lockage-index l.lockages);
  back : (k : ℕ) (d : Lockage) → k < l.lockage-index → ReadsBack lockage_data lockage_in (slice_index_or l.lockages k d);
}
