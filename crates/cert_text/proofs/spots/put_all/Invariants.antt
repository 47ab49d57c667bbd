use Rattle.std.proofs.Common.{◌≡◌, ◌<◌, ℕ, map, take, slice_index_or}
use Rattle.lock_model.specs.declared.placement.Spot.{Spot}
use Rattle.serde_json.specs.View.{view}
use Rattle.cert_text.specs.Plans.{spot_data, spot_in}
use Rattle.cert_text.proofs.FieldLemmas.{ReadsBack}
use Rattle.cert_text.proofs.spots.put_all.Given as goal

abbrev pub invariant-loop-spot : goal.invariant-loop-spot
invariant-loop-spot l = record {
  values : map view l.list.items ≡ map spot_data (take l.spot-index l.spots);
  back : (k : ℕ) (d : Spot) → k < l.spot-index → ReadsBack spot_data spot_in (slice_index_or l.spots k d);
}
