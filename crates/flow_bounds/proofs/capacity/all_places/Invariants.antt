use Rattle.std.proofs.Common.{◌≡◌, All, length}
use Rattle.std.specs.List.{flat_map}
use Rattle.lock_rules.specs.Arrival.{numbers_from}
use Rattle.lock_rules.specs.Throughput.{places_on}
use Rattle.flow_bounds.specs.Places.{all_minutes, IsEnough}
use Rattle.flow_bounds.proofs.capacity.all_places.Given as goal

abbrev pub invariant-loop-chamber : goal.invariant-loop-chamber
invariant-loop-chamber l = record {
  value : all_minutes l.all.items ≡ flat_map (places_on l.instance) (numbers_from 0 l.chamber);
  each : length l.all.items ≡ l.chamber;
  enough : All (IsEnough (length l.instance.ships)) l.all.items;
}
