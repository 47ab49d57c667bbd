use Rattle.std.proofs.Common.{◌≡◌, take}
use Rattle.flow_bounds.specs.Load.{IsLoad, IsLoadOf}
use Rattle.flow_bounds.proofs.load.load_of.Given as goal

abbrev pub invariant-loop-ship : goal.invariant-loop-ship
invariant-loop-ship l = record {
  is : IsLoadOf l.instance (record { way = l.group.way; ships = take l.ship-index l.ship-items }) l.load;
  count : l.load.count ≡ l.ship-index;
  kept : IsLoad l.load;
}
