use Rattle.std.proofs.Common.{◌≡◌, ◌++◌, take}
use Rattle.std.specs.List.{flat_map}
use Rattle.picture_page.specs.Lanes.{next_name}
use Rattle.picture_page.proofs.lanes.put_next_names.Given as goal

abbrev pub invariant-loop-ship : goal.invariant-loop-ship
invariant-loop-ship l = l.out.items ≡ l.initial.out.items ++ flat_map (next_name l.instance) (take l.ship-index l.ships)
