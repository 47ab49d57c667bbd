use Rattle.std.proofs.Common.{◌≡◌, drop, map}
use Rattle.std.specs.List.{list_any}
use Rattle.std.specs.Str.{bytes_eq}
use Rattle.instance_text.proofs.name.is_ship_name.Given as goal

abbrev pub invariant-loop-ship : goal.invariant-loop-ship
invariant-loop-ship l = list_any (bytes_eq l.word) (map (λ c. c.name) (drop l.ship-index l.ships)) ≡ list_any (bytes_eq l.word) (map (λ c. c.name) l.ships)
