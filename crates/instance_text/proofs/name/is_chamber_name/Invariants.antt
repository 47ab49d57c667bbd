use Rattle.std.proofs.Common.{◌≡◌, drop, map}
use Rattle.std.specs.List.{list_any}
use Rattle.std.specs.Str.{bytes_eq}
use Rattle.instance_text.proofs.name.is_chamber_name.Given as goal

abbrev pub invariant-loop-chamber : goal.invariant-loop-chamber
invariant-loop-chamber l = list_any (bytes_eq l.word) (map (λ c. c.name) (drop l.chamber-index l.chambers)) ≡ list_any (bytes_eq l.word) (map (λ c. c.name) l.chambers)
