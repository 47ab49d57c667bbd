-- What single words of a plan text mean: numbers, names, ways, ranks and hosts.
use Rattle.std.specs.Prelude.{ℕ, List, Result, Ok, Err, position, codes, if◌then◌else◌}
use Rattle.std.specs.Option.{ok_or}
use Rattle.std.specs.Str.{bytes_eq}
use Rattle.lock_model.specs.declared.chamber.Chamber.{Chamber}
use Rattle.lock_model.specs.declared.ship.Ship.{Ship}
use Rattle.lock_model.specs.declared.placement.Rank.{Rank}
use Rattle.lock_model.specs.declared.placement.Rank.TheVariants.{Left, Right}
use Rattle.lock_model.specs.declared.way.Way.{Way}
use Rattle.line_text.specs.Numbers.{number as number_within}
use Rattle.instance_text.specs.Words.{way_of}
use Rattle.plan_text.specs.declared.kinds.PlanKind.{PlanKind}
use Rattle.plan_text.specs.declared.kinds.PlanKind.TheVariants.{Word, Number, Range, Unknown}
use Rattle.plan_text.specs.declared.berth.Host.{Host}
use Rattle.plan_text.specs.declared.berth.Host.TheVariants.{Quay as AtQuay, Ship as AtShip}

-- a number up to high
abbrev pub number : ℕ → List ℕ → Result ℕ PlanKind
number high word = number_within Number Range 0 high word

abbrev pub way : List ℕ → Result Way PlanKind
way word = ok_or (way_of word) Word

unfoldable pub rank : List ℕ → Result Rank PlanKind
rank word = if bytes_eq word (codes "left") then Ok Left
    else (if bytes_eq word (codes "right") then Ok Right else Err Word)

-- the number of the chamber of a name
unfoldable pub chamber_named : List Chamber → List ℕ → Result ℕ PlanKind
chamber_named chambers word = ok_or (position (λ c. bytes_eq word c.name) chambers) Unknown

-- the number of the ship of a name
unfoldable pub ship_named : List Ship → List ℕ → Result ℕ PlanKind
ship_named ships word = ok_or (position (λ s. bytes_eq word s.name) ships) Unknown

abbrev pub moored_to : Result ℕ PlanKind → Result Host PlanKind
moored_to (Ok s) = Ok (AtShip s)
moored_to (Err kind) = Err kind

-- `*` is the quay, and another word the ship of that name
unfoldable pub host : List Ship → List ℕ → Result Host PlanKind
host ships word = if bytes_eq word (codes "*") then Ok AtQuay else moored_to (ship_named ships word)
