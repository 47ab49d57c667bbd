-- What single words mean: names, numbers, ways and stands.
use Rattle.std.specs.Prelude.{ℕ, ◌&&◌, not, List, length, Option, None, Some, Result, Ok, Err, codes, if◌then◌else◌}
use Rattle.std.specs.List.{list_all, list_any}
use Rattle.std.specs.Option.{ok_or}
use Rattle.std.specs.Str.{bytes_eq}
use Rattle.lock_model.specs.Limits.{is_between, is_name_byte}
use Rattle.lock_model.specs.declared.way.Way.{Way}
use Rattle.lock_model.specs.declared.way.Way.TheVariants.{Up, Down}
use Rattle.lock_model.specs.declared.way.Stand.{Stand}
use Rattle.lock_model.specs.declared.way.Stand.TheVariants.{Low, High}
use Rattle.instance_text.specs.declared.bad.Kind.{Kind}
use Rattle.instance_text.specs.declared.bad.Kind.TheVariants.{Number, Range, Name, Twice, Word}
use Rattle.line_text.specs.Numbers.{number as number_within}
use Rattle.line_text.specs.Steps.{◌>>=◌, ◌>>◌, check}

-- a number from low to high
abbrev pub number : ℕ → ℕ → List ℕ → Result ℕ Kind
number low high word = number_within Number Range low high word

-- a name, of 1 to 12 allowed characters
unfoldable pub name : List ℕ → Result (List ℕ) Kind
name word = do
  check (is_between 1 12 (length word) && list_all is_name_byte word) Name
  Ok word

-- a name that none of these is
unfoldable pub new_name : List (List ℕ) → List ℕ → Result (List ℕ) Kind
new_name earlier word = do
  found ← name word
  check (not (list_any (bytes_eq word) earlier)) Twice
  Ok found

unfoldable pub way_of : List ℕ → Option Way
way_of word = if bytes_eq word (codes "up") then Some Up
    else (if bytes_eq word (codes "down") then Some Down else None)

abbrev pub way : List ℕ → Result Way Kind
way word = ok_or (way_of word) Word

unfoldable pub stand : List ℕ → Result Stand Kind
stand word = if bytes_eq word (codes "low") then Ok Low
    else (if bytes_eq word (codes "high") then Ok High else Err Word)
