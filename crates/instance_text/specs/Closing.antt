-- The words of a close line, and a closure put among the others of its chamber.
use Rattle.std.specs.Prelude.{ℕ, ◌≡◌, ◌<◌, ◌==◌, ◌&&◌, not, Bool, true, false, List, length, nat_lt, position, insert, slice_index_or, slice_set, Result, Ok}
use Rattle.std.specs.Option.{ok_or}
use Rattle.std.specs.List.{list_any, position_or_len}
use Rattle.std.specs.Str.{bytes_eq}
use Rattle.lock_model.specs.declared.limits.TheConstants.{CLOSURES}
use Rattle.lock_model.specs.Closures.{IsClosure}
use Rattle.lock_model.specs.Fleet.{no_chamber}
use Rattle.lock_model.specs.declared.chamber.Chamber.{Chamber}
use Rattle.lock_model.specs.declared.closure.Closure.{Closure}
use Rattle.instance_text.specs.declared.bad.Kind.{Kind}
use Rattle.instance_text.specs.declared.bad.Kind.TheVariants.{Count, Range, Unknown, Overlap}
use Rattle.instance_text.specs.declared.format.Format.{Format}
use Rattle.instance_text.specs.declared.format.Format.TheVariants.{First, Second, Third}
use Rattle.line_text.specs.Steps.{◌>>=◌, ◌>>◌, check}
use Rattle.instance_text.specs.Words.{number, name}
use Rattle.line_text.specs.Lines.{word_at}

-- whether closures may stand in texts of this format
abbrev pub has_closures : Format → Bool
has_closures First = false
has_closures Second = true
has_closures Third = true

-- the number of the chamber of a name
unfoldable pub chamber_named : List Chamber → List ℕ → Result ℕ Kind
chamber_named chambers word = ok_or (position (λ c. bytes_eq word c.name) chambers) Unknown

-- some minute lies in both
abbrev pub share_a_minute : Closure → Closure → Bool
share_a_minute a b = nat_lt a.from b.to && nat_lt b.from a.to

-- not empty, and without a minute of another closure
abbrev pub is_free : Closure → List Closure → Bool
is_free closure others = nat_lt closure.from closure.to && not (list_any (share_a_minute closure) others)

abbrev pub closures_of : List Chamber → ℕ → List Closure
closures_of chambers place = (slice_index_or chambers place no_chamber).closures

-- close <chamber> <from> <to>, as the chamber's number and the closure
unfoldable pub read_closing : List Chamber → List (List ℕ) → Result (ℕ × Closure) Kind
read_closing chambers words = do
  check (length words == 4) Count
  word ← name (word_at words 1)
  place ← chamber_named chambers word
  check (nat_lt (length (closures_of chambers place)) CLOSURES) Range
  from ← number 0 1000000 (word_at words 2)
  to ← number 0 1000000 (word_at words 3)
  check (is_free (record { from = from; to = to }) (closures_of chambers place)) Overlap
  Ok (place, record { from = from; to = to })

-- the part `<chamber>` of such a line: the number of a chamber that has room for one more closure
unfoldable pub chamber_to_close : List Chamber → List ℕ → Result ℕ Kind
chamber_to_close chambers word = do
  word ← name word
  place ← chamber_named chambers word
  check (nat_lt (length (closures_of chambers place)) CLOSURES) Range
  Ok place

-- the part `<from> <to>`: a closure that is free of the others of its chamber
unfoldable pub read_minutes : List Closure → List (List ℕ) → Result Closure Kind
read_minutes others words = do
  from ← number 0 1000000 (word_at words 2)
  to ← number 0 1000000 (word_at words 3)
  check (is_free (record { from = from; to = to }) others) Overlap
  Ok (record { from = from; to = to })

-- what such a line shows of a closure
pub record CanClose (chambers : List Chamber) (place : ℕ) (closure : Closure) : Type 0 where
  pub known : place < length chambers
  pub room : length (closures_of chambers place) < CLOSURES
  pub good : IsClosure closure
  pub apart : list_any (share_a_minute closure) (closures_of chambers place) ≡ false

-- a closure put before the first that begins later
abbrev pub put_closure : Closure → List Closure → List Closure
put_closure closure others = insert others (position_or_len (λ other. nat_lt closure.from other.from) others) closure

-- the chambers with one more closure of chamber `place`
unfoldable pub with_closure : List Chamber → ℕ → Closure → List Chamber
with_closure chambers place closure =
    let chamber = slice_index_or chambers place no_chamber in
    slice_set chambers place (record chamber { closures = put_closure closure chamber.closures })
