-- The line of a closure, read in parts.
use Rattle.std.proofs.Common.{◌≡◌, ℕ, ◌==◌, List, length, nat_lt, Result, Ok, Err, refl}
use Rattle.lock_model.specs.declared.limits.TheConstants.{CLOSURES}
use Rattle.lock_model.specs.declared.chamber.Chamber.{Chamber}
use Rattle.lock_model.specs.declared.closure.Closure.{Closure}
use Rattle.instance_text.specs.declared.bad.Kind.{Kind}
use Rattle.instance_text.specs.declared.bad.Kind.TheVariants.{Count, Range, Overlap}
use Rattle.line_text.specs.Lines.{word_at}
use Rattle.line_text.specs.Steps.{◌>>=◌, ◌>>◌, check}
use Rattle.instance_text.specs.Words.{number, name}
use Rattle.instance_text.specs.Closing.{closures_of, chamber_named, is_free, chamber_to_close, read_minutes, read_closing}

abbrev pub closing_by_parts : List Chamber → List (List ℕ) → Result (ℕ × Closure) Kind
closing_by_parts chambers words = do
  check (length words == 4) Count
  place ← chamber_to_close chambers (word_at words 1)
  closure ← read_minutes (closures_of chambers place) words
  Ok (place, closure)

last : {P X Y E : Type 0} (pair : P → X → Y) (free : Result (Unit {0}) E) (place : P) (x : X) → ((free >> Ok x) >>= λ y. Ok (pair place y)) ≡ (free >> Ok (pair place x))
last pair (Ok x0) place x = refl
last pair (Err e) place x = refl

with_room : {P M N X Y E : Type 0} (pair : P → X → Y) (room : Result (Unit {0}) E) (place : P) (m : Result M E) (n : Result N E) (free : P → M → N → Result (Unit {0}) E) (whole : M → N → X) → ((room >> Ok place) >>= λ p. (m >>= λ mx. n >>= λ nx. free p mx nx >> Ok (whole mx nx)) >>= λ x. Ok (pair p x)) ≡ (room >> (m >>= λ mx. n >>= λ nx. free place mx nx >> Ok (pair place (whole mx nx))))
with_room pair (Err e) place m n free whole = refl
with_room pair (Ok x0) place (Err e) n free whole = refl
with_room pair (Ok x0) place (Ok x1) (Err e) free whole = refl
with_room pair (Ok x0) place (Ok x1) (Ok x2) free whole = last pair (free place x1 x2) place (whole x1 x2)

at_place : {P M N X Y E : Type 0} (pair : P → X → Y) (place : Result P E) (room : P → Result (Unit {0}) E) (m : Result M E) (n : Result N E) (free : P → M → N → Result (Unit {0}) E) (whole : M → N → X) → ((place >>= λ p. room p >> Ok p) >>= λ p. (m >>= λ mx. n >>= λ nx. free p mx nx >> Ok (whole mx nx)) >>= λ x. Ok (pair p x)) ≡ (place >>= λ p. room p >> (m >>= λ mx. n >>= λ nx. free p mx nx >> Ok (pair p (whole mx nx))))
at_place pair (Err e) room m n free whole = refl
at_place pair (Ok p) room m n free whole = with_room pair (room p) p m n free whole

-- a test, two steps and a test that make one value, and two steps and a test that make another
in_parts : {A W P M N X Y E : Type 0} (pair : P → X → Y) (a : Result A E) (word : Result W E) (place : W → Result P E) (room : P → Result (Unit {0}) E) (m : Result M E) (n : Result N E) (free : P → M → N → Result (Unit {0}) E) (whole : M → N → X) → (a >> ((word >>= λ w. place w >>= λ p. room p >> Ok p) >>= λ p. (m >>= λ mx. n >>= λ nx. free p mx nx >> Ok (whole mx nx)) >>= λ x. Ok (pair p x))) ≡ (a >> (word >>= λ w. place w >>= λ p. room p >> (m >>= λ mx. n >>= λ nx. free p mx nx >> Ok (pair p (whole mx nx)))))
in_parts pair (Err e) word place room m n free whole = refl
in_parts pair (Ok x0) (Err e) place room m n free whole = refl
in_parts pair (Ok x0) (Ok w) place room m n free whole = at_place pair (place w) room m n free whole

pub parts_read : (chambers : List Chamber) (words : List (List ℕ)) → closing_by_parts chambers words ≡ read_closing chambers words
unfolding chamber_to_close read_minutes read_closing
parts_read chambers words = in_parts
    (λ place closure. (place, closure))
    (check (length words == 4) Count)
    (name (word_at words 1))
    (chamber_named chambers)
    (λ place. check (nat_lt (length (closures_of chambers place)) CLOSURES) Range)
    (number 0 1000000 (word_at words 2))
    (number 0 1000000 (word_at words 3))
    (λ place from to. check (is_free (record { from = from; to = to }) (closures_of chambers place)) Overlap)
    (λ from to. record { from = from; to = to })
