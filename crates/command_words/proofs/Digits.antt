-- A text of one to ten digits is read as its number.
use Rattle.std.proofs.Common.{◌≡◌, ◌∙◌, ◌<◌, ◌≤◌, ◌^◌, ℕ, true, false, [], ◌∷◌, Result, Ok, Err, length, arith, refl, sym, ap, subst}
use Rattle.std.specs.Prelude.{◌==◌, nat_le, nat_lt}
use Rattle.std.specs.List.{list_all}
use Rattle.std.specs.Char.{digit_value}
use Rattle.std.specs.Str.Parse.{AllDigits, ParsesUnsigned, digits_value, without_leading_plus}
use Rattle.std.proofs.lemmas.Bool.{leb-true, ltb-true, ne_eqb}
use Rattle.std.proofs.lemmas.Str.{digit_value_digit}
use Rattle.std.proofs.Math.Nat.{pow-le-pow_right}
use Rattle.std.proofs.lemmas.Int.Digits.{digits_value-lt}
use Rattle.command_words.specs.Names.{Text}
use Rattle.command_words.specs.Numbers.{is_number, is_digit}
use Rattle.command_words.proofs.Follows.{and_left, and_right}

one_digit : (c : ℕ) → is_digit c ≡ true → digit_value c < 10
one_digit c e =
    let low : 48 ≤ c = leb-true 48 c (and_left _ _ e) in
    let high : c ≤ 57 = leb-true c 57 (and_right (nat_le 48 c) _ e) in
    let value = digit_value_digit c (low, high) in
    omega arith

all_digits : (t : Text) → list_all is_digit t ≡ true → AllDigits 10 t
all_digits [] e = tt
all_digits (c ∷ cs) e = (one_digit c (and_left _ _ e), all_digits cs (and_right (is_digit c) _ e))

no_plus : (t : Text) → list_all is_digit t ≡ true → without_leading_plus t ≡ t
no_plus [] e = refl
no_plus (c ∷ cs) e =
    let low : 48 ≤ c = leb-true 48 c (and_left _ _ (and_left _ _ e)) in
    let no : (c == 43) ≡ false = ne_eqb c 43 (λ same. omega arith) in
    rw no refl

powers : (n : ℕ) → n ≤ 10 → 10 ^ n ≤ 10 ^ 10
powers n h = let positive : 0 < 10 = omega arith in pow-le-pow_right positive h

pub parsed : {E : Type 0} (t : Text) (r : Result ℕ E) → is_number t ≡ true → ParsesUnsigned 64 10 t r → r ≡ Ok (digits_value 10 t)
unfolding is_number
parsed t (Ok n) e p = ap Ok (p.1 ∙ ap (digits_value 10) (no_plus t (and_right (nat_le (length t) 10) _ (and_right (nat_lt 0 (length t)) _ e))))
parsed t (Err x) e p =
    let digits : list_all is_digit t ≡ true = and_right (nat_le (length t) 10) _ (and_right (nat_lt 0 (length t)) _ e) in
    let some : 0 < length t = ltb-true 0 (length t) (and_left _ _ e) in
    let short : length t ≤ 10 = leb-true (length t) 10 (and_left _ _ (and_right (nat_lt 0 (length t)) _ e)) in
    let below = digits_value-lt 10 t (all_digits t digits) in
    let power : 10 ^ length t ≤ 10 ^ 10 = powers (length t) short in
    let all = all_digits t digits in
    let same = no_plus t digits in
    absurd (p (subst (λ u. (0 < length u) × AllDigits 10 u) (sym same) (some, all), subst (λ u. digits_value 10 u < 2 ^ 64) (sym same) (omega arith)))

pub not_error : {E : Type 0} (t : Text) (r : Result ℕ E) (e : E) → r ≡ Err e → r ≡ Ok (digits_value 10 t) → ⊥
not_error t r e p q = cc
