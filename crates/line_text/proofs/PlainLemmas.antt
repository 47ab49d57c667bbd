-- Words that are plain: names, numbers and fixed words.
use Rattle.std.proofs.Common.{◌≡◌, ℕ, ◌+◌, ◌%◌, ◌<◌, ◌≤◌, ◌^◌, Bool, true, false, ◌||◌, List, [], ◌∷◌, length, All, decimal, refl, ⊎_elim, arith}
use Rattle.std.specs.List.{list_all}
use Rattle.std.proofs.lemmas.Bool.{cases_lt}
use Rattle.std.proofs.lemmas.Bool.Decides.{nat_tests}
use Rattle.std.proofs.lemmas.Fmt.{decimal_nonempty, decimal_by_steps}
use Rattle.std.proofs.lemmas.List.Elements.{All-nil, All-cons, All-push, All-weaker}
use Rattle.std.proofs.lemmas.List.Sums.{AllPass-from_list_all}
use Rattle.lock_model.specs.Limits.{Within, IsName, is_between, is_name_byte}
use Rattle.line_text.proofs.LayoutLemmas.{IsPlain}

none_of : (x y z w v : Bool) → x ≡ false → y ≡ false → z ≡ false → w ≡ false → v ≡ false → (x || y || z || w || v) ≡ false
none_of x y z w v p q r s t = rw (p, q, r, s, t) refl

name_byte_range : (b : ℕ) → is_name_byte b ≡ true → Within 42 122 b
name_byte_range b allowed = (
  ⊎_elim (λ (low : b < 42). absurd (contradicts (none_of _ _ _ _ _ (below 65 90 (omega arith)) (below 97 122 (omega arith)) (below 48 57 (omega arith)) (grind (arith, nat_tests)) (grind (arith, nat_tests))))) (λ (h : 42 ≤ b). h) (cases_lt b 42),
  ⊎_elim (λ (high : 122 < b). absurd (contradicts (none_of _ _ _ _ _ (above 65 90 (omega arith)) (above 97 122 (omega arith)) (above 48 57 (omega arith)) (grind (arith, nat_tests)) (grind (arith, nat_tests))))) (λ (h : b ≤ 122). h) (cases_lt 122 b),
)
  where
    contradicts : is_name_byte b ≡ false → ⊥
    contradicts not = cc

    below : (low high : ℕ) → b < low → is_between low high b ≡ false
    below low high under = grind (arith, nat_tests)

    above : (low high : ℕ) → high < b → is_between low high b ≡ false
    above low high over = grind (arith, nat_tests)

pub name_plain : (name : List ℕ) → IsName name → IsPlain name
name_plain name good = record { filled = let c = good.count in omega arith; allowed = All-weaker (λ b. is_name_byte b ≡ true) (Within 42 122) name_byte_range name good.allowed }

pub decimal_plain : (n : ℕ) → n < 2 ^ 64 → IsPlain (decimal n)
decimal_plain n small = record { filled = decimal_nonempty n small; allowed = digits }
  where
    digits : All (Within 42 122) (decimal n)
    digits = decimal_by_steps (λ m ds. All (Within 42 122) ds)
        (λ m low. All-cons (Within 42 122) (48 + m) [] (omega arith, omega arith) (All-nil (Within 42 122)))
        (λ m ds high all. All-push (Within 42 122) ds (48 + m % 10) all (omega arith, omega arith))
        n small

pub literal_plain : (word : List ℕ) → 0 < length word → list_all (is_between 42 122) word ≡ true → IsPlain word
literal_plain word some allowed = record { filled = some; allowed = All-weaker (λ b. is_between 42 122 b ≡ true) (Within 42 122) between word (AllPass-from_list_all (is_between 42 122) word allowed) }
  where
    between : (b : ℕ) → is_between 42 122 b ≡ true → Within 42 122 b
    between b h = (grind (arith, nat_tests), grind (arith, nat_tests))
