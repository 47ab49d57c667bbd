-- Numbers that were printed read back.
use Rattle.std.proofs.Common.{◌≡◌, ℕ, ◌+◌, ◌-◌, ◌*◌, ◌%◌, ◌<◌, ◌≤◌, ◌^◌, Bool, true, false, ◌&&◌, List, [], ◌∷◌, ◌++◌, fold, Ok, decimal, ap, refl, arith}
use Rattle.std.specs.List.{list_all}
use Rattle.std.proofs.lemmas.Bool.Decides.{nat_tests}
use Rattle.std.proofs.lemmas.Fmt.{decimal_by_steps}
use Rattle.lock_model.specs.Limits.{is_between}
use Rattle.line_text.specs.Numbers.{is_digit, value, number}

digits_push : (ds : List ℕ) (d : ℕ) → list_all is_digit ds ≡ true → is_digit d ≡ true → list_all is_digit (ds ++ d ∷ []) ≡ true
digits_push [] d all one = ap (λ t. t && true) one
digits_push (x ∷ xs) d all one = by_test (is_digit x) (digits_push xs d) all
  where
    by_test : (b : Bool) → (list_all is_digit xs ≡ true → is_digit d ≡ true → list_all is_digit (xs ++ d ∷ []) ≡ true) → (b && list_all is_digit xs) ≡ true → (b && list_all is_digit (xs ++ d ∷ [])) ≡ true
    by_test true rest both = rest both one
    by_test false rest both = cc

value_push : (n : ℕ) (ds : List ℕ) (d : ℕ) → fold (λ m digit. 10 * m + (digit - 48)) n (ds ++ d ∷ []) ≡ 10 * fold (λ m digit. 10 * m + (digit - 48)) n ds + (d - 48)
value_push n [] d = refl
value_push n (x ∷ xs) d = value_push (10 * n + (x - 48)) xs d

decimal_back : (n : ℕ) → n < 2 ^ 64 → (list_all is_digit (decimal n) ≡ true) × (value (decimal n) ≡ n)
decimal_back n small = decimal_by_steps (λ m ds. (list_all is_digit ds ≡ true) × (value ds ≡ m))
    (λ m low. (ap (λ t. t && true) (digit m low), omega arith))
    (λ m ds high back. (digits_push ds (48 + m % 10) back.0 (digit (m % 10) (omega arith)), (let push = value_push 0 ds (48 + m % 10) in let rest = back.1 in omega arith)))
    n small
  where
    digit : (m : ℕ) → m < 10 → is_digit (48 + m) ≡ true
    digit m low = grind (arith, nat_tests)

pub number_back : {E : Type 0} (not_digits out_of_range : E) (low high n : ℕ) → low ≤ n → n ≤ high → n < 2 ^ 64 → number not_digits out_of_range low high (decimal n) ≡ Ok n
unfolding number
number_back not_digits out_of_range low high n above below small =
    let back = decimal_back n small in
    let inside : is_between low high n ≡ true = grind (arith, nat_tests) in
    rw (back.0, back.1, inside) refl
