-- The first thirteen words of a line tell as much as all of them.
use Rattle.std.proofs.Common.{◌≡◌, ℕ, ◌<◌, ◌≤◌, ◌==◌, min, false, List, [], length, take, sym, ap, ◌∙◌, ⊎_elim, arith, Result, Ok, Err, IfOk, IfErr}
use Rattle.std.proofs.lemmas.Bool.{cases_lt}
use Rattle.std.proofs.lemmas.Bool.Decides.{nat_tests}
use Rattle.std.proofs.lemmas.List.{get_or-take, length-take}
use Rattle.line_text.specs.Lines.{word_at}

pub word_enough : (words : List (List ℕ)) (i : ℕ) → i < 13 → word_at (take 13 words) i ≡ word_at words i
word_enough words i low = get_or-take 13 words i [] low

count_enough : (n k : ℕ) → k < 13 → (min 13 n == k) ≡ (n == k)
count_enough n k low = ⊎_elim
    (λ (few : n < 13). ap (λ m. m == k) (let same : min 13 n ≡ n = omega arith in same))
    (λ (many : 13 ≤ n). let a : (min 13 n == k) ≡ false = grind (arith, nat_tests) in let b : (n == k) ≡ false = grind (arith, nat_tests) in a ∙ sym b)
    (cases_lt n 13)

pub length_enough : (words : List (List ℕ)) (k : ℕ) → k < 13 → (length (take 13 words) == k) ≡ (length words == k)
length_enough words k low = ap (λ n. n == k) (length-take 13 words) ∙ count_enough (length words) k low

-- what is read of the first words of a line is read of the line
pub line_enough : {P X E : Type 0} (read : List (List ℕ) → Result X E) (with_new : P → X) (found all : List (List ℕ)) (r : Result P E) → read (take 13 all) ≡ read all → found ≡ take 13 all → IfOk r (λ p. read found ≡ Ok (with_new p)) → IfOk r (λ p. read all ≡ Ok (with_new p))
line_enough read with_new found all (Ok p) enough is so = sym enough ∙ ap read (sym is) ∙ so
line_enough read with_new found all (Err e) enough is so = so

pub line_enough_bad : {P X E : Type 0} (read : List (List ℕ) → Result X E) (found all : List (List ℕ)) (r : Result P E) → read (take 13 all) ≡ read all → found ≡ take 13 all → IfErr r (λ e. read found ≡ Err e) → IfErr r (λ e. read all ≡ Err e)
line_enough_bad read found all (Ok p) enough is so = so
line_enough_bad read found all (Err e) enough is so = sym enough ∙ ap read (sym is) ∙ so
