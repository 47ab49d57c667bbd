-- A test counted as a number, and how many pass a test.
use Rattle.std.proofs.Common.{ℕ, ◌≤◌, Bool, true, false, cond, List, [], ◌∷◌, length, filter, arith}

pub one-at_most : (test : Bool) → cond test 1 0 ≤ 1
one-at_most true = omega arith
one-at_most false = omega arith

pub filter-shorter : {X : Type 0} (test : X → Bool) (xs : List X) → length (filter test xs) ≤ length xs
filter-shorter test [] = omega arith
filter-shorter test (x ∷ xs) =
    elim (test x) as (λ t. length (cond t (x ∷ filter test xs) (filter test xs)) ≤ length (x ∷ xs)) [
      | true ↦ omega (arith, filter-shorter test xs)
      | false ↦ omega (arith, filter-shorter test xs)
    ]
