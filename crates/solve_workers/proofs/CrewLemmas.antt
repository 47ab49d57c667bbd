-- A list that has one item more at its end.
use Rattle.std.proofs.Common.{◌≡◌, ℕ, ◌+◌, List, [], ◌∷◌, ◌++◌, length, length-append, sum_by, All, ap, ◌∙◌, arith}
use Rattle.std.proofs.lemmas.List.Elements.{All-append, All-nil, All-cons}
use Rattle.std.proofs.lemmas.List.Sums.{sum_by-append}

module _ {X : Type 0} (xs ys : List X) (x : X) (is : ys ≡ xs ++ x ∷ []) where
  pub one_longer : length ys ≡ length xs + 1
  one_longer = omega (arith, simp length-append at (ap length is))

  pub sum_with : (f : X → ℕ) → sum_by f ys ≡ sum_by f xs + f x
  sum_with f = let one : sum_by f (x ∷ []) ≡ f x = omega arith in let all = ap (sum_by f) is ∙ sum_by-append f xs (x ∷ []) in omega (arith, one, all)

  pub all_with : (P : X → Type 0) → All P xs → P x → All P ys
  all_with P each one = rw is (All-append P xs (x ∷ []) each (All-cons P x [] one (All-nil P)))
