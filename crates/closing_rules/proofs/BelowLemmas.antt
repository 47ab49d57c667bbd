-- The least of a list of numbers, one of which is at most a number.
use Rattle.std.proofs.Common.{ℕ, ◌≤◌, List, [], ◌∷◌, ◌⊎◌, inl, inr, arith}
use Rattle.lock_rules.specs.Bound.{least_number}

-- one of the numbers is at most v
abbrev pub HasBelow : ℕ → List ℕ → Type 0
HasBelow v [] = ⊥
HasBelow v (b ∷ bs) = (b ≤ v) ⊎ HasBelow v bs

pub least-below : (v : ℕ) (xs : List ℕ) → HasBelow v xs → least_number xs ≤ v
least-below v [] h = absurd h
least-below v (x ∷ []) (inl h) = h
least-below v (x ∷ []) (inr h) = absurd h
least-below v (x ∷ y ∷ ys) (inl h) = omega (arith, h)
least-below v (x ∷ y ∷ ys) (inr h) = let rest = least-below v (y ∷ ys) h in omega (arith, rest)
