-- Where a number is among some, and is at most another, one of them is.
use Rattle.std.proofs.Common.{ℕ, ◌≤◌, List, [], ◌∷◌, inl, inr, arith}
use Rattle.list_laws.specs.Among.{IsAmong}
use Rattle.closing_rules.proofs.BelowLemmas.{HasBelow}

pub among-below : (n v : ℕ) (xs : List ℕ) → IsAmong xs n → n ≤ v → HasBelow v xs
among-below n v [] h low = absurd h
among-below n v (x ∷ xs) (inl e) low = inl (omega (arith, e, low))
among-below n v (x ∷ xs) (inr h) low = inr (among-below n v xs h low)
