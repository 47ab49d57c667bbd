-- How far a search has come in a list of cases: `a` cases with property P were counted before it, `b` after it.
use Rattle.std.specs.Prelude.{ℕ, ◌≡◌, ◌+◌, List, ◌∷◌, ◌++◌, length}
use Rattle.std.specs.List.{AllByRecursion}
use Rattle.refute_rules.specs.Listing.{AreThose}

-- those of the list are counted, and none of them has property Q
pub record NoneIn {X : Type 0} (P Q : X → Type 0) (a b : ℕ) (xs : List X) : Type 0 where
  pub found : List X
  pub those : AreThose P xs found
  pub count : b ≡ a + length found
  pub none : AllByRecursion (λ x. Q x → ⊥) found

-- x is the first of them that has property Q, and the last that was counted
pub record FirstIn {X : Type 0} (P Q : X → Type 0) (a b : ℕ) (xs : List X) (x : X) : Type 0 where
  pub begun : List X
  pub left : List X
  pub split : begun ++ x ∷ left ≡ xs
  pub before : NoneIn P Q (a + 1) b begun
  pub has : P x
  pub is : Q x

-- t are counted, none of them has property Q, and one more follows
pub record MoreIn {X : Type 0} (P Q : X → Type 0) (a t : ℕ) (xs : List X) : Type 0 where
  pub begun : List X
  pub next : X
  pub left : List X
  pub split : begun ++ next ∷ left ≡ xs
  pub before : NoneIn P Q a t begun
  pub has : P next
