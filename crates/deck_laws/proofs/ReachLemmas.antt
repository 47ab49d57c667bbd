-- What one round of the search for spot values reaches.
use Rattle.std.proofs.Common.{◌≡◌, ℕ, ◌+◌, ◌<◌, List, length, Option, Some, None, IsSome, ◌⊎◌, inl, inr, refl, sym, ◌∙◌, subst, arith}
use Rattle.std.proofs.lemmas.Bool.Decides.{eqb_tells}
use Rattle.lock_model.specs.Deck.{Deck}
use Rattle.deck_laws.specs.Reach.{round_at, IsStepAfter, IsNextOf, AreReached}

pub some-by : (o : Option ℕ) (r : ℕ) → o ≡ Some r → IsSome o
some-by o r e = subst IsSome (sym e) refl

-- what is reached stays so
pub still-some : (old new : List (Option ℕ)) (round : ℕ) (P : ℕ → Type 0) → AreReached old new round P → (t : ℕ) → IsSome (round_at old t) → IsSome (round_at new t)
still-some old new round P h t some = go (round_at old t) refl some
  where
    go : (o : Option ℕ) → round_at old t ≡ o → IsSome o → IsSome (round_at new t)
    go None e bad = cc
    go (Some r) e good = some-by (round_at new t) r (h.stays t r e)

-- the same by another name
pub reaches_same : (old new : List (Option ℕ)) (round : ℕ) (P Q : ℕ → Type 0) → ((t : ℕ) → P t → Q t) → ((t : ℕ) → Q t → P t) → AreReached old new round P → AreReached old new round Q
reaches_same old new round P Q to from h = record {
  size = h.size;
  stays = h.stays;
  adds = λ t r e. elim (h.adds t r e) [ inl was ↦ inl was | inr new ↦ inr (new.0, to t new.1) ];
  all = λ t q known. h.all t (from t q) known;
}

-- one after the other
pub reaches_then : (a b c : List (Option ℕ)) (round : ℕ) (P Q : ℕ → Type 0) → AreReached a b round P → AreReached b c round Q → AreReached a c round (λ t. P t ⊎ Q t)
reaches_then a b c round P Q first second = record {
  size = second.size ∙ first.size;
  stays = λ t r e. second.stays t r (first.stays t r e);
  adds = λ t r e.
      elim (second.adds t r e) [
        | inr new ↦ inr (new.0, inr new.1)
        | inl mid ↦ elim (first.adds t r mid) [ inl was ↦ inl was | inr new ↦ inr (new.0, inl new.1) ]
      ];
  all = λ t either known. whole t known either;
}
  where
    whole : (t : ℕ) → t < length a → P t ⊎ Q t → IsSome (round_at c t)
    whole t known (inl p) = still-some b c round Q second t (first.all t p known)
    whole t known (inr q) = let size = first.size in second.all t q (omega (arith, known, size))

-- one step more
pub reaches_more : (a b c : List (Option ℕ)) (round n : ℕ) (P : ℕ → ℕ → Type 0) → AreReached a b round (λ t. (k : ℕ) × (k < n) × P k t) → AreReached b c round (P n) → AreReached a c round (λ t. (k : ℕ) × (k < n + 1) × P k t)
reaches_more a b c round n P first second =
    reaches_same a c round (λ t. ((k : ℕ) × (k < n) × P k t) ⊎ P n t) (λ t. (k : ℕ) × (k < n + 1) × P k t) to from (reaches_then a b c round (λ t. (k : ℕ) × (k < n) × P k t) (P n) first second)
  where
    to : (t : ℕ) → ((k : ℕ) × (k < n) × P k t) ⊎ P n t → (k : ℕ) × (k < n + 1) × P k t
    to t (inl h) = let less = h.1 in (h.0, omega (arith, less), h.2)
    to t (inr p) = (n, omega arith, p)

    from : (t : ℕ) → (k : ℕ) × (k < n + 1) × P k t → ((k : ℕ) × (k < n) × P k t) ⊎ P n t
    from t h = let less = h.1 in elim (eqb_tells h.0 n) [ inl y ↦ inr (subst (λ k. P k t) y.1 h.2) | inr d ↦ inl (h.0, omega (arith, less, d.1), h.2) ]

-- ---- a round
-- a number that this round reaches isn't one that the round before it reached first
pub reach_next_more : (d : Deck) (a b c : List (Option ℕ)) (k n : ℕ) → AreReached a b (k + 1) (IsNextOf d a k n) → AreReached b c (k + 1) (IsStepAfter d b k n) → AreReached a c (k + 1) (IsNextOf d a k (n + 1))
reach_next_more d a b c k n first second =
    reaches_more a b c (k + 1) n (IsStepAfter d a k) first (reaches_same b c (k + 1) (IsStepAfter d b k n) (IsStepAfter d a k n) (λ t h. (was h.0, h.1)) (λ t h. (first.stays n k h.0, h.1)) second)
  where
    was : round_at b n ≡ Some k → round_at a n ≡ Some k
    was e = elim (first.adds n k e) [ inl old ↦ old | inr new ↦ (let same = new.0 in absurd (omega (arith, same))) ]
