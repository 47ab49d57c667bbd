-- The places that are reached, one after the other.
use Rattle.std.proofs.Common.{◌≡◌, ℕ, ◌+◌, List, [], ◌∷◌, ◌++◌, filter, cond, Bool, Option, is_some, sym, ap, ◌∙◌, subst, arith}
use Rattle.std.specs.List.Sorted.{IsStrictlyIncreasing}
use Rattle.std.proofs.lemmas.List.Elements.{filter-append}
use Rattle.lock_rules.specs.Arrival.{numbers_from}
use Rattle.deck_laws.specs.Reach.{round_at, reached_of}
use Rattle.lock_rules.proofs.LineLemmas.{numbers_more}
use Rattle.lock_rules.proofs.NodeLemmas.{increasing-RisesFrom}
use Rattle.deck_laws.proofs.MemberLemmas.{filter-rises}

pub reached_more : (rounds : List (Option ℕ)) (n : ℕ) (items longer : List ℕ) (reached : Bool) → items ≡ reached_of rounds n → reached ≡ is_some (round_at rounds n) → longer ≡ items ++ cond reached (n ∷ []) [] → longer ≡ reached_of rounds (n + 1)
reached_more rounds n items longer reached is by more =
    more ∙ ap (λ b. items ++ cond b (n ∷ []) []) by ∙ ap (λ xs. xs ++ cond (is_some (round_at rounds n)) (n ∷ []) []) is
    ∙ sym (ap (filter (λ t. is_some (round_at rounds t))) (numbers_more 0 n) ∙ filter-append (λ t. is_some (round_at rounds t)) (numbers_from 0 n) ((0 + n) ∷ []) ∙ ap (λ k. reached_of rounds n ++ filter (λ t. is_some (round_at rounds t)) (k ∷ [])) last)
  where
    last : 0 + n ≡ n
    last = omega arith

pub reached_rises : (rounds : List (Option ℕ)) (n : ℕ) (items : List ℕ) → items ≡ reached_of rounds n → IsStrictlyIncreasing items
reached_rises rounds n items is = subst IsStrictlyIncreasing (sym is) (increasing-RisesFrom 0 (reached_of rounds n) (filter-rises (λ t. is_some (round_at rounds t)) 0 n))
