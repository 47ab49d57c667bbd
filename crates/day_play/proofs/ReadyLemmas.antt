-- Whether a ship has to come after one of some.
use Rattle.std.proofs.Common.{◌≡◌, ℕ, ◌+◌, ◌<◌, Bool, true, false, ◌||◌, List, length, drop, get_or, ap, sym, ◌∙◌}
use Rattle.day_play.specs.ComingIn.{after_any}
use Rattle.day_play.proofs.BeatLemmas.{drop_next}

-- a loop over the list, at its next element
module _ (after : ℕ → ℕ → Bool) (ks : List ℕ) (i : ℕ) (within : i < length ks) where
  pub any-hit : (k : ℕ) (b : Bool) → after_any after k (drop i ks) ≡ after_any after k ks → b ≡ after k (get_or ks i 0) → b ≡ true → after_any after k ks ≡ true
  any-hit k b all is hit =
      sym all ∙ ap (after_any after k) (drop_next ks i within) ∙ ap (λ b. b || after_any after k (drop (i + 1) ks)) (sym is ∙ hit)

  pub any-miss : (k : ℕ) (b : Bool) → after_any after k (drop i ks) ≡ after_any after k ks → b ≡ after k (get_or ks i 0) → b ≡ false → after_any after k (drop (i + 1) ks) ≡ after_any after k ks
  any-miss k b all is miss =
      sym (ap (after_any after k) (drop_next ks i within) ∙ ap (λ b. b || after_any after k (drop (i + 1) ks)) (sym is ∙ miss)) ∙ all
