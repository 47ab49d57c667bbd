-- Cutting a list at its first separator.
use Rattle.std.proofs.Common.{◌≡◌, ℕ, ◌+◌, ◌<◌, ◌≤◌, Bool, true, false, List, [], ◌∷◌, ◌++◌, length, All, take, drop, get_or, sym, ap, subst, ◌∙◌}
use Rattle.std.proofs.lemmas.List.{take-append-drop, drop_more, take_more, take_all}
use Rattle.std.proofs.lemmas.List.Elements.{All-push}
use Rattle.std.proofs.lemmas.List.Splits.{slice_split_at, slice_split_none}
use Rattle.std.specs.List.{slice_split}

-- the first part ends at the first separator
pub split_found : (p : ℕ → Bool) (xs : List ℕ) (i : ℕ) → i < length xs → All (λ b. p b ≡ false) (take i xs) → p (get_or xs i 0) ≡ true → slice_split p xs ≡ take i xs ∷ slice_split p (drop (i + 1) xs)
split_found p xs i low before here =
    let whole : xs ≡ take i xs ++ get_or xs i 0 ∷ drop (i + 1) xs = sym (take-append-drop i xs) ∙ ap (λ tail. take i xs ++ tail) (drop_more xs i 0 low) in
    ap (slice_split p) whole ∙ slice_split_at p (take i xs) (get_or xs i 0) (drop (i + 1) xs) before here

-- one more byte that is no separator
pub before_more : (p : ℕ → Bool) (xs : List ℕ) (i : ℕ) → i < length xs → All (λ b. p b ≡ false) (take i xs) → p (get_or xs i 0) ≡ false → All (λ b. p b ≡ false) (take (i + 1) xs)
before_more p xs i low before here =
    subst (All (λ b. p b ≡ false)) (sym (take_more xs i 0 low)) (All-push (λ b. p b ≡ false) (take i xs) (get_or xs i 0) before here)

-- without a separator there is one part
pub split_one : (p : ℕ → Bool) (xs : List ℕ) (i : ℕ) → length xs ≤ i → All (λ b. p b ≡ false) (take i xs) → slice_split p xs ≡ xs ∷ []
split_one p xs i high before = slice_split_none p xs (subst (All (λ b. p b ≡ false)) (take_all i xs high) before)
