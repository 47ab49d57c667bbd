-- Sets of ships that stand in eight bytes, with zeros behind their numbers.
use Rattle.std.specs.List.Sorted.{IsStrictlyIncreasing}
use Rattle.std.proofs.Common.{All, ◌≡◌, ℕ, zero, suc, ◌+◌, ◌-◌, ◌<◌, List, [], ◌∷◌, ◌++◌, length, take, drop, replicate, nat_eq, sym, ap, subst, ◌∙◌, arith, set, get_or}
use Rattle.std.specs.Int.{w64, from_le_bytes, to_le_bytes}
use Rattle.std.specs.Cmp.Lexicographic.{pointwise, bytes_decides}
use Rattle.std.proofs.lemmas.Bool.Decides.{Decides-like, Decides-eqb, same_from_decides}
use Rattle.std.proofs.lemmas.List.{take-append-drop, drop-set-lt, drop-drop}
use Rattle.std.proofs.lemmas.List.Elements.{All-tail}
use Rattle.std.proofs.Math.Seq.{take-suc-set}
use Rattle.std.proofs.lemmas.Nat.{le_bytes_8}
use Rattle.lock_model.specs.declared.limits.TheConstants.{MOST}

-- eight bytes are others where they write the same number
pub bytes_same : (xs ys : List ℕ) (m n : ℕ) → length xs ≡ 8 → length ys ≡ 8 → ((i : ℕ) → get_or xs i 0 < 256) → ((i : ℕ) → get_or ys i 0 < 256) → m ≡ from_le_bytes w64 xs → n ≡ from_le_bytes w64 ys → nat_eq m n ≡ pointwise nat_eq xs ys
bytes_same xs ys m n long-x long-y small-x small-y x y =
    same_from_decides (nat_eq m n) (pointwise nat_eq xs ys)
    (Decides-like (nat_eq m n) (λ same. sym (le_bytes_8 xs m long-x small-x x) ∙ ap (to_le_bytes w64) same ∙ le_bytes_8 ys n long-y small-y y) (λ same. x ∙ ap (from_le_bytes w64) same ∙ sym y) (Decides-eqb m n))
    (bytes_decides xs ys)

module _ (xs ys : List ℕ) (m n : ℕ) (count : m ≡ n) (zero-x : drop m xs ≡ replicate (MOST - m) 0) (zero-y : drop n ys ≡ replicate (MOST - n) 0) where
  zeros : drop m xs ≡ drop n ys
  zeros = zero-x ∙ ap (λ k. replicate (MOST - k) 0) count ∙ sym zero-y

  whole : take m xs ≡ take n ys → xs ≡ ys
  whole h = sym (take-append-drop m xs) ∙ (λ i. h i ++ zeros i) ∙ take-append-drop n ys

  -- as many ships are the same where their eight bytes are
  pub ships_same : pointwise nat_eq xs ys ≡ pointwise nat_eq (take m xs) (take n ys)
  ships_same =
      same_from_decides (pointwise nat_eq xs ys) (pointwise nat_eq (take m xs) (take n ys))
      (Decides-like (pointwise nat_eq xs ys) (λ same i. take (count i) (same i)) whole (bytes_decides xs ys))
      (bytes_decides (take m xs) (take n ys))

-- behind one ship more there are zeros still
pub zeros_more : (xs : List ℕ) (m s : ℕ) → m < MOST → drop m xs ≡ replicate (MOST - m) 0 → drop (m + 1) (set xs m s) ≡ replicate (MOST - (m + 1)) 0
zeros_more xs m s few none =
    let one : MOST - m ≡ suc (MOST - (m + 1)) = omega (arith, few) in
    drop-set-lt (m + 1) xs m s (omega arith) ∙ sym (drop-drop 1 m xs) ∙ ap (drop 1) none ∙ ap (λ k. drop 1 (replicate k 0)) one

-- a greater ship behind rising ones rises
push-rising : (xs : List ℕ) (s : ℕ) → IsStrictlyIncreasing xs → All (λ x. x < s) xs → IsStrictlyIncreasing (xs ++ s ∷ [])
push-rising [] s rising below k within = absurd (omega (arith, within))
push-rising (x ∷ []) s rising below zero within = below 0 0 (omega arith)
push-rising (x ∷ []) s rising below (suc k) within = absurd (omega (arith, within))
push-rising (x ∷ y ∷ xs) s rising below zero within = rising 0 (omega arith)
push-rising (x ∷ y ∷ xs) s rising below (suc k) within =
    let next : suc k + 1 ≡ suc (k + 1) = omega arith in
    let rest : IsStrictlyIncreasing (y ∷ xs) = λ j inside. let later : suc j + 1 ≡ suc (j + 1) = omega arith in subst (λ n. get_or (y ∷ xs) j 0 < get_or (x ∷ y ∷ xs) n 0) later (rising (suc j) (omega (arith, inside))) in
    subst (λ n. get_or (y ∷ xs ++ s ∷ []) k 0 < get_or (x ∷ y ∷ xs ++ s ∷ []) n 0) (sym next) (push-rising (y ∷ xs) s rest (All-tail (λ z. z < s) x (y ∷ xs) below) k (omega (arith, within)))

pub rises_more : (xs : List ℕ) (m s : ℕ) → m < length xs → IsStrictlyIncreasing (take m xs) → All (λ x. x < s) (take m xs) → IsStrictlyIncreasing (take (m + 1) (set xs m s))
rises_more xs m s few rising below =
    let more : m + 1 ≡ suc m = omega arith in
    subst IsStrictlyIncreasing (sym (ap (λ k. take k (set xs m s)) more ∙ take-suc-set xs m s few)) (push-rising (take m xs) s rising below)
