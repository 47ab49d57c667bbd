-- Texts that are made piece by piece.
use Rattle.std.proofs.Common.{◌≡◌, ℕ, ◌+◌, ◌<◌, List, [], ◌∷◌, ◌++◌, length, take, get_or, ap, sym, ◌∙◌, arith, append_assoc}
use Rattle.std.specs.List.{flat_map, range_with_len}
use Rattle.std.proofs.lemmas.List.{append-nil, map-id, take_more}
use Rattle.std.proofs.lemmas.List.Concat.{flat_map-append}
use Rattle.std.proofs.lemmas.List.FromFn.{map-range_with_len_more}

-- the numbers below n + 1
pub range_more : (n : ℕ) → range_with_len 0 (n + 1) ≡ range_with_len 0 n ++ n ∷ []
range_more n =
    sym (map-id (range_with_len 0 (n + 1))) ∙ map-range_with_len_more (λ k. k) 0 n n (omega arith) ∙ ap (λ xs. xs ++ n ∷ []) (map-id (range_with_len 0 n))

-- one piece more for one number more
pub flat_map_range_more : (f : ℕ → List ℕ) (bs : List ℕ) (n : ℕ) → (bs ++ flat_map f (range_with_len 0 n)) ++ f n ≡ bs ++ flat_map f (range_with_len 0 (n + 1))
flat_map_range_more f bs n =
    let joined : flat_map f (range_with_len 0 (n + 1)) ≡ flat_map f (range_with_len 0 n) ++ f n =
    ap (flat_map f) (range_more n) ∙ flat_map-append f (range_with_len 0 n) (n ∷ []) ∙ ap (λ xs. flat_map f (range_with_len 0 n) ++ xs) (append-nil (f n)) in
    append_assoc bs (flat_map f (range_with_len 0 n)) (f n) ∙ ap (λ xs. bs ++ xs) (sym joined)

-- one piece more for one element more of a list
pub flat_map_take_more : {X : Type 0} (f : X → List ℕ) (bs : List ℕ) (xs : List X) (i : ℕ) (d : X) → i < length xs
    → (bs ++ flat_map f (take i xs)) ++ f (get_or xs i d) ≡ bs ++ flat_map f (take (i + 1) xs)
flat_map_take_more f bs xs i d h =
    let joined : flat_map f (take (i + 1) xs) ≡ flat_map f (take i xs) ++ f (get_or xs i d) =
    ap (flat_map f) (take_more xs i d h) ∙ flat_map-append f (take i xs) (get_or xs i d ∷ []) ∙ ap (λ ys. flat_map f (take i xs) ++ ys) (append-nil (f (get_or xs i d))) in
    append_assoc bs (flat_map f (take i xs)) (f (get_or xs i d)) ∙ ap (λ ys. bs ++ ys) (sym joined)
