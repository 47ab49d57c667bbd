-- Lists that are made from numbers one after the other.
use Rattle.std.proofs.Common.{◌≡◌, ℕ, ◌+◌, List, [], ◌∷◌, ◌++◌, map, ap, sym, ◌∙◌, arith, append_assoc}
use Rattle.std.specs.List.{range_with_len}
use Rattle.std.proofs.lemmas.List.FromFn.{map-range_with_len_more}

-- one element more for one number more
pub map_more : {X : Type 0} (f : ℕ → X) (xs : List X) (n : ℕ) → (xs ++ map f (range_with_len 0 n)) ++ f n ∷ [] ≡ xs ++ map f (range_with_len 0 (n + 1))
map_more f xs n =
    append_assoc xs (map f (range_with_len 0 n)) (f n ∷ []) ∙ ap (λ ys. xs ++ ys) (sym (map-range_with_len_more f 0 n n (omega arith)))
