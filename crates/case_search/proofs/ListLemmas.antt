-- Laws of lists.
use Rattle.std.proofs.Common.{◌≡◌, ℕ, zero, suc, ◌≤◌, ◌<◌, List, [], ◌∷◌, ◌++◌, length, take, drop, slice_index_or, flat_map, refl, sym, ap, subst, arith, append-nil}
use Rattle.refute_rules.specs.Trees.{AreInOrder}

pub append-assoc : {X : Type 0} (xs ys zs : List X) → (xs ++ ys) ++ zs ≡ xs ++ (ys ++ zs)
append-assoc [] ys zs = refl
append-assoc (x ∷ xs) ys zs = ap (λ l. x ∷ l) (append-assoc xs ys zs)

pub flat_map-one : {X Y : Type 0} (f : X → List Y) (x : X) → flat_map f (x ∷ []) ≡ f x
flat_map-one f x = append-nil (f x)

pub take-more : {X : Type 0} (xs : List X) (n : ℕ) (d : X) → n < length xs → take (suc n) xs ≡ take n xs ++ slice_index_or xs n d ∷ []
take-more [] n d h = absurd (omega (arith, h))
take-more (x ∷ xs) zero d h = refl
take-more (x ∷ xs) (suc n) d h = ap (λ l. x ∷ l) (take-more xs n d (omega (arith, h)))

pub take-all : {X : Type 0} (xs : List X) (n : ℕ) → length xs ≤ n → take n xs ≡ xs
take-all [] zero h = refl
take-all [] (suc n) h = refl
take-all (x ∷ xs) zero h = absurd (omega (arith, h))
take-all (x ∷ xs) (suc n) h = ap (λ l. x ∷ l) (take-all xs n (omega (arith, h)))

pub take-front : {X : Type 0} (xs ys : List X) → take (length xs) (xs ++ ys) ≡ xs
take-front [] ys = zero-take ys
  where
    zero-take : {X : Type 0} (ys : List X) → take 0 ys ≡ []
    zero-take [] = refl
    zero-take (y ∷ ys) = refl
take-front (x ∷ xs) ys = ap (λ l. x ∷ l) (take-front xs ys)

pub split-at : {X : Type 0} (xs : List X) (n : ℕ) (d : X) → n < length xs → xs ≡ take n xs ++ slice_index_or xs n d ∷ drop (suc n) xs
split-at [] n d h = absurd (omega (arith, h))
split-at (x ∷ xs) zero d h = refl
split-at (x ∷ xs) (suc n) d h = ap (λ l. x ∷ l) (split-at xs n d (omega (arith, h)))

pub drop-length : {X : Type 0} (n : ℕ) (xs : List X) → n < length xs → 0 < length (drop n xs)
drop-length zero xs h = h
drop-length (suc n) [] h = absurd (omega (arith, h))
drop-length (suc n) (x ∷ xs) h = drop-length n xs (omega (arith, h))

pub in_order-more : {X M : Type 0} (Tree : X → List M → List M → Type 0) (xs : List X) (x : X) (marks middle rest : List M) → AreInOrder Tree xs marks middle → Tree x middle rest → AreInOrder Tree (xs ++ x ∷ []) marks rest
in_order-more Tree [] x marks middle rest h t = (rest, subst (λ m. Tree x m rest) (sym h) t, refl)
in_order-more Tree (y ∷ xs) x marks middle rest h t = (h.0, h.1, in_order-more Tree xs x h.0 middle rest h.2 t)
