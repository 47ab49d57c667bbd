-- Lists that grow at the end, parts of lists, their heads and tails.
use Rattle.std.proofs.Common.{◌≡◌, ℕ, zero, suc, Bool, true, false, List, [], ◌∷◌, ◌++◌, length, drop, filter, All, AllPairs, Contains, refl, ap, ◌∙◌, arith, length-append}
use Rattle.std.proofs.lemmas.Bool.{or_parts}
use Rattle.std.proofs.lemmas.List.{get_or_append_left}
use Rattle.std.proofs.lemmas.List.Elements.{All-nil, All-cons}
use Rattle.std.specs.List.{list_any}

pub length-push : {X : Type 0} (xs : List X) (x : X) → length (xs ++ x ∷ []) ≡ suc (length xs)
length-push xs x = omega (arith, length-append xs (x ∷ []))

pub Contains-before_push : {X : Type 0} (xs : List X) (x y : X) → Contains xs y → Contains (xs ++ x ∷ []) y
Contains-before_push xs x y held = (held.0, omega (arith, held.1, length-append xs (x ∷ [])), get_or_append_left xs (x ∷ []) y held.0 held.1 ∙ held.2)

pub same-heads : {X : Type 0} (x y : X) (xs ys : List X) → x ∷ xs ≡ y ∷ ys → x ≡ y
same-heads x y xs ys e = cc

pub same-tails : {X : Type 0} (x y : X) (xs ys : List X) → x ∷ xs ≡ y ∷ ys → xs ≡ ys
same-tails x y xs ys e = cc

pub drop-next : {X : Type 0} (n : ℕ) (xs : List X) (y : X) (ys : List X) → drop n xs ≡ y ∷ ys → drop (suc n) xs ≡ ys
drop-next zero [] y ys e = cc
drop-next zero (x ∷ xs) y ys e = cc
drop-next (suc n) [] y ys e = cc
drop-next (suc n) (x ∷ xs) y ys e = drop-next n xs y ys e

pub filter-all : {X : Type 0} (xs : List X) → filter (λ _. true) xs ≡ xs
filter-all [] = refl
filter-all (x ∷ xs) = ap (λ rest. x ∷ rest) (filter-all xs)

pub none-passes : {X : Type 0} (test : X → Bool) (xs : List X) → list_any test xs ≡ false → All (λ x. test x ≡ false) xs
none-passes test [] none = All-nil (λ x. test x ≡ false)
none-passes test (x ∷ xs) none =
    let each = or_parts (test x) (list_any test xs) none in
    All-cons (λ y. test y ≡ false) x xs each.0 (none-passes test xs each.1)

pub AllPairs-head : {X : Type 0} (R : X → X → Type 0) (x : X) (xs : List X) → AllPairs R (x ∷ xs) → All (R x) xs
AllPairs-head R x xs h k d here = h 0 (suc k) d (omega arith) (omega arith)

pub AllPairs-tail : {X : Type 0} (R : X → X → Type 0) (x : X) (xs : List X) → AllPairs R (x ∷ xs) → AllPairs R xs
AllPairs-tail R x xs h i j d less here = h (suc i) (suc j) d (omega arith) (omega arith)
