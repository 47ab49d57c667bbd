-- The least of rows of views, and their parts.
use Rattle.std.proofs.Common.{ℕ, zero, suc, ◌≡◌, ◌≢◌, ◌+◌, ◌<◌, ◌≤◌, ◌⊎◌, min, List, [], ◌∷◌, ◌++◌, set, refl, ap, sym, ◌∙◌, arith, All}
use mathlib.Core.Option.{some, some-injective, some-ne-none}
use lib.ListN.{get_elem?}
use Rattle.bound_word.specs.declared.view.View.{View}
use Rattle.bound_word.specs.Views.{least}
use Rattle.bound_word.specs.Rule.{least_posted, parts_of}

pub least-le : (n : ℕ) (xs : List ℕ) → least n xs ≤ n
least-le n [] = omega arith
least-le n (x ∷ xs) = omega (arith, least-le n xs)

pub least-append : (n : ℕ) (xs ys : List ℕ) → least n (xs ++ ys) ≡ min (least n xs) (least n ys)
least-append n [] ys = omega (arith, least-le n ys)
least-append n (x ∷ xs) ys = omega (arith, least-append n xs ys)

pub least-all : (n m : ℕ) (xs : List ℕ) → m ≤ least n xs → All (λ x. m ≤ x) xs
least-all n m [] h k d lt = absurd (omega arith)
least-all n m (x ∷ xs) h zero d lt = omega arith
least-all n m (x ∷ xs) h (suc k) d lt = least-all n m xs (omega arith) k d (omega arith)

pub least_posted-le : (n : ℕ) (vs : List View) → least_posted n vs ≤ n
least_posted-le n [] = omega arith
least_posted-le n (v ∷ vs) = omega (arith, least_posted-le n vs)

-- a view's own numbers are among all
pub member : (n : ℕ) (vs : List View) (j : ℕ) (v : View) → get_elem? vs j ≡ some v → least_posted n vs ≤ least n v.posted
member n [] j v at = absurd (some-ne-none v (sym at))
member n (x ∷ xs) zero v at = omega (arith, ap (λ (u : View). least n u.posted) (some-injective x v at))
member n (x ∷ xs) (suc j) v at = omega (arith, member n xs j v at)

-- what a change of one view does to the least
pub meet_set : (n : ℕ) (vs : List View) (j : ℕ) (v w : View) → get_elem? vs j ≡ some v → min (least_posted n (set vs j w)) (least n v.posted) ≡ min (least_posted n vs) (least n w.posted)
meet_set n [] j v w at = absurd (some-ne-none v (sym at))
meet_set n (x ∷ xs) zero v w at = omega (arith, ap (λ (u : View). least n u.posted) (some-injective x v at))
meet_set n (x ∷ xs) (suc j) v w at = omega (arith, meet_set n xs j v w at)

pub set_at : (vs : List View) (j : ℕ) (v w : View) → get_elem? vs j ≡ some v → get_elem? (set vs j w) j ≡ some w
set_at [] j v w at = absurd (some-ne-none v (sym at))
set_at (x ∷ xs) zero v w at = refl
set_at (x ∷ xs) (suc j) v w at = set_at xs j v w at

-- what a change of one view does to the parts
pub parts_set : (vs : List View) (j : ℕ) (v w : View) → get_elem? vs j ≡ some v → parts_of (set vs j w) + v.parts ≡ parts_of vs + w.parts
parts_set [] j v w at = absurd (some-ne-none v (sym at))
parts_set (x ∷ xs) zero v w at = omega (arith, ap (λ (u : View). u.parts) (some-injective x v at))
parts_set (x ∷ xs) (suc j) v w at = omega (arith, parts_set xs j v w at)

pub parts_member : (vs : List View) (j : ℕ) (v : View) → get_elem? vs j ≡ some v → v.parts ≤ parts_of vs
parts_member [] j v at = absurd (some-ne-none v (sym at))
parts_member (x ∷ xs) zero v at = omega (arith, ap (λ (u : View). u.parts) (some-injective x v at))
parts_member (x ∷ xs) (suc j) v at = omega (arith, parts_member xs j v at)

pub least_snoc : (n : ℕ) (vs : List View) (w : View) → least_posted n (vs ++ w ∷ []) ≡ min (least_posted n vs) (least n w.posted)
least_snoc n [] w = omega (arith, least-le n w.posted)
least_snoc n (x ∷ xs) w = omega (arith, least_snoc n xs w)

pub parts_snoc : (vs : List View) (w : View) → parts_of (vs ++ w ∷ []) ≡ parts_of vs + w.parts
parts_snoc [] w = omega arith
parts_snoc (x ∷ xs) w = omega (arith, parts_snoc xs w)

-- a row whose views without parts have posted nothing
abbrev pub IdleIsEmpty : List View → Type 0
IdleIsEmpty vs = (j : ℕ) (v : View) → get_elem? vs j ≡ some v → v.parts ≡ 0 → v.posted ≡ []

pub idle : (n : ℕ) (vs : List View) → IdleIsEmpty vs → parts_of vs ≡ 0 → least_posted n vs ≡ n
idle n [] empty none = refl
idle n (x ∷ xs) empty none = omega (arith, ap (least n) (empty 0 x refl (omega arith)), idle n xs (λ j v at. empty (suc j) v at) (omega arith))

-- a view with all parts has posted all
pub alone : (n : ℕ) (vs : List View) (j : ℕ) (v : View) → get_elem? vs j ≡ some v → IdleIsEmpty vs → parts_of vs ≡ v.parts → least_posted n vs ≡ least n v.posted
alone n [] j v at empty all = absurd (some-ne-none v (sym at))
alone n (x ∷ xs) zero v at empty all =
    omega (arith, least-le n v.posted, ap (λ (u : View). least n u.posted) (some-injective x v at), idle n xs (λ j u at'. empty (suc j) u at') (omega (arith, ap (λ (u : View). u.parts) (some-injective x v at))))
alone n (x ∷ xs) (suc j) v at empty all =
    let none : x.parts ≡ 0 = omega (arith, parts_member xs j v at) in
    omega (arith, least-le n v.posted, ap (least n) (empty 0 x refl none), alone n xs j v at (λ i u at'. empty (suc i) u at') (omega arith))
