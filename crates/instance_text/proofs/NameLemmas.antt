-- Names that differ from all earlier ones.
use Rattle.std.proofs.Common.{◌≡◌, ◌≢◌, Bool, true, false, not, ◌||◌, ℕ, subst, List, [], ◌∷◌, map, All, Ok, sym}
use Rattle.std.proofs.lemmas.List.Elements.{All-cons, All-nil}
use Rattle.std.proofs.lemmas.Slice.Eq.{bytes_eq-Decides}
use Rattle.std.specs.List.{list_any}
use Rattle.std.specs.Str.{bytes_eq}
use Rattle.instance_text.specs.declared.bad.Kind.{Kind}
use Rattle.line_text.specs.Steps.{check}

-- a name that none of these has
pub new_among : {X : Type 0} (name_of : X → List ℕ) (xs : List X) (word : List ℕ) → list_any (bytes_eq word) (map name_of xs) ≡ false → All (λ x. name_of x ≢ word) xs
new_among name_of [] word h = All-nil (λ x. name_of x ≢ word)
new_among name_of (x ∷ xs) word h = by_test (bytes_eq word (name_of x)) (bytes_eq-Decides word (name_of x)).1 (new_among name_of xs word) h
  where
    by_test : (b : Bool) → (word ≡ name_of x → b ≡ true) → (list_any (bytes_eq word) (map name_of xs) ≡ false → All (λ x. name_of x ≢ word) xs) → (b || list_any (bytes_eq word) (map name_of xs)) ≡ false → All (λ x. name_of x ≢ word) (x ∷ xs)
    by_test true decides rest none = cc
    by_test false decides rest none = All-cons (λ x. name_of x ≢ word) x xs (λ same. let hit = decides (sym same) in cc) (rest none)

pub new_names : {X : Type 0} (name_of : X → List ℕ) (xs : List X) (word n : List ℕ) (taken : Bool) (kind : Kind) (u : Unit {0}) → taken ≡ list_any (bytes_eq word) (map name_of xs) → Ok u ≡ check (not taken) kind → n ≡ word → All (λ x. name_of x ≢ n) xs
new_names name_of xs word n true kind u is passed same = cc
new_names name_of xs word n false kind u is passed same = subst (λ w. All (λ x. name_of x ≢ w) xs) (sym same) (new_among name_of xs word (sym is))
