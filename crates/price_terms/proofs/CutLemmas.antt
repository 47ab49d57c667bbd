-- Cuts that are compared by their chamber and their ships.
use Rattle.std.proofs.Common.{◌≡◌, ◌≢◌, ℕ, suc, List, [], ◌∷◌, length, drop, refl, ap, Bool, true, false, ◌&&◌, rules}
use Rattle.std.specs.Bool.{Decides}
use Rattle.std.specs.Cmp.Lexicographic.{pointwise}
use Rattle.std.proofs.lemmas.Slice.Eq.{slice_eq-Decides}
use Rattle.price_terms.specs.declared.cut.ChamberCut.{ChamberCut}
use Rattle.price_terms.specs.Cuts.{same_cut}

neither : (t : Bool) {u : Bool} → u ≡ false → (t && u) ≡ false
neither true e = e
neither false e = refl

-- lists that are the same are as long
pub as_many : {A : Type 0} (same : A → A → Bool) (xs ys : List A) → length xs ≢ length ys → pointwise same xs ys ≡ false
as_many same [] [] other = absurd (other refl)
as_many same [] (y ∷ ys) other = refl
as_many same (x ∷ xs) [] other = refl
as_many same (x ∷ xs) (y ∷ ys) other = neither (same x y) (as_many same xs ys (λ e. other (ap suc e)))

-- the same, from place i on
abbrev pub same_from : List ChamberCut → List ChamberCut → ℕ → Bool
same_from some others i = pointwise same_cut (drop i some) (drop i others)

-- lists whose cuts are the same, one by one, are the same
pub same_row : (some others : List ChamberCut) (same : Bool) → same ≡ pointwise same_cut some others → Decides same (some ≡ others)
same_row some others same is = slice_eq-Decides (λ a b. search rules) some others same is
