-- Values that are appended one after the other.
use Rattle.std.proofs.Common.{◌≡◌, ◌∙◌, ◌<◌, ◌+◌, ◌⊎◌, inl, inr, ℕ, List, [], ◌∷◌, ◌++◌, ap, sym, subst, arith, append_assoc, get_or, length, map, take}
use Rattle.std.proofs.lemmas.List.{map-append, map_more, get_or_default}
use Rattle.std.proofs.Math.Nat.{eq-or-lt_of_le}
use Rattle.serde_json.specs.Data.{Data}
use Rattle.serde_json.specs.View.{view}
use Rattle.serde_json.specs.declared.value.Value.{Value}

-- one value more for one element more of a list
pub one_more : {A : Type 0} (data_of : A → Data) (xs : List A) (old new : List Value) (v : Value) (before : List Data) (i : ℕ) (d : A)
    → i < length xs → new ≡ old ++ v ∷ [] → view v ≡ data_of (get_or xs i d) → map view old ≡ before ++ map data_of (take i xs) → map view new ≡ before ++ map data_of (take (i + 1) xs)
one_more data_of xs old new v before i d low appended is values =
    ap (map view) appended ∙ map-append view old (v ∷ []) ∙ ap (λ ds. ds ++ view v ∷ []) values
    ∙ append_assoc before (map data_of (take i xs)) (view v ∷ [])
    ∙ ap (λ w. before ++ (map data_of (take i xs) ++ w ∷ [])) is ∙ ap (λ ds. before ++ ds) (sym (map_more data_of xs i d low))

-- what holds of the elements so far, and of the next one
pub next_too : {A : Type 0} (P : A → Type 0) (xs : List A) (i : ℕ) (e : A) → i < length xs → P (get_or xs i e)
    → ((k : ℕ) (d : A) → k < i → P (get_or xs k d)) → (k : ℕ) (d : A) → k < i + 1 → P (get_or xs k d)
next_too P xs i e high next before k d low = go (eq-or-lt_of_le (omega (arith, low)))
  where
    go : (k ≡ i) ⊎ (k < i) → P (get_or xs k d)
    go (inl same) = subst (λ j. P (get_or xs j d)) (sym same) (subst P (get_or_default xs i e d high) next)
    go (inr less) = before k d less
