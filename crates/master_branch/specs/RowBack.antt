-- That the lines of a node give their row back, by which nodes are compared. No public contract names it.
use Rattle.std.proofs.Common.{◌≡◌, ℕ, ◌+◌, ◌-◌, ◌≤◌, List, [], ◌∷◌, ◌++◌, length, drop, refl, sym, ap, ◌∙◌, arith, le_refl}
use Rattle.std.proofs.lemmas.List.{length-take, length-drop, take-append-drop, drop-drop, drop_all}
use Rattle.lock_model.specs.declared.group.Group.{Group}
use Rattle.master_branch.specs.Row.{part, cut_from, IsCutFrom, row_of, ends_from}

-- no line begins behind the row
pub begins-within : (s : ℕ) (ends : List ℕ) (n : ℕ) → IsCutFrom s ends n → s ≤ n
begins-within s [] n cut = omega (arith, cut)
begins-within s (e ∷ es) n cut = omega (arith, cut.0, begins-within e es n cut.1)

pub length-part : (s e : ℕ) (row : List Group) → e ≤ length row → length (part s e row) ≡ e - s
length-part s e row within = omega (arith, length-take (e - s) (drop s row), length-drop s row)

-- all of the row, and its ends
pub row-back : (s : ℕ) (row : List Group) (ends : List ℕ) → IsCutFrom s ends (length row) → row_of (cut_from s row ends) ≡ drop s row
row-back s row [] cut = sym (ap (λ n. drop n row) cut ∙ drop_all (length row) row (le_refl (length row)))
row-back s row (e ∷ es) cut =
    let past : s + (e - s) ≡ e = omega (arith, cut.0) in
    let rest : row_of (cut_from e row es) ≡ drop (e - s) (drop s row) = row-back e row es cut.1 ∙ sym (drop-drop (e - s) s row ∙ ap (λ n. drop n row) past) in
    ap (λ xs. part s e row ++ xs) rest ∙ take-append-drop (e - s) (drop s row)

pub ends-back : (s : ℕ) (row : List Group) (ends : List ℕ) → IsCutFrom s ends (length row) → ends_from s (cut_from s row ends) ≡ ends
ends-back s row [] cut = refl
ends-back s row (e ∷ es) cut =
    let here : s + length (part s e row) ≡ e = omega (arith, cut.0, length-part s e row (begins-within e es (length row) cut.1)) in
    ap (λ n. n ∷ ends_from n (cut_from e row es)) here ∙ ap (λ ns. e ∷ ns) (ends-back e row es cut.1)
