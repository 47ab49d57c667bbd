-- The next cut of a book becomes known.
use Rattle.std.proofs.Common.{◌≡◌, ℕ, suc, zero, ◌<◌, ◌-◌, List, [], ◌∷◌, ◌++◌, length, map, drop, refl, sym, ap, ◌∙◌, arith, Some, None, slice_get}
use Rattle.std.proofs.lemmas.List.{append-nil, append_assoc, length-append}
use Rattle.std.proofs.lemmas.Option.{slice_get_within, same_Some, none-some}
use Rattle.list_laws.proofs.Variants.{some-not_none}
use Rattle.refute_rules.specs.Cuts.{Cut}
use Rattle.price_terms.specs.declared.cut.ChamberCut.{ChamberCut}
use Rattle.book_core.specs.Telling.{bare_cut}

-- what is known, with all that comes after it
abbrev pub whole : List ChamberCut → List Cut → List ChamberCut
whole known cuts = known ++ map bare_cut (drop (length known) cuts)

-- what is left to be learned
abbrev pub left : List ChamberCut → List Cut → ℕ
left known cuts = length cuts - length known

next-drop : (cuts : List Cut) (n : ℕ) (cut : Cut) → slice_get cuts n ≡ Some cut → drop n cuts ≡ cut ∷ drop (suc n) cuts
next-drop [] n cut at = absurd (none-some cut at)
next-drop (c ∷ cs) zero cut at = ap (λ x. x ∷ cs) (same_Some c cut at)
next-drop (c ∷ cs) (suc n) cut at = next-drop cs n cut at

last-drop : (cuts : List Cut) (n : ℕ) → slice_get cuts n ≡ None → drop n cuts ≡ []
last-drop [] zero at = refl
last-drop [] (suc n) at = refl
last-drop (c ∷ cs) zero at = absurd (some-not_none c at)
last-drop (c ∷ cs) (suc n) at = last-drop cs n at

module _ (known new : List ChamberCut) (cuts : List Cut) (cut : Cut) (at : slice_get cuts (length known) ≡ Some cut) (is : new ≡ known ++ bare_cut cut ∷ []) where
  long : length new ≡ suc (length known)
  long = ap length is ∙ length-append known (bare_cut cut ∷ []) ∙ omega (arith)

  grown : known ++ map bare_cut (drop (length known) cuts) ≡ (known ++ bare_cut cut ∷ []) ++ map bare_cut (drop (suc (length known)) cuts)
  grown = ap (λ cs. known ++ map bare_cut cs) (next-drop cuts (length known) cut at) ∙ sym (append_assoc known (bare_cut cut ∷ []) (map bare_cut (drop (suc (length known)) cuts)))

  -- the next cut was appended
  pub one_more : (all : List ChamberCut) → whole known cuts ≡ all → whole new cuts ≡ all
  one_more all before = ap (λ n. new ++ map bare_cut (drop n cuts)) long ∙ ap (λ xs. xs ++ map bare_cut (drop (suc (length known)) cuts)) is ∙ sym grown ∙ before

  pub one_fewer : left new cuts < left known cuts
  one_fewer = let within = slice_get_within cuts (length known) cut at in omega (arith, long, within)

-- there is no next one
pub no_more : (known : List ChamberCut) (cuts : List Cut) (all : List ChamberCut) → slice_get cuts (length known) ≡ None → whole known cuts ≡ all → known ≡ all
no_more known cuts all at before = sym (ap (λ cs. known ++ map bare_cut cs) (last-drop cuts (length known) at) ∙ append-nil known) ∙ before
