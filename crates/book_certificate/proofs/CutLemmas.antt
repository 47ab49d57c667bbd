-- Copying the cuts of a book.
use Rattle.std.proofs.Common.{◌≡◌, ℕ, ◌+◌, ◌<◌, ◌≤◌, List, [], ◌∷◌, ◌++◌, inl, inr, length, map, take, sym, ap, ◌∙◌, subst, arith, Some, None, slice_get, slice_index_or}
use Rattle.std.proofs.lemmas.List.{take_more, take_all, length-append, map-append}
use Rattle.std.proofs.lemmas.Option.{slice_get_within, slice_get_cases, get_or_from_slice_get, none-some}
use Rattle.refute_rules.specs.Cuts.{Cut}
use Rattle.closing_rules.specs.ProvedCuts.{CertCut}
use Rattle.book_certificate.specs.Certified.{cert_cut}

-- one more cut is copied
pub more-copied : (cuts : List Cut) (old new : List CertCut) (number : ℕ) (cut : Cut) (copy : CertCut) → number ≡ length old → slice_get cuts number ≡ Some cut → copy ≡ cert_cut cut → new ≡ old ++ copy ∷ []
    → old ≡ map cert_cut (take (length old) cuts) → new ≡ map cert_cut (take (length new) cuts)
more-copied cuts old new number cut copy count there same grown done =
    let known : length old < length cuts = subst (λ n. n < length cuts) count (slice_get_within cuts number cut there) in
    let is : slice_index_or cuts (length old) cut ≡ cut = get_or_from_slice_get cuts (length old) cut cut (subst (λ n. slice_get cuts n ≡ Some cut) count there) in
    let long : length new ≡ length old + 1 = ap length grown ∙ length-append old (copy ∷ []) in
    grown
    ∙ ap (λ xs. xs ++ copy ∷ []) done
    ∙ ap (λ c. map cert_cut (take (length old) cuts) ++ c ∷ []) (same ∙ ap cert_cut (sym is))
    ∙ sym (map-append cert_cut (take (length old) cuts) (slice_index_or cuts (length old) cut ∷ []))
    ∙ ap (map cert_cut) (sym (take_more cuts (length old) cut known))
    ∙ ap (λ n. map cert_cut (take n cuts)) (sym long)

cut-past : (cuts : List Cut) (number : ℕ) → slice_get cuts number ≡ None → length cuts ≤ number
cut-past cuts number none =
    elim (slice_get_cases cuts number).1 [
      | inl there ↦ absurd (none-some there.0 (sym none ∙ there.2))
      | inr past ↦ past.0
    ]

-- all cuts are copied
pub all-copied : (cuts : List Cut) (copies : List CertCut) (number : ℕ) → number ≡ length copies → slice_get cuts number ≡ None → copies ≡ map cert_cut (take (length copies) cuts) → copies ≡ map cert_cut cuts
all-copied cuts copies number count none done =
    let past = cut-past cuts number none in
    done ∙ ap (map cert_cut) (take_all (length copies) cuts (omega (arith, count, past)))

pub few-cuts : (cuts : List Cut) (number limit : ℕ) → number < limit → slice_get cuts number ≡ None → length cuts < limit
few-cuts cuts number limit small none = let past = cut-past cuts number none in omega (arith, small, past)
