-- Counting marks one by one.
use Rattle.std.proofs.Common.{◌≡◌, ◌∙◌, ℕ, ◌+◌, ◌<◌, List, [], ◌∷◌, ◌++◌, length, take, filter, Bool, true, false, cond, sym, ap, ap₂, arith, slice_index_or}
use Rattle.std.proofs.lemmas.List.{take_more}
use Rattle.certificate_rules.specs.declared.certificate.Mark.{Mark}
use Rattle.resume_command.specs.Prior.{is_prior, prior_of}

prior-append : (xs ys : List Mark) → prior_of (xs ++ ys) ≡ prior_of xs + prior_of ys
prior-append [] ys = omega arith
prior-append (x ∷ xs) ys = go (is_prior x) (prior-append xs ys)
  where
    go : (t : Bool) → prior_of (xs ++ ys) ≡ prior_of xs + prior_of ys → length (cond t (x ∷ filter is_prior (xs ++ ys)) (filter is_prior (xs ++ ys))) ≡ length (cond t (x ∷ filter is_prior xs) (filter is_prior xs)) + prior_of ys
    go true e = omega (arith, e)
    go false e = e

-- one mark more
pub prior-more : (marks : List Mark) (i count more : ℕ) (d : Mark) → i < length marks → count ≡ prior_of (take i marks) → more ≡ prior_of (slice_index_or marks i d ∷ []) → count + more ≡ prior_of (take (i + 1) marks)
prior-more marks i count more d known before own =
    ap₂ (λ m n. m + n) before own ∙ sym (prior-append (take i marks) (slice_index_or marks i d ∷ [])) ∙ ap prior_of (sym (take_more marks i d known))
