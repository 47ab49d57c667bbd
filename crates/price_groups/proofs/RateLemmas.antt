-- What ships count, listed ship by ship.
use Rattle.std.proofs.Common.{◌≡◌, ℕ, ◌+◌, ◌<◌, ◌≤◌, inl, inr, List, [], ◌∷◌, ◌++◌, refl, sym, ap, ◌∙◌, arith, slice_index_or}
use Rattle.std.proofs.Math.Seq.{get_or-append_seam}
use Rattle.std.proofs.lemmas.Bool.Decides.{eqb_tells, leb_tells}
use Rattle.std.proofs.lemmas.List.{get_or_append_left, length-append}
use Rattle.std.proofs.lemmas.List.Elements.{All-nil, All-push}
use Rattle.lock_model.specs.declared.instance.Instance.{Instance}
use Rattle.price_rules.specs.Prices.{PriceList}
use Rattle.price_groups.specs.Sums.{rate_of, AreRates}

module _ (I : Instance) (k : ℕ) (prices : PriceList) where
  pub rates-first : AreRates I k prices 0 []
  rates-first = record { count = refl; each = λ s d none. absurd (omega (arith, none)); small = All-nil (λ r. r ≤ 101000000) }

  pub rates-next : (n r : ℕ) (old : List ℕ) → r ≡ rate_of I k prices n → r ≤ 101000000 → AreRates I k prices n old → AreRates I k prices (n + 1) (old ++ r ∷ [])
  rates-next n r old is small are = record {
    count = omega (arith, are.count, length-append old (r ∷ []));
    each = λ s d less. elim (eqb_tells s n) [
      | inl y ↦ ap (λ i. slice_index_or (old ++ r ∷ []) i d) (y.1 ∙ sym are.count) ∙ get_or-append_seam old r [] d ∙ is ∙ ap (rate_of I k prices) (sym y.1)
      | inr m ↦
          let before : s < n = elim (leb_tells (1 + s) n) [ inl y ↦ omega (arith, y.1) | inr q ↦ absurd (m.1 (omega (arith, less, q.1))) ] in
          get_or_append_left old (r ∷ []) d s (omega (arith, are.count, before)) ∙ are.each s d before
    ];
    small = All-push (λ r. r ≤ 101000000) old r are.small small;
  }
