-- The choice of a chamber, from the last chamber to the first.
use Rattle.std.proofs.Common.{ℕ, suc, ◌≡◌, ◌<◌, ◌∙◌, ◌∷◌, List, length, drop, slice_index_or, Some, None, sym, ap}
use Rattle.std.specs.Prelude.{if◌then◌else◌}
use Rattle.std.proofs.Math.Seq.{drop-cons}
use Rattle.lock_model.specs.declared.instance.Instance.{Instance}
use Rattle.lock_rules.specs.Bound.{fits_alone}
use Rattle.lock_rules.specs.Singles.{Standing, earlier, choice_from, next_end}

-- chamber k before those from n = k + 1 on
pub choice_from-step : (I : Instance) (s k n : ℕ) (sts : List Standing) (st d : Standing) → suc k ≡ n → k < length sts → st ≡ slice_index_or sts k d
    → earlier (if fits_alone I s k then Some (k, next_end I s k st) else None) (choice_from I s n (drop n sts)) ≡ choice_from I s k (drop k sts)
choice_from-step I s k n sts st d next known is =
    let open_up : drop k sts ≡ st ∷ drop (suc k) sts = drop-cons sts k d known ∙ (λ i. sym is i ∷ drop (suc k) sts) in
    sym (ap (choice_from I s k) open_up ∙ (λ i. earlier (if fits_alone I s k then Some (k, next_end I s k st) else None) (choice_from I s (next i) (drop (next i) sts))))
