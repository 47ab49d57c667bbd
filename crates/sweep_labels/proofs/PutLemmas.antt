-- Labels that are closed, and labels that are appended.
use Rattle.std.proofs.Common.{◌≡◌, ℕ, ◌+◌, ◌<◌, inl, inr, Bool, true, false, List, [], ◌∷◌, ◌++◌, length, refl, sym, ap, ◌∙◌, subst, arith, slice_index_or, slice_set, length-append}
use Rattle.std.proofs.lemmas.Bool.Decides.{eqb_tells}
use Rattle.std.proofs.lemmas.List.{get_or_append_left}
use Rattle.std.proofs.Math.Seq.{get_or-append_seam}
use Rattle.std.proofs.lemmas.List.{length-set, get_or-set_other}
use Rattle.sweep_labels.specs.declared.label.KeptLabel.{KeptLabel}
use Rattle.sweep_labels.specs.Putting.{open_at, Outdoes, AreClosedBy, IsAdded}

module _ (items : List KeptLabel) (l : KeptLabel) where
  pub closed-none : (flags : List Bool) → AreClosedBy items l flags flags
  closed-none flags = record { level = refl; each = λ k within. inl refl }

  pub closed-more : (a b c : List Bool) → AreClosedBy items l a b → AreClosedBy items l b c → AreClosedBy items l a c
  closed-more a b c first second = record {
    level = second.level ∙ first.level;
    each = λ k within. elim (second.each k within) [
      | inl same ↦ elim (first.each k within) [ inl before ↦ inl (same ∙ before) | inr own ↦ inr own ]
      | inr own ↦ inr own
    ];
  }

  pub closed-one : (flags : List Bool) (n : ℕ) → n < length items → Outdoes l (slice_index_or items n l) → AreClosedBy items l flags (slice_set flags n false)
  closed-one flags n within own = record {
    level = length-set flags n false;
    each = λ k known. elim (eqb_tells k n) [
      | inl y ↦ inr (subst (λ k. Outdoes l (slice_index_or items k l)) (sym y.1) own)
      | inr m ↦ inl (get_or-set_other flags n k false false m.1)
    ];
  }

  -- the label is appended to those that are left open
  pub added : (was after : List Bool) → length was ≡ length items → AreClosedBy items l was after → IsAdded l items was (items ++ l ∷ []) (after ++ true ∷ [])
  added was after level closed = record {
    longer = refl;
    level = length-append after (true ∷ []) ∙ ap (λ n. n + 1) (closed.level ∙ level) ∙ sym (length-append items (l ∷ []));
    own = ap (open_at (after ++ true ∷ [])) (sym (closed.level ∙ level)) ∙ get_or-append_seam after true [] false;
    each = λ k within. elim (closed.each k within) [
      | inl same ↦ inl (get_or_append_left after (true ∷ []) false k (omega (arith, within, closed.level, level)) ∙ same)
      | inr own ↦ inr own
    ];
  }
