-- Labels stay open or treated as one is put to them, as one is closed, and as the goal falls; where none is open, the goal is swept.
use Rattle.std.proofs.Common.{◌≡◌, ◌≢◌, ℕ, ◌+◌, ◌<◌, ◌≤◌, ◌⊎◌, inl, inr, Bool, true, false, Option, Some, None, List, [], ◌∷◌, ◌++◌, length, sym, ap, ◌∙◌, subst, arith, slice_index_or, slice_set, length-append}
use Rattle.std.proofs.lemmas.Bool.Decides.{eqb_tells}
use Rattle.std.proofs.lemmas.List.{get_or-set_other, get_or_append_left, get_or-map, length-map, map-append}
use Rattle.std.proofs.Math.Seq.{get_or-append_seam}
use Rattle.lock_model.specs.declared.limits.TheConstants.{CHAMBERS}
use Rattle.lock_model.specs.declared.instance.Instance.{Instance}
use Rattle.price_rules.specs.Prices.{PlainCut}
use Rattle.sweep_rules.specs.Uncut.{IsSwept}
use Rattle.sweep_rules.specs.Label.{Label, IsFirstLabel}
use Rattle.sweep_rules.specs.Dominance.{ServesFor}
use Rattle.sweep_rules.specs.Treated.{no_label, label_at, IsMet, IsTreated}
use Rattle.sweep_rules.proofs.DominanceLemmas.{serves-itself}
use Rattle.sweep_rules.proofs.TreatedLemmas.{met-served, treated-served, treated-longer, treated-lower, treated-swept}
use Rattle.sweep_labels.specs.declared.label.KeptLabel.{KeptLabel}
use Rattle.sweep_labels.specs.Labels.{label_of}
use Rattle.sweep_labels.specs.Putting.{open_at, Outdoes, IsPut}
use Rattle.sweep_labels.specs.Sweeping.{labels_of, AreTreated}
use Rattle.sweep_labels.proofs.LabelLemmas.{dominates-serves}

-- the labels of the rules, place by place
pub label-at : (items : List KeptLabel) (k : ℕ) (d : KeptLabel) → k < length items → label_at (labels_of items) k ≡ label_of (slice_index_or items k d).label
label-at items k d within = get_or-map (λ (kept : KeptLabel). label_of kept.label) items k d no_label within

pub labels-length : (items : List KeptLabel) → length (labels_of items) ≡ length items
labels-length items = length-map items (λ (kept : KeptLabel). label_of kept.label)

pub labels-append : (items more : List KeptLabel) → labels_of (items ++ more) ≡ labels_of items ++ labels_of more
labels-append items more = map-append (λ (kept : KeptLabel). label_of kept.label) items more

apart : true ≡ false → ⊥
apart e = cc

module _ (I : Instance) (cuts : List PlainCut) (goal : ℕ) where
  few : length I.chambers ≤ CHAMBERS
  few = I.limits.chamber_count.1

  serves-in : (items : List KeptLabel) (k : ℕ) (l : KeptLabel) → k < length items → Outdoes (slice_index_or items k l) l → ServesFor I cuts (label_at (labels_of items) k) (label_of l.label)
  serves-in items k l within by = subst (λ a. ServesFor I cuts a (label_of l.label)) (sym (label-at items k l within)) (dominates-serves I cuts few (slice_index_or items k l).label l.label by)

  serves-out : (items : List KeptLabel) (k : ℕ) (l : KeptLabel) → k < length items → Outdoes l (slice_index_or items k l) → ServesFor I cuts (label_of l.label) (label_at (labels_of items) k)
  serves-out items k l within by = subst (ServesFor I cuts (label_of l.label)) (sym (label-at items k l within)) (dominates-serves I cuts few l.label (slice_index_or items k l).label by)

  pub last-label : (items : List KeptLabel) (l : KeptLabel) → label_at (labels_of (items ++ l ∷ [])) (length items) ≡ label_of l.label
  last-label items l = label-at (items ++ l ∷ []) (length items) l (omega (arith, length-append items (l ∷ []))) ∙ ap (λ (kept : KeptLabel). label_of kept.label) (get_or-append_seam items l [] l)

  -- A LABEL THAT WAS PUT IS MET.
  pub put-met : (l : KeptLabel) (items more : List KeptLabel) (was after : List Bool) (number : Option ℕ) → IsPut l items was more after number → IsMet I cuts goal (labels_of more) (label_of l.label)
  put-met l items more was after None put =
      let place = put.dominated.place in
      let within : place < length (labels_of items) = omega (arith, put.dominated.within, labels-length items) in
      subst (λ items. IsMet I cuts goal (labels_of items) (label_of l.label)) (sym put.same)
      (met-served I cuts goal (labels_of items) place within (label_of l.label) (serves-in items place l put.dominated.within put.dominated.by))
  put-met l items more was after (Some n) put =
      let longer = items ++ l ∷ [] in
      let within : length items < length (labels_of longer) = omega (arith, labels-length longer, length-append items (l ∷ [])) in
      subst (λ items. IsMet I cuts goal (labels_of items) (label_of l.label)) (sym put.1.longer)
      (met-served I cuts goal (labels_of longer) (length items) within (label_of l.label)
      (subst (λ a. ServesFor I cuts a (label_of l.label)) (sym (last-label items l)) (serves-itself I cuts (label_of l.label))))

  still-treated : (items : List KeptLabel) (l : KeptLabel) (k : ℕ) → k < length items → IsTreated I cuts goal (labels_of items) k → IsTreated I cuts goal (labels_of (items ++ l ∷ [])) k
  still-treated items l k within treated =
      subst (λ ls. IsTreated I cuts goal ls k) (sym (labels-append items (l ∷ [])))
      (treated-longer I cuts goal (labels_of items) (label_of l.label ∷ []) k (omega (arith, within, labels-length items)) treated)

  newly-treated : (items : List KeptLabel) (l : KeptLabel) (k : ℕ) → k < length items → Outdoes l (slice_index_or items k l) → IsTreated I cuts goal (labels_of (items ++ l ∷ [])) k
  newly-treated items l k within by =
      let longer = items ++ l ∷ [] in
      let here : k < length longer = omega (arith, within, length-append items (l ∷ [])) in
      let own : Outdoes l (slice_index_or longer k l) = subst (Outdoes l) (sym (get_or_append_left items (l ∷ []) l k within)) by in
      treated-served I cuts goal (labels_of longer) k (length items) within (omega (arith, labels-length longer, length-append items (l ∷ [])))
      (subst (λ a. ServesFor I cuts a (label_at (labels_of longer) k)) (sym (last-label items l)) (serves-out longer k l here own))

  added-treated : (l : KeptLabel) (items : List KeptLabel) (was after : List Bool) → ((k : ℕ) → k < length items → (open_at after k ≡ open_at was k) ⊎ Outdoes l (slice_index_or items k l)) → open_at after (length items) ≡ true
      → AreTreated I cuts goal items was → AreTreated I cuts goal (items ++ l ∷ []) after
  added-treated l items was after closed own are = record {
    each = λ k within. elim (eqb_tells k (length items)) [
      | inl y ↦ inl (ap (open_at after) y.1 ∙ own)
      | inr m ↦ old k (before k m.1 (omega (arith, within, length-append items (l ∷ []))))
    ];
  }
    where
      before : (k : ℕ) → k ≢ length items → k < length items + 1 → k < length items
      before k other less = omega arith

      old : (k : ℕ) → k < length items → (open_at after k ≡ true) ⊎ IsTreated I cuts goal (labels_of (items ++ l ∷ [])) k
      old k within = elim (closed k within) [
        | inl same ↦ elim (are.each k within) [ inl is ↦ inl (same ∙ is) | inr treated ↦ inr (still-treated items l k within treated) ]
        | inr by ↦ inr (newly-treated items l k within by)
      ]

  -- AND ALL LABELS STAY OPEN OR TREATED as one is put to them.
  pub put-treated : (l : KeptLabel) (items more : List KeptLabel) (was after : List Bool) (number : Option ℕ) → IsPut l items was more after number → AreTreated I cuts goal items was → AreTreated I cuts goal more after
  put-treated l items more was after None put are = subst (λ items. AreTreated I cuts goal items after) (sym put.same) (subst (AreTreated I cuts goal items) (sym put.flags) are)
  put-treated l items more was after (Some n) put are =
      subst (λ items. AreTreated I cuts goal items after) (sym put.1.longer) (added-treated l items was after put.1.each put.1.own are)

  -- as a treated one is closed,
  pub closed-treated : (items : List KeptLabel) (flags : List Bool) (n : ℕ) → IsTreated I cuts goal (labels_of items) n → AreTreated I cuts goal items flags → AreTreated I cuts goal items (slice_set flags n false)
  closed-treated items flags n own are = record {
    each = λ k within. elim (eqb_tells k n) [
      | inl y ↦ inr (subst (IsTreated I cuts goal (labels_of items)) (sym y.1) own)
      | inr m ↦ elim (are.each k within) [ inl is ↦ inl (get_or-set_other flags n k false false m.1 ∙ is) | inr treated ↦ inr treated ]
    ];
  }

  -- and as the goal falls.
  pub lower-treated : (items : List KeptLabel) (flags : List Bool) (less : ℕ) → less ≤ goal → AreTreated I cuts goal items flags → AreTreated I cuts less items flags
  lower-treated items flags less low are = record {
    each = λ k within. elim (are.each k within) [ inl is ↦ inl is | inr treated ↦ inr (treated-lower I cuts goal (labels_of items) k less low treated) ];
  }

  -- WHERE NO LABEL IS OPEN and a first label is met, the goal is swept.
  pub closed-swept : (items : List KeptLabel) (flags : List Bool) → AreTreated I cuts goal items flags → ((k : ℕ) → open_at flags k ≡ false) → (first : Label) → IsFirstLabel I cuts first → IsMet I cuts goal (labels_of items) first → IsSwept I cuts goal
  closed-swept items flags are closed first is met =
      treated-swept I cuts goal (labels_of items) (λ k within. elim (are.each k (omega (arith, within, labels-length items))) [
        | inl was ↦ absurd (apart (sym was ∙ closed k))
        | inr treated ↦ treated
      ]) first is met
