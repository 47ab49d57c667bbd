-- The marks of a book's slots are one tree, in whatever way the marks of those that aren't split end their nodes.
use Rattle.std.proofs.Common.{◌≡◌, ℕ, zero, suc, ◌+◌, ◌<◌, List, [], ◌∷◌, ◌++◌, inl, inr, ◌⊎◌, length, map, refl, sym, ap, ◌∙◌, subst, arith, slice_index_or, Some, None}
use Rattle.std.specs.declared.option.Option.{Option}
use Rattle.std.specs.List.{range_with_len, flat_map}
use Rattle.std.proofs.lemmas.List.{append_assoc, map-append}
use Rattle.lock_model.specs.declared.instance.Instance.{Instance}
use Rattle.lock_model.specs.declared.group.Group.{Group}
use Rattle.lock_rules.specs.Node.{Node, root_lines}
use Rattle.lock_rules.specs.Children.{children_of}
use Rattle.refute_rules.specs.Trees.{AreInOrder}
use Rattle.book_rules.specs.declared.book.ShownLow.{ShownLow}
use Rattle.book_rules.specs.declared.book.SlotState.{SlotState}
use Rattle.book_rules.specs.declared.book.SlotState.TheVariants as slot
use Rattle.certificate_rules.specs.declared.certificate.Mark.{Mark}
use Rattle.certificate_rules.specs.declared.certificate.Mark.TheVariants as mark
use Rattle.book_rules.specs.Book.{Book, slot_at}
use Rattle.book_rules.specs.Family.{HasChildren, KeepsFamily}
use Rattle.certificate_rules.specs.Certificates.{IsMarkTree}
use Rattle.book_certificate.specs.Preorder.{open_mark, mark_of, mark_at, children_slots, preorder}

-- ---- what is written of numbers in a row

abbrev pub marks_with : Book → List ℕ → List Mark → List Mark
marks_with b ids rest = map (mark_at b) ids ++ rest

marks-append : (b : Book) (xs ys : List ℕ) (rest : List Mark) → marks_with b (xs ++ ys) rest ≡ marks_with b xs (marks_with b ys rest)
marks-append b xs ys rest = ap (λ ms. ms ++ rest) (map-append (mark_at b) xs ys) ∙ append_assoc (map (mark_at b) xs) (map (mark_at b) ys) rest

-- trees of things in a row, of each as of its number
trees-in_order : (b : Book) (Tree : List (List Group) → List Mark → List Mark → Type 0) (f : ℕ → List ℕ) (xs : List (List (List Group))) (first : ℕ)
    → ((k : ℕ) → k < length xs → (rest : List Mark) → Tree (slice_index_or xs k root_lines) (marks_with b (f (first + k)) rest) rest)
    → (rest : List Mark) → AreInOrder Tree xs (marks_with b (flat_map f (range_with_len first (length xs))) rest) rest
trees-in_order b Tree f [] first each rest = refl
trees-in_order b Tree f (x ∷ xs) first each rest =
    let here : first + 0 ≡ first = omega arith in
    let more = flat_map f (range_with_len (first + 1) (length xs)) in
    subst (λ ms. AreInOrder Tree (x ∷ xs) ms rest) (sym (marks-append b (f first) more rest)) (
      marks_with b more rest,
      subst (λ n. Tree x (marks_with b (f n) (marks_with b more rest)) (marks_with b more rest)) here (each 0 (omega arith) (marks_with b more rest)),
      trees-in_order b Tree f xs (first + 1) (λ k known r. let next : first + suc k ≡ first + 1 + k = omega arith in subst (λ n. Tree (slice_index_or xs k root_lines) (marks_with b (f n) r) r) next (each (suc k) (omega (arith, known)) r)) rest,
    )

open-unsplit : (shown : Option ShownLow) → open_mark shown ≡ mark.Split → ⊥
open-unsplit None e = cc
open-unsplit (Some low) e = cc

-- a slot is split, or its mark is no split mark and it has no children
record IsWhole (b : Book) (id : ℕ) : Type 0 where
  other : mark_at b id ≡ mark.Split → ⊥
  none : children_slots b id (slot_at b id).state ≡ []

by-state : (b : Book) (id : ℕ) → IsWhole b id ⊎ ((first : ℕ) × ((slot_at b id).state ≡ slot.Split first))
by-state b id = go (slot_at b id).state refl
  where
    shown : Option ShownLow
    shown = (slot_at b id).shown

    whole : (s : SlotState) → (slot_at b id).state ≡ s → (mark_of shown s ≡ mark.Split → ⊥) → children_slots b id s ≡ [] → IsWhole b id
    whole s is unlike none = record { other = λ e. unlike (sym (ap (mark_of shown) is) ∙ e); none = ap (children_slots b id) is ∙ none }

    go : (s : SlotState) → (slot_at b id).state ≡ s → IsWhole b id ⊎ ((first : ℕ) × ((slot_at b id).state ≡ slot.Split first))
    go slot.Fresh is = inl (whole slot.Fresh is (open-unsplit shown) refl)
    go slot.Back is = inl (whole slot.Back is (open-unsplit shown) refl)
    go (slot.Held w) is = inl (whole (slot.Held w) is (open-unsplit shown) refl)
    go (slot.Parked c p) is = inl (whole (slot.Parked c p) is (open-unsplit shown) refl)
    go (slot.Split first) is = inr (first, is)
    go (slot.Closed why) is = inl (whole (slot.Closed why) is (λ e. absurd cc) refl)

-- the mark of each slot that isn't split ends its node in this way
pub record EndSlots (b : Book) (Ends : ℕ → List (List Group) → Mark → Type 0) : Type 0 where
  pub slot : (id : ℕ) → id < length b.slots → (mark_at b id ≡ mark.Split → ⊥) → Ends (slot_at b id).node.depth (slot_at b id).node.lines (mark_at b id)

module _ (b : Book) (family : KeepsFamily b) (Ends : ℕ → List (List Group) → Mark → Type 0) (ends : EndSlots b Ends) where
  abbrev I : Instance
  I = b.case.instance

  -- what is read of a slot
  abbrev TreeOf : ℕ → ℕ → List (List Group) → List Mark → List Mark → Type 0
  TreeOf = IsMarkTree I Ends

  pub slot-tree : (lacking id : ℕ) → lacking + (slot_at b id).node.depth ≡ length I.ships → id < length b.slots → (rest : List Mark) → TreeOf lacking (slot_at b id).node.depth (slot_at b id).node.lines (marks_with b (preorder b lacking id) rest) rest
  slot-tree zero id count known rest =
      elim (by-state b id) [
        | inl whole ↦ (mark_at b id, ends.slot id known whole.other, refl)
        | inr s ↦ let lacks = (family.children id s.0 s.1).lacks in absurd (omega (arith, lacks, count))
      ]
  slot-tree (suc lacking) id count known rest =
      elim (by-state b id) [
        | inl whole ↦
            subst (λ kids. TreeOf (suc lacking) (slot_at b id).node.depth (slot_at b id).node.lines (mark_at b id ∷ marks_with b (flat_map (preorder b lacking) kids) rest) rest) (sym whole.none)
            (inl (mark_at b id, ends.slot id known whole.other, refl))
        | inr s ↦
            let node = (slot_at b id).node in
            let kids : HasChildren b id s.0 = family.children id s.0 s.1 in
            inr (
              marks_with b (flat_map (preorder b lacking) (children_slots b id (slot_at b id).state)) rest,
              ap (λ m. m ∷ marks_with b (flat_map (preorder b lacking) (children_slots b id (slot_at b id).state)) rest) (ap (mark_of (slot_at b id).shown) s.1),
              subst (λ t. AreInOrder (TreeOf lacking (suc node.depth)) (children_of I node.depth node.lines) (marks_with b (flat_map (preorder b lacking) (children_slots b id t)) rest) rest) (sym s.1)
                  (trees-in_order b (TreeOf lacking (suc node.depth)) (preorder b lacking) (children_of I node.depth node.lines) s.0
                  (λ k within r.
                  let own = kids.child k within in
                  let deep = ap (λ (n : Node). n.depth) own.node_is in
                  subst (λ (n : Node). TreeOf lacking n.depth n.lines (marks_with b (preorder b lacking (s.0 + k)) r) r) own.node_is (slot-tree lacking (s.0 + k) (omega (arith, deep, count)) own.known r))
                  rest),
            )
      ]
