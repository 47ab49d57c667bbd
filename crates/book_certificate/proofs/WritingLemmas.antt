-- Writing the marks of a slot, at once or child by child.
use Rattle.std.proofs.Common.{◌≡◌, ℕ, zero, suc, ◌+◌, ◌-◌, ◌<◌, List, [], ◌∷◌, ◌++◌, refl, sym, ap, ◌∙◌, subst, arith, length, map, false}
use Rattle.std.specs.List.{range_with_len, flat_map}
use Rattle.std.proofs.lemmas.List.{append_assoc, append-nil, map-append}
use Rattle.std.proofs.lemmas.Grind.{flat_map-append}
use Rattle.book_rules.specs.declared.book.SlotState.{SlotState}
use Rattle.book_rules.specs.declared.book.SlotState.TheVariants as slot
use Rattle.certificate_rules.specs.declared.certificate.Mark.{Mark}
use Rattle.book_rules.specs.Book.{Book, slot_at}
use Rattle.lock_rules.specs.Node.{Node, root}
use Rattle.book_rules.specs.Family.{child_count}
use Rattle.book_rules.specs.NextSlot.{is_split}
use Rattle.certificate_rules.proofs.TreeLemmas.{lacks-one}
use Rattle.book_certificate.specs.Preorder.{mark_at, children_slots, preorder, slots_in_order}
use Rattle.book_certificate.specs.Writing.{lacking_at, AppendsMarks, AppendsChildMarks}

range-more : (a n : ℕ) → range_with_len a (suc n) ≡ range_with_len a n ++ (a + n) ∷ []
range-more a zero = let e : a ≡ a + 0 = omega arith in ap (λ k. k ∷ []) e
range-more a (suc n) =
    let e : a + 1 + n ≡ a + suc n = omega arith in
    ap (λ xs. a ∷ xs) (range-more (a + 1) n ∙ ap (λ k. range_with_len (a + 1) n ++ k ∷ []) e)

leaf-alone : (b : Book) (lacking id : ℕ) (state : SlotState) → (slot_at b id).state ≡ state → is_split state ≡ false → preorder b lacking id ≡ id ∷ []
leaf-alone b zero id state is whole = refl
leaf-alone b (suc lacking) id state is whole = ap (λ kids. id ∷ flat_map (preorder b lacking) kids) (ap (children_slots b id) is ∙ none state whole)
  where
    none : (s : SlotState) → is_split s ≡ false → children_slots b id s ≡ []
    none (slot.Split first) e = absurd cc
    none _ e = refl

-- the mark of a slot that isn't split
pub leaf-written : (b : Book) (id : ℕ) (old new : List Mark) → is_split (slot_at b id).state ≡ false → new ≡ old ++ mark_at b id ∷ [] → AppendsMarks b id old new
leaf-written b id old new whole grown = record {
  grown = grown ∙ ap (λ ids. old ++ map (mark_at b) ids) (sym (leaf-alone b (lacking_at b id) id (slot_at b id).state refl whole));
}

-- the marks of one child more
pub more-written : (b : Book) (id first n more child : ℕ) (old mid new : List Mark) → more ≡ suc n → child ≡ first + n → (slot_at b child).node.depth ≡ suc (slot_at b id).node.depth
    → AppendsChildMarks b id first n old mid → AppendsMarks b child mid new → AppendsChildMarks b id first more old new
more-written b id first n more child old mid new more_is child_is deep before own =
    subst (λ k. AppendsChildMarks b id first k old new) (sym more_is)
    (record {
      grown =
          own.grown ∙ ap (λ ms. ms ++ map (mark_at b) (preorder b (lacking_at b child) child)) before.grown
          ∙ append_assoc old (map (mark_at b) (flat_map f (range_with_len first n))) (map (mark_at b) (preorder b (lacking_at b child) child))
          ∙ ap (λ ms. old ++ ms)
          (ap (λ d. map (mark_at b) (flat_map f (range_with_len first n)) ++ map (mark_at b) (preorder b (length b.case.instance.ships - d) child)) deep
          ∙ ap (λ c. map (mark_at b) (flat_map f (range_with_len first n)) ++ map (mark_at b) (f c)) child_is
          ∙ ap (λ ids. map (mark_at b) (flat_map f (range_with_len first n)) ++ map (mark_at b) ids) (sym (append-nil (f (first + n))))
          ∙ sym (map-append (mark_at b) (flat_map f (range_with_len first n)) (flat_map f ((first + n) ∷ [])))
          ∙ ap (map (mark_at b)) (sym (flat_map-append f (range_with_len first n) ((first + n) ∷ [])) ∙ ap (flat_map f) (sym (range-more first n))));
    })
  where
    f : ℕ → List ℕ
    f = preorder b (length b.case.instance.ships - suc (slot_at b id).node.depth)

-- the mark of a split, and the marks of all children
pub split-written : (b : Book) (id first n : ℕ) (old front new : List Mark) → (slot_at b id).state ≡ slot.Split first → (slot_at b id).node.depth < length b.case.instance.ships → front ≡ old ++ mark_at b id ∷ []
    → n ≡ child_count b.case.instance (slot_at b id).node → AppendsChildMarks b id first n front new → AppendsMarks b id old new
split-written b id first n old front new split lacks front_is all h = record {
  grown =
      h.grown ∙ ap (λ ms. ms ++ map (mark_at b) (flat_map f (range_with_len first n))) front_is ∙ append_assoc old (mark_at b id ∷ []) (map (mark_at b) (flat_map f (range_with_len first n)))
      ∙ ap (λ ms. old ++ mark_at b id ∷ ms) (ap (λ k. map (mark_at b) (flat_map f (range_with_len first k))) all ∙ ap (λ s. map (mark_at b) (flat_map f (children_slots b id s))) (sym split))
      ∙ ap (λ k. old ++ map (mark_at b) (preorder b k id)) (sym (lacks-one (length b.case.instance.ships) (slot_at b id).node.depth lacks));
}
  where
    f : ℕ → List ℕ
    f = preorder b (length b.case.instance.ships - suc (slot_at b id).node.depth)

-- the marks of all slots, where there were none before
pub all-written : (b : Book) (old marks : List Mark) → (slot_at b 0).node ≡ root → old ≡ [] → AppendsMarks b 0 old marks → marks ≡ map (mark_at b) (slots_in_order b)
all-written b old marks root_is none h =
    let depth : (slot_at b 0).node.depth ≡ 0 = ap (λ (n : Node). n.depth) root_is in
    let whole : length b.case.instance.ships - (slot_at b 0).node.depth ≡ length b.case.instance.ships = omega (arith, depth) in
    h.grown ∙ ap (λ ms. ms ++ map (mark_at b) (preorder b (lacking_at b 0) 0)) none ∙ ap (λ k. map (mark_at b) (preorder b k 0)) whole
