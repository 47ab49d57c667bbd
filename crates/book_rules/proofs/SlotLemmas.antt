-- What the choices of a book find, and what its lists hold after a change.
use Rattle.std.proofs.Common.{◌≡◌, ℕ, zero, suc, ◌+◌, ◌<◌, ◌≤◌, List, [], ◌∷◌, length, inl, inr, refl, sym, ap, ◌∙◌, subst, arith, Bool, true, false, not, cond, ◌&&◌, Some, None, slice_index_or, nat_eq, nat_lt, true≢false}
use Rattle.std.proofs.lemmas.Bool.{and_parts}
use Rattle.std.proofs.lemmas.Option.{none-some, same_Some}
use Rattle.std.specs.declared.option.Option.{Option}
use Rattle.std.specs.List.{position_or_len}
use Rattle.std.proofs.lemmas.Bool.Decides.{leb_tells, eqb_tells}
use Rattle.std.proofs.lemmas.List.Quantifiers.{position-Some}
use Rattle.list_laws.specs.Among.{IsAmong}
use Rattle.book_rules.specs.declared.book.SlotState.{SlotState}
use Rattle.book_rules.specs.declared.book.SlotState.TheVariants as slot
use Rattle.book_rules.specs.Book.{Slot, Book, no_slot, slot_at, first_slot, is_fresh, is_back, is_held, is_held_by}
use Rattle.book_rules.specs.NextSlot.{keep_better, first_best, numbers_where, fresh_children, waiting_splits, least_fresh, next_fresh, first_child}

-- slot id is there, and in this state
pub record IsAt (b : Book) (id : ℕ) (state : SlotState) : Type 0 where
  pub known : id < length b.slots
  pub is : (slot_at b id).state ≡ state

-- ---- states by their tests

pub fresh-is : (s : SlotState) → is_fresh s ≡ true → s ≡ slot.Fresh
fresh-is slot.Fresh e = refl
fresh-is _ e = absurd (true≢false (sym e))

pub back-is : (s : SlotState) → is_back s ≡ true → s ≡ slot.Back
back-is slot.Back e = refl
back-is _ e = absurd (true≢false (sym e))

pub held-is : (s : SlotState) → is_held s ≡ true → (w : ℕ) × (s ≡ slot.Held w)
held-is (slot.Held w) e = (w, refl)
held-is _ e = absurd (true≢false (sym e))

pub held_by-is : (w : ℕ) (s : SlotState) → is_held_by w s ≡ true → s ≡ slot.Held w
held_by-is w (slot.Held v) e =
    elim (eqb_tells v w) [
      | inl y ↦ ap (λ u. slot.Held u) y.1
      | inr n ↦ absurd (true≢false (sym e ∙ n.0))
    ]
held_by-is w _ e = absurd (true≢false (sym e))

pub held_by-itself : (w : ℕ) → is_held_by w (slot.Held w) ≡ true
held_by-itself w = elim (eqb_tells w w) [ inl y ↦ y.0 | inr n ↦ absurd (n.1 refl) ]

-- ---- the first slot in such a state

pub first_slot-at : (b : Book) (test : SlotState → Bool) (id : ℕ) → first_slot b test ≡ Some id → (id < length b.slots) × (test (slot_at b id).state ≡ true)
first_slot-at b test id e = let found = position-Some (λ (s : Slot). test s.state) b.slots id no_slot e in (found.0, found.1)

-- where the first one doesn't pass and what follows doesn't
past-step : (p : Slot → Bool) (x : Slot) (xs : List Slot) (t : Bool) → p x ≡ t → (length xs ≤ position_or_len p xs → (k : ℕ) → k < length xs → p (slice_index_or xs k no_slot) ≡ false)
    → length (x ∷ xs) ≤ cond (not t) (1 + position_or_len p xs) 0 → (k : ℕ) → k < length (x ∷ xs) → p (slice_index_or (x ∷ xs) k no_slot) ≡ false
past-step p x xs true e rest h k known = absurd (omega (arith, h))
past-step p x xs false e rest h zero known = e
past-step p x xs false e rest h (suc k) known = rest (omega (arith, h)) k (omega (arith, known))

position-past : (p : Slot → Bool) (xs : List Slot) → length xs ≤ position_or_len p xs → (k : ℕ) → k < length xs → p (slice_index_or xs k no_slot) ≡ false
position-past p [] h k known = absurd (omega (arith, known))
position-past p (x ∷ xs) h k known = past-step p x xs (p x) refl (λ g. position-past p xs g) h k known

pub first_slot-none : (b : Book) (test : SlotState → Bool) → first_slot b test ≡ None → (id : ℕ) → id < length b.slots → test (slot_at b id).state ≡ false
first_slot-none b test e id known =
    let p : Slot → Bool = λ (s : Slot). test s.state in
    elim (leb_tells (suc (position_or_len p b.slots)) (length b.slots)) [
      | inl y ↦ absurd (none-some (position_or_len p b.slots) (sym e ∙ ap (λ t. cond t (Some (position_or_len p b.slots)) None) y.0))
      | inr n ↦ position-past p b.slots (omega (arith, n.1)) id known
    ]

-- ---- the next Fresh slot

-- a number that passes, from `low` on
abbrev Passes : (Slot → Bool) → ℕ → List Slot → ℕ → Type 0
Passes test low xs id = (k : ℕ) × (id ≡ low + k) × (k < length xs) × (test (slice_index_or xs k no_slot) ≡ true)

among-where-step : (test : Slot → Bool) (low : ℕ) (x : Slot) (xs : List Slot) (id : ℕ) (t : Bool) → test x ≡ t → (IsAmong (numbers_where test (suc low) xs) id → Passes test (suc low) xs id)
    → IsAmong (cond t (low ∷ numbers_where test (suc low) xs) (numbers_where test (suc low) xs)) id → Passes test low (x ∷ xs) id
among-where-step test low x xs id true e rest (inl same) = (0, omega (arith, same), omega arith, e)
among-where-step test low x xs id true e rest (inr h) = let r = rest h in (suc r.0, omega (arith, r.1), omega (arith, r.2), r.3)
among-where-step test low x xs id false e rest h = let r = rest h in (suc r.0, omega (arith, r.1), omega (arith, r.2), r.3)

pub among-where : (test : Slot → Bool) (low : ℕ) (xs : List Slot) (id : ℕ) → IsAmong (numbers_where test low xs) id → Passes test low xs id
among-where test low [] id h = absurd h
among-where test low (x ∷ xs) id h = among-where-step test low x xs id (test x) refl (λ g. among-where test (suc low) xs id g) h

-- of some numbers, the first that no other one beats is one
pub best-among : (beats : ℕ → ℕ → Bool) (ns : List ℕ) (n : ℕ) → first_best beats ns ≡ Some n → IsAmong ns n
best-among beats [] n e = absurd (none-some n e)
best-among beats (a ∷ ns) n e = by_rest (first_best beats ns) (λ m f. best-among beats ns m f) e
  where
    by_rest : (o : Option ℕ) → ((m : ℕ) → o ≡ Some m → IsAmong ns m) → keep_better beats a o ≡ Some n → IsAmong (a ∷ ns) n
    by_rest None rest f = inl (same_Some a n f)
    by_rest (Some c) rest f = by_test (beats c a) f
      where
        by_test : (t : Bool) → cond t (Some c) (Some a) ≡ Some n → IsAmong (a ∷ ns) n
        by_test true g = inr (subst (IsAmong ns) (same_Some c n g) (rest c refl))
        by_test false g = inl (same_Some a n g)

-- a slot of a lower bound beats another, and so does a split of a later first child
abbrev pub lower : Book → ℕ → ℕ → Bool
lower b c a = nat_lt (slot_at b c).bound (slot_at b a).bound

abbrev pub later : Book → ℕ → ℕ → Bool
later b c a = nat_lt (first_child (slot_at b a).state) (first_child (slot_at b c).state)

-- the next Fresh slot where the root isn't Fresh
abbrev pub below_root : Book → Option ℕ
below_root b = least_fresh b (first_best (later b) (waiting_splits b))

-- what is the least Fresh child of some split is there and Fresh
least_fresh-at : (b : Book) (o : Option ℕ) (id : ℕ) → least_fresh b o ≡ Some id → IsAt b id slot.Fresh
least_fresh-at b None id e = absurd (none-some id e)
least_fresh-at b (Some split) id e =
    let at = among-where (λ s. is_fresh s.state && nat_eq s.parent split) 0 b.slots id (best-among (lower b) (fresh_children b split) id e) in
    let same : at.0 ≡ id = omega (arith, at.1) in
    record {
      known = omega (arith, at.1, at.2);
      is = subst (λ k. (slot_at b k).state ≡ slot.Fresh) same (fresh-is (slot_at b at.0).state ((and_parts (is_fresh (slot_at b at.0).state) (nat_eq (slot_at b at.0).parent split) at.3).0));
    }

pub fresh-known : (xs : List Slot) (id : ℕ) → is_fresh (slice_index_or xs id no_slot).state ≡ true → id < length xs
fresh-known [] id e = absurd (true≢false (sym e))
fresh-known (x ∷ xs) zero e = omega arith
fresh-known (x ∷ xs) (suc id) e = let rest = fresh-known xs id e in omega (arith, rest)

-- the next Fresh slot is there and Fresh
pub next_fresh-at : (b : Book) (id : ℕ) → next_fresh b ≡ Some id → IsAt b id slot.Fresh
next_fresh-at b id e = by_root (is_fresh (slot_at b 0).state) refl e
  where
    by_root : (t : Bool) → is_fresh (slot_at b 0).state ≡ t → cond t (Some 0) (below_root b) ≡ Some id → IsAt b id slot.Fresh
    by_root true f g =
        let here : IsAt b 0 slot.Fresh = record { known = fresh-known b.slots 0 f; is = fresh-is (slot_at b 0).state f } in
        subst (λ k. IsAt b k slot.Fresh) (same_Some 0 id g) here
    by_root false f g = least_fresh-at b (first_best (later b) (waiting_splits b)) id g
