-- The list of Back slots.
use Rattle.std.proofs.Common.{◌≡◌, ◌≢◌, ℕ, suc, ◌<◌, ◌≤◌, List, [], ◌∷◌, length, refl, sym, ap, ◌∙◌, subst, arith, Bool, true, false, cond, inl, inr, Some, slice_get, drop, true≢false}
use Rattle.std.proofs.lemmas.Bool.Decides.{eqb_tells, leb_tells}
use Rattle.std.proofs.lemmas.Option.{none-some, same_Some}
use Rattle.list_laws.specs.Among.{IsAmong}
use Rattle.lock_rules.specs.Children.{insert_number}
use Rattle.lock_rules.specs.Plan.{times_in}
use Rattle.lock_rules.proofs.AmongLemmas.{rises-past, among-times_in}
use Rattle.lock_rules.proofs.NodeLemmas.{RisesFrom-insert}
use Rattle.lock_rules.proofs.TreeLemmas.{RisesFrom-less}
use Rattle.book_rules.specs.declared.book.SlotState.{SlotState}
use Rattle.book_rules.specs.declared.book.SlotState.TheVariants as slot
use Rattle.book_rules.specs.Book.{Slot, is_back}
use Rattle.book_rules.specs.Book.{Book, slot_at, first_slot}
use Rattle.book_rules.proofs.SlotLemmas.{back-is}
use Rattle.book_rules.proofs.NextLemmas.{first_slot-is, first_slot-empty}
use Rattle.book_core.proofs.HandLemmas.{state-known}
use Rattle.book_core.specs.Tables.{state_in, AreBack}
use Rattle.book_core.specs.Changes.{Changes}
use Rattle.closing_rules.specs.declared.grounds.Ground.TheVariants as by

not-back : (state : SlotState) → is_back state ≡ false → state ≢ slot.Back
not-back state e h = true≢false (sym (ap is_back h) ∙ e)

-- ---- a number is put into a rising list

by_order : (n m : ℕ) (ms : List ℕ) (P : List ℕ → Type 0) → (n < m → P (n ∷ m ∷ ms)) → (m ≤ n → P (m ∷ insert_number n ms)) → P (insert_number n (m ∷ ms))
by_order n m ms P less more = elim (leb_tells (suc n) m) [
  | inl y ↦ subst (λ t. P (cond t (n ∷ m ∷ ms) (m ∷ insert_number n ms))) (sym y.0) (less y.1)
  | inr h ↦ subst (λ t. P (cond t (n ∷ m ∷ ms) (m ∷ insert_number n ms))) (sym h.0) (more (omega (arith, h.1)))
]

among-put : (n : ℕ) (ms : List ℕ) → IsAmong (insert_number n ms) n
among-put n [] = inl refl
among-put n (m ∷ ms) = by_order n m ms (λ l. IsAmong l n) (λ less. inl refl) (λ more. inr (among-put n ms))

among-kept : (n : ℕ) (ms : List ℕ) (k : ℕ) → IsAmong ms k → IsAmong (insert_number n ms) k
among-kept n [] k h = absurd h
among-kept n (m ∷ ms) k (inl e) = by_order n m ms (λ l. IsAmong l k) (λ less. inr (inl e)) (λ more. inl e)
among-kept n (m ∷ ms) k (inr h) = by_order n m ms (λ l. IsAmong l k) (λ less. inr (inr h)) (λ more. inr (among-kept n ms k h))

-- whatever holds of the number and of all in the list holds of all once it is put in
among-each : (P : ℕ → Type 0) (n : ℕ) (ms : List ℕ) → P n → ((k : ℕ) → IsAmong ms k → P k) → (k : ℕ) → IsAmong (insert_number n ms) k → P k
among-each P n [] here each k (inl e) = subst P e here
among-each P n [] here each k (inr h) = absurd h
among-each P n (m ∷ ms) here each k among = by_order n m ms (λ l. IsAmong l k → P k)
    (λ less h. elim h [ inl e ↦ subst P e here | inr g ↦ each k g ])
    (λ more h. elim h [ inl e ↦ subst P e (each m (inl refl)) | inr g ↦ among-each P n ms here (λ i a. each i (inr a)) k g ])
    among

absent-times : (n : ℕ) (ms : List ℕ) → (IsAmong ms n → ⊥) → times_in ms n ≡ 0
absent-times n ms absent = elim (leb_tells 1 (times_in ms n)) [ inl y ↦ absurd (absent (among-times_in ms n y.1)) | inr h ↦ omega (arith, h.1) ]

module _ (old new : List Slot) (id : ℕ) (state : SlotState) (change : Changes old id state new) where
  -- a slot that isn't Back takes another state than Back
  pub back-kept : (back : List ℕ) → AreBack old back → is_back (state_in old id) ≡ false → is_back state ≡ false → AreBack new back
  back-kept back good before after = record {
    rising = good.rising;
    each = λ k among. let is = good.each k among in elim (eqb_tells k id) [
      | inl y ↦ absurd (not-back (state_in old id) before (ap (state_in old) (sym y.1) ∙ is))
      | inr n ↦ change.others k n.1 ∙ is
    ];
    all = λ k e. elim (eqb_tells k id) [
      | inl y ↦ absurd (not-back state after (sym change.here ∙ ap (state_in new) (sym y.1) ∙ e))
      | inr n ↦ good.all k (sym (change.others k n.1) ∙ e)
    ];
  }

  -- the first Back slot takes another state
  pub back-taken : (back : List ℕ) → AreBack old (id ∷ back) → is_back state ≡ false → AreBack new back
  back-taken back good after = record {
    rising = RisesFrom-less 0 (suc id) back (omega arith) good.rising.1;
    each = λ k among. let far = rises-past (suc id) back k good.rising.1 among in change.others k (λ e. omega (arith, far, e)) ∙ good.each k (inr among);
    all = λ k e. elim (eqb_tells k id) [
      | inl y ↦ absurd (not-back state after (sym change.here ∙ ap (state_in new) (sym y.1) ∙ e))
      | inr n ↦ elim (good.all k (sym (change.others k n.1) ∙ e)) [ inl is ↦ absurd (n.1 (sym is)) | inr h ↦ h ]
    ];
  }

-- a slot that isn't Back becomes Back
pub back-given : (old new : List Slot) (id : ℕ) → Changes old id slot.Back new → (back : List ℕ) → AreBack old back → is_back (state_in old id) ≡ false → AreBack new (insert_number id back)
back-given old new id change back good before =
    let absent : IsAmong back id → ⊥ = λ among. not-back (state_in old id) before (good.each id among) in
    record {
      rising = RisesFrom-insert 0 id back (omega arith) (absent-times id back absent) good.rising;
      each = among-each (λ k. state_in new k ≡ slot.Back) id back change.here (λ k among. change.others k (λ e. absent (subst (IsAmong back) e among)) ∙ good.each k among);
      all = λ k e. elim (eqb_tells k id) [
        | inl y ↦ subst (IsAmong (insert_number id back)) (sym y.1) (among-put id back)
        | inr n ↦ among-kept id back k (good.all k (sym (change.others k n.1) ∙ e))
      ];
    }

-- the first of the list is the first Back slot
pub first-back : (b : Book) (back : List ℕ) → AreBack b.slots back → slice_get back 0 ≡ first_slot b is_back
first-back b [] good = sym (first_slot-empty b is_back (λ k known. by_state k (is_back (slot_at b k).state) refl))
  where
    by_state : (k : ℕ) (t : Bool) → is_back (slot_at b k).state ≡ t → t ≡ false
    by_state k false e = refl
    by_state k true e = absurd (good.all k (back-is (slot_at b k).state e))
first-back b (x ∷ xs) good = sym (first_slot-is b is_back x (state-known b.slots x open_is) (ap is_back here) (λ k less. by_state k less (is_back (slot_at b k).state) refl))
  where
    here : state_in b.slots x ≡ slot.Back
    here = good.each x (inl refl)

    open_is : state_in b.slots x ≢ slot.Closed by.Bound
    open_is e = clash (sym here ∙ e)
      where
        clash : slot.Back ≡ slot.Closed by.Bound → ⊥
        clash h = cc

    by_state : (k : ℕ) → k < x → (t : Bool) → is_back (slot_at b k).state ≡ t → t ≡ false
    by_state k less false e = refl
    by_state k less true e = absurd (elim (good.all k (back-is (slot_at b k).state e)) [
      | inl same ↦ omega (arith, less, same)
      | inr h ↦ let above = rises-past (suc x) xs k good.rising.1 h in omega (arith, less, above)
    ])

-- the first of the list takes another state
pub first-taken : (old new : List Slot) (id : ℕ) (state : SlotState) → Changes old id state new → (back : List ℕ) → AreBack old back → slice_get back 0 ≡ Some id → is_back state ≡ false → AreBack new (drop 1 back)
first-taken old new id state change [] good first after = absurd (none-some id first)
first-taken old new id state change (x ∷ xs) good first after = back-taken old new id state change xs (subst (λ n. AreBack old (n ∷ xs)) (same_Some x id first) good) after

pub fewer-back : (back : List ℕ) → length (drop 1 back) ≤ length back
fewer-back [] = omega arith
fewer-back (x ∷ xs) = omega arith
