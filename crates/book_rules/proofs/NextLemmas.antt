-- Which slot is the first in a state, and which Fresh slot is next.
use Rattle.std.proofs.Common.{◌≡◌, ◌≢◌, ℕ, zero, suc, ◌+◌, ◌<◌, ◌≤◌, List, [], ◌∷◌, length, inl, inr, refl, sym, ap, ◌∙◌, subst, arith, Bool, true, false, not, cond, ◌&&◌, Some, None, slice_index_or, nat_eq, nat_lt, le-ltb, lt-ltb, true≢false}
use Rattle.std.proofs.lemmas.Bool.{and_parts}
use Rattle.std.proofs.lemmas.Option.{same_Some}
use Rattle.std.specs.declared.option.Option.{Option}
use Rattle.std.specs.List.{position_or_len}
use Rattle.std.proofs.lemmas.Bool.Decides.{leb_tells, eqb_tells}
use Rattle.lock_model.specs.Ships.{RisesFrom}
use Rattle.list_laws.specs.Among.{IsAmong}
use Rattle.lock_rules.proofs.TreeLemmas.{RisesFrom-less, RisesFrom-filter}
use Rattle.lock_rules.proofs.BoundLemmas.{IsAmong-filter}
use Rattle.lock_rules.proofs.AmongLemmas.{among-filter, rises-past}
use Rattle.book_rules.specs.declared.book.SlotState.{SlotState}
use Rattle.book_rules.specs.declared.book.SlotState.TheVariants as slot
use Rattle.book_rules.specs.Book.{Slot, Book, no_slot, slot_at, first_slot, is_fresh}
use Rattle.book_rules.specs.NextSlot.{keep_better, first_best, numbers_where, fresh_children, is_split, first_child, is_some_number, waiting_splits, least_fresh, next_fresh}
use Rattle.book_rules.specs.Family.{child_count, KeepsFamily}
use Rattle.book_rules.specs.Waiting.{IsFreshChild, IsLeastFresh, IsLastSplit}
use Rattle.book_rules.proofs.MoveLemmas.{state-known}
use Rattle.book_rules.proofs.SlotLemmas.{among-where, best-among, lower, later, below_root, IsAt, fresh-is, next_fresh-at}

-- ---- the first slot in such a state

position-first : (p : Slot → Bool) (xs : List Slot) (k : ℕ) → k < length xs → p (slice_index_or xs k no_slot) ≡ true → ((j : ℕ) → j < k → p (slice_index_or xs j no_slot) ≡ false) → position_or_len p xs ≡ k
position-first p [] k known pass before = absurd (omega (arith, known))
position-first p (x ∷ xs) zero known pass before = ap (λ t. cond (not t) (1 + position_or_len p xs) 0) pass
position-first p (x ∷ xs) (suc k) known pass before =
    let rest = position-first p xs k (omega (arith, known)) pass (λ j less. before (suc j) (omega (arith, less))) in
    let here : cond (not (p x)) (1 + position_or_len p xs) 0 ≡ 1 + position_or_len p xs = ap (λ t. cond (not t) (1 + position_or_len p xs) 0) (before 0 (omega arith)) in
    omega (arith, here, rest)

position-end : (p : Slot → Bool) (xs : List Slot) → ((j : ℕ) → j < length xs → p (slice_index_or xs j no_slot) ≡ false) → position_or_len p xs ≡ length xs
position-end p [] before = refl
position-end p (x ∷ xs) before =
    let rest = position-end p xs (λ j less. before (suc j) (omega (arith, less))) in
    let here : cond (not (p x)) (1 + position_or_len p xs) 0 ≡ 1 + position_or_len p xs = ap (λ t. cond (not t) (1 + position_or_len p xs) 0) (before 0 (omega arith)) in
    omega (arith, here, rest)

-- a slot in such a state, where none before it is so
pub first_slot-is : (b : Book) (test : SlotState → Bool) (id : ℕ) → id < length b.slots → test (slot_at b id).state ≡ true → ((k : ℕ) → k < id → test (slot_at b k).state ≡ false) → first_slot b test ≡ Some id
first_slot-is b test id known pass before =
    let p : Slot → Bool = λ (s : Slot). test s.state in
    let at : position_or_len p b.slots ≡ id = position-first p b.slots id known pass before in
    elim (leb_tells (suc id) (length b.slots)) [
      | inl y ↦ (λ i. cond (nat_lt (at i) (length b.slots)) (Some (at i)) None) ∙ ap (λ t. cond t (Some id) None) y.0
      | inr n ↦ absurd (omega (arith, known, n.1))
    ]

pub first_slot-empty : (b : Book) (test : SlotState → Bool) → ((k : ℕ) → k < length b.slots → test (slot_at b k).state ≡ false) → first_slot b test ≡ None
first_slot-empty b test before =
    let p : Slot → Bool = λ (s : Slot). test s.state in
    let at : position_or_len p b.slots ≡ length b.slots = position-end p b.slots before in
    elim (leb_tells (suc (position_or_len p b.slots)) (length b.slots)) [
      | inl y ↦ absurd (omega (arith, y.1, at))
      | inr n ↦ ap (λ t. cond t (Some (position_or_len p b.slots)) None) n.0
    ]

-- ---- the numbers of the slots that pass a test

pub where-rises : (test : Slot → Bool) (low : ℕ) (xs : List Slot) → RisesFrom low (numbers_where test low xs)
where-rises test low [] = tt
where-rises test low (x ∷ xs) =
    let rest = where-rises test (suc low) xs in
    elim (test x) as (λ t. RisesFrom low (cond t (low ∷ numbers_where test (suc low) xs) (numbers_where test (suc low) xs))) [
      | true ↦ (omega arith, rest)
      | false ↦ RisesFrom-less low (suc low) (numbers_where test (suc low) xs) (omega arith) rest
    ]

pub where-among : (test : Slot → Bool) (low : ℕ) (xs : List Slot) (k : ℕ) → k < length xs → test (slice_index_or xs k no_slot) ≡ true → IsAmong (numbers_where test low xs) (low + k)
where-among test low [] k known pass = absurd (omega (arith, known))
where-among test low (x ∷ xs) zero known pass =
    let same : low ≡ low + 0 = omega arith in
    subst (λ t. IsAmong (cond t (low ∷ numbers_where test (suc low) xs) (numbers_where test (suc low) xs)) (low + 0)) (sym pass) (inl same)
where-among test low (x ∷ xs) (suc k) known pass =
    let same : suc low + k ≡ low + suc k = omega arith in
    let rest = subst (IsAmong (numbers_where test (suc low) xs)) same (where-among test (suc low) xs k (omega (arith, known)) pass) in
    elim (test x) as (λ t. IsAmong (cond t (low ∷ numbers_where test (suc low) xs) (numbers_where test (suc low) xs)) (low + suc k)) [
      | true ↦ inr rest
      | false ↦ rest
    ]

-- ---- the first that no other beats

-- of rising numbers, the one that no other beats and that beats each smaller one
first_best-is : (beats : ℕ → ℕ → Bool) (low : ℕ) (ns : List ℕ) (n : ℕ) → RisesFrom low ns → IsAmong ns n → ((m : ℕ) → IsAmong ns m → m < n → beats n m ≡ true) → ((m : ℕ) → IsAmong ns m → beats m n ≡ false) → first_best beats ns ≡ Some n
first_best-is beats low [] n rises among smaller none = absurd among
first_best-is beats low (a ∷ ns) n rises (inl same) smaller none = by_rest (first_best beats ns) (λ m f. best-among beats ns m f)
  where
    by_rest : (o : Option ℕ) → ((m : ℕ) → o ≡ Some m → IsAmong ns m) → keep_better beats a o ≡ Some n
    by_rest None rest = ap (λ u. Some u) same
    by_rest (Some c) rest =
        ap (λ t. cond t (Some c) (Some a)) (ap (beats c) same ∙ none c (inr (rest c refl))) ∙ ap (λ u. Some u) same
first_best-is beats low (a ∷ ns) n rises (inr among) smaller none =
    let rest = first_best-is beats (suc a) ns n rises.1 among (λ m h less. smaller m (inr h) less) (λ m h. none m (inr h)) in
    let above = rises-past (suc a) ns n rises.1 among in
    ap (keep_better beats a) rest ∙ ap (λ t. cond t (Some n) (Some a)) (smaller a (inl refl) above)

-- ---- the next Fresh slot

-- one of some numbers isn't beaten
best-some : (beats : ℕ → ℕ → Bool) (ns : List ℕ) (n : ℕ) → IsAmong ns n → (m : ℕ) × (first_best beats ns ≡ Some m)
best-some beats [] n h = absurd h
best-some beats (a ∷ ns) n h = keep (first_best beats ns)
  where
    keep : (o : Option ℕ) → (m : ℕ) × (keep_better beats a o ≡ Some m)
    keep None = (a, refl)
    keep (Some c) = elim (beats c a) as (λ t. (m : ℕ) × (cond t (Some c) (Some a) ≡ Some m)) [ true ↦ (c, refl) | false ↦ (a, refl) ]

some-none : (o : Option ℕ) (n : ℕ) → o ≡ Some n → o ≡ None → ⊥
some-none None n e h = cc
some-none (Some m) n e h = cc

-- a split that has a Fresh child
record Waits (b : Book) (parent : ℕ) : Type 0 where
  id : ℕ
  split : (slot_at b parent).state ≡ slot.Split (first_child (slot_at b parent).state)
  child : IsFreshChild b parent id

module _ (b : Book) (family : KeepsFamily b) where
  child-passes : (parent id : ℕ) → IsFreshChild b parent id → (is_fresh (slot_at b id).state && nat_eq (slot_at b id).parent parent) ≡ true
  child-passes parent id h =
      elim (eqb_tells (slot_at b id).parent parent) [
        | inl y ↦ (λ i. is_fresh (h.fresh i) && nat_eq (slot_at b id).parent parent) ∙ y.0
        | inr n ↦ absurd (n.1 h.below)
      ]

  child-among : (parent id : ℕ) → IsFreshChild b parent id → IsAmong (fresh_children b parent) id
  child-among parent id h =
      let same : 0 + id ≡ id = omega arith in
      subst (IsAmong (fresh_children b parent)) same (where-among (λ s. is_fresh s.state && nat_eq s.parent parent) 0 b.slots id h.known (child-passes parent id h))

  -- where the root isn't Fresh, what is among the Fresh children is one
  among-child : is_fresh (slot_at b 0).state ≡ false → (parent id : ℕ) → IsAmong (fresh_children b parent) id → IsFreshChild b parent id
  among-child shut parent id h =
      let at = among-where (λ s. is_fresh s.state && nat_eq s.parent parent) 0 b.slots id h in
      let same : at.0 ≡ id = omega (arith, at.1) in
      let parts = and_parts (is_fresh (slot_at b at.0).state) (nat_eq (slot_at b at.0).parent parent) at.3 in
      subst (IsFreshChild b parent) same (record {
        known = at.2;
        some = λ e. true≢false (sym parts.0 ∙ ap (λ k. is_fresh (slot_at b k).state) e ∙ shut);
        fresh = fresh-is (slot_at b at.0).state parts.0;
        below = elim (eqb_tells (slot_at b at.0).parent parent) [ inl y ↦ y.1 | inr n ↦ absurd (true≢false (sym parts.1 ∙ n.0)) ];
      })

  least_fresh-is : is_fresh (slot_at b 0).state ≡ false → (parent id : ℕ) → IsLeastFresh b parent id → least_fresh b (Some parent) ≡ Some id
  least_fresh-is shut parent id h =
      first_best-is (lower b) 0 (fresh_children b parent) id (where-rises (λ s. is_fresh s.state && nat_eq s.parent parent) 0 b.slots) (child-among parent id h.child)
      (λ m among less. lt-ltb (slot_at b id).bound (slot_at b m).bound (h.tie m (among-child shut parent m among) less))
      (λ m among. le-ltb (slot_at b m).bound (slot_at b id).bound (h.least m (among-child shut parent m among)))

  split-is : (s : SlotState) → is_split s ≡ true → s ≡ slot.Split (first_child s)
  split-is (slot.Split first) e = refl
  split-is _ e = absurd (true≢false (sym e))

  -- a split with a Fresh child waits
  split-waits : (parent first id : ℕ) → (slot_at b parent).state ≡ slot.Split first → parent < length b.slots → IsFreshChild b parent id → IsAmong (waiting_splits b) parent
  split-waits parent first id split known child =
      let same : 0 + parent ≡ parent = omega arith in
      IsAmong-filter (λ id. is_some_number (fresh_children b id)) (numbers_where (λ s. is_split s.state) 0 b.slots) parent (some (fresh_children b parent) (child-among parent id child))
      (subst (IsAmong (numbers_where (λ s. is_split s.state) 0 b.slots)) same (where-among (λ s. is_split s.state) 0 b.slots parent known (ap is_split split)))
    where
      some : (ns : List ℕ) → IsAmong ns id → is_some_number ns ≡ true
      some [] h = absurd h
      some (n ∷ ns) h = refl

  -- and what waits is a split with a Fresh child
  waits-split : is_fresh (slot_at b 0).state ≡ false → (parent : ℕ) → IsAmong (waiting_splits b) parent → Waits b parent
  waits-split shut parent h =
      let parts = among-filter (λ id. is_some_number (fresh_children b id)) (numbers_where (λ s. is_split s.state) 0 b.slots) parent h in
      let at = among-where (λ s. is_split s.state) 0 b.slots parent parts.0 in
      let same : at.0 ≡ parent = omega (arith, at.1) in
      let one = some (fresh_children b parent) parts.1 in
      record {
        id = one.0;
        split = subst (λ k. (slot_at b k).state ≡ slot.Split (first_child (slot_at b k).state)) same (split-is (slot_at b at.0).state at.3);
        child = among-child shut parent one.0 one.1;
      }
    where
      some : (ns : List ℕ) → is_some_number ns ≡ true → (n : ℕ) × IsAmong ns n
      some [] e = absurd (true≢false (sym e))
      some (n ∷ ns) e = (n, inl refl)

  -- the first child of a split with a Fresh child
  own-first : (parent first id : ℕ) → (slot_at b parent).state ≡ slot.Split first → IsFreshChild b parent id → (slot_at b first).parent ≡ parent
  own-first parent first id split child =
      let born = family.born id (omega (arith, child.some)) child.known in
      let kids = family.children parent first split in
      let some : 0 < child_count b.case.instance (slot_at b parent).node = few (subst (λ p. (slot_at b id).number < child_count b.case.instance (slot_at b p).node) child.below born.number) in
      let zeroth : first + 0 ≡ first = omega arith in
      subst (λ k. (slot_at b k).parent ≡ parent) zeroth (kids.child 0 some).parent_is
    where
      few : (slot_at b id).number < child_count b.case.instance (slot_at b parent).node → 0 < child_count b.case.instance (slot_at b parent).node
      few h = omega (arith, h)

  last-split : is_fresh (slot_at b 0).state ≡ false → (parent first id : ℕ) → IsLastSplit b parent first → IsFreshChild b parent id → parent < length b.slots
      → first_best (later b) (waiting_splits b) ≡ Some parent
  last-split shut parent first id last child known =
      let own : first_child (slot_at b parent).state ≡ first = ap first_child last.split in
      first_best-is (later b) 0 (waiting_splits b) parent
      (RisesFrom-filter (λ id. is_some_number (fresh_children b id)) 0 (numbers_where (λ s. is_split s.state) 0 b.slots) (where-rises (λ s. is_split s.state) 0 b.slots))
      (split-waits parent first id last.split known child)
      (λ m among less.
      let other = waits-split shut m among in
      let at_most : first_child (slot_at b m).state ≤ first = last.last other.id m (first_child (slot_at b m).state) other.child other.split in
      let differ : first_child (slot_at b m).state ≢ first = λ e.
      let mine : (slot_at b first).parent ≡ m = subst (λ f. (slot_at b f).parent ≡ m) e (own-first m (first_child (slot_at b m).state) other.id other.split other.child) in
      let his : (slot_at b first).parent ≡ parent = own-first parent first id last.split child in
      omega (arith, mine, his, less) in
      lt-ltb (first_child (slot_at b m).state) (first_child (slot_at b parent).state) (omega (arith, at_most, differ, own)))
      (λ m among.
      let other = waits-split shut m among in
      let at_most : first_child (slot_at b m).state ≤ first = last.last other.id m (first_child (slot_at b m).state) other.child other.split in
      le-ltb (first_child (slot_at b parent).state) (first_child (slot_at b m).state) (omega (arith, at_most, own)))

  -- where the root isn't Fresh, the next Fresh slot is the least Fresh child of the last split that has one
  pub next_fresh-is : is_fresh (slot_at b 0).state ≡ false → (parent first id : ℕ) → IsLastSplit b parent first → IsLeastFresh b parent id → next_fresh b ≡ Some id
  next_fresh-is shut parent first id last least =
      let known : parent < length b.slots = state-known b parent (slot.Split first) last.split (λ f. true≢false (ap is_split f)) in
      ap (λ t. cond t (Some 0) (below_root b)) shut
      ∙ ap (least_fresh b) (last-split shut parent first id last least.child known)
      ∙ least_fresh-is shut parent id least

  least-some : is_fresh (slot_at b 0).state ≡ false → (parent : ℕ) → IsAmong (waiting_splits b) parent → (m : ℕ) × (least_fresh b (Some parent) ≡ Some m)
  least-some shut parent among = let waits = waits-split shut parent among in best-some (lower b) (fresh_children b parent) waits.id (child-among parent waits.id waits.child)

  below-some : is_fresh (slot_at b 0).state ≡ false → (o : Option ℕ) (parent : ℕ) → o ≡ Some parent → IsAmong (waiting_splits b) parent → least_fresh b o ≡ None → ⊥
  below-some shut None parent e among h = some-none None parent e refl
  below-some shut (Some p) parent e among h =
      let here : IsAmong (waiting_splits b) p = subst (IsAmong (waiting_splits b)) (sym (same_Some p parent e)) among in
      let least = least-some shut p here in
      some-none (least_fresh b (Some p)) least.0 least.1 h

  -- a Fresh slot that isn't the root waits below its parent
  parent-waits : (id : ℕ) → id ≢ 0 → IsAt b id slot.Fresh → IsAmong (waiting_splits b) (slot_at b id).parent
  parent-waits id not_root at =
      let born = family.born id (omega (arith, not_root)) at.known in
      let parent = (slot_at b id).parent in
      let known : parent < length b.slots = state-known b parent (slot.Split born.first) born.split (λ f. true≢false (ap is_split f)) in
      split-waits parent born.first id born.split known (record { known = at.known; some = not_root; fresh = at.is; below = refl })

  -- where a slot is Fresh, one is next
  pub next_fresh-some : (id : ℕ) → IsAt b id slot.Fresh → next_fresh b ≡ None → ⊥
  next_fresh-some id at none = by_root (is_fresh (slot_at b 0).state) refl none
    where
      by_root : (t : Bool) → is_fresh (slot_at b 0).state ≡ t → cond t (Some 0) (below_root b) ≡ None → ⊥
      by_root true e h = some-none (Some 0) 0 refl h
      by_root false e h =
          let not_root : id ≢ 0 = λ f. true≢false (sym (ap is_fresh at.is) ∙ ap (λ k. is_fresh (slot_at b k).state) f ∙ e) in
          let best = best-some (later b) (waiting_splits b) (slot_at b id).parent (parent-waits id not_root at) in
          below-some e (first_best (later b) (waiting_splits b)) best.0 best.1 (best-among (later b) (waiting_splits b) best.0 best.1) h

-- where no slot is Fresh, none is next
pub next_fresh-none : (b : Book) → ((id : ℕ) → id < length b.slots → is_fresh (slot_at b id).state ≡ false) → next_fresh b ≡ None
next_fresh-none b none = by_next (next_fresh b) refl
  where
    by_next : (o : Option ℕ) → next_fresh b ≡ o → o ≡ None
    by_next None e = refl
    by_next (Some id) e = let at = next_fresh-at b id e in absurd (true≢false (sym (ap is_fresh at.is) ∙ none id at.known))
