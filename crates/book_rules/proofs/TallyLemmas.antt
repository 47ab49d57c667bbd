-- How the counts of slots change.
use Rattle.std.proofs.Common.{◌≡◌, ℕ, zero, suc, ◌+◌, ◌<◌, ◌≤◌, List, [], ◌∷◌, ◌++◌, length, map, refl, sym, ap, subst, arith, Bool, true, false, cond, ◌&&◌, ◌||◌, Some, slice_index_or, slice_set, nat_le, true≢false}
use Rattle.std.proofs.lemmas.Bool.{and_parts}
use Rattle.lock_model.specs.declared.instance.Instance.{Instance}
use Rattle.lock_model.specs.declared.group.Group.{Group}
use Rattle.book_rules.specs.declared.book.SlotState.{SlotState}
use Rattle.book_rules.specs.declared.book.SlotState.TheVariants as slot
use Rattle.book_rules.specs.declared.book.ShownLow.{ShownLow}
use Rattle.book_rules.specs.Book.{Slot, Book, no_slot, slot_at, bound_at, is_fresh, is_back, is_parked}
use Rattle.book_rules.specs.NextSlot.{is_split}
use Rattle.book_rules.specs.Step
use Rattle.book_rules.specs.Room.{count_slots, count_false}
use Rattle.book_rules.proofs.SlotLemmas.{IsAt}
use Rattle.closing_rules.specs.declared.grounds.Ground.TheVariants as by

-- 1 for a test that passes
abbrev pub one : Bool → ℕ
one t = cond t 1 0

pub count-set : (test : SlotState → Bool) (xs : List Slot) (id : ℕ) (new : Slot) → id < length xs
    → count_slots test (slice_set xs id new) + one (test (slice_index_or xs id no_slot).state) ≡ count_slots test xs + one (test new.state)
count-set test [] id new known = absurd (omega (arith, known))
count-set test (x ∷ xs) zero new known = omega arith
count-set test (x ∷ xs) (suc id) new known = let rest = count-set test xs id new (omega (arith, known)) in omega (arith, rest)

-- where slot id turns from one state to another
pub count-turned : (test : SlotState → Bool) (b : Book) (id : ℕ) (old new : SlotState) → IsAt b id old
    → count_slots test (Step.with_state b id new).slots + one (test old) ≡ count_slots test b.slots + one (test new)
count-turned test b id old new at =
    subst (λ u. count_slots test (Step.with_state b id new).slots + one (test u) ≡ count_slots test b.slots + one (test new)) at.is
    (count-set test b.slots id (record (slot_at b id) { state = new }) at.known)

-- where a cost is shown of slot id
pub count-low : (test : SlotState → Bool) (b : Book) (id : ℕ) (low : ShownLow) → id < length b.slots → count_slots test (Step.with_low b id low).slots ≡ count_slots test b.slots
count-low test b id low known = omega (arith, count-set test b.slots id (record (slot_at b id) { shown = Some low }) known)

pub count-append : (test : SlotState → Bool) (xs ys : List Slot) → count_slots test (xs ++ ys) ≡ count_slots test xs + count_slots test ys
count-append test [] ys = omega arith
count-append test (x ∷ xs) ys = let rest = count-append test xs ys in omega (arith, rest)

-- no new slot passes a test that neither a Fresh slot passes nor one closed by its bound
pub count-children : (test : SlotState → Bool) → test slot.Fresh ≡ false → test (slot.Closed by.Bound) ≡ false → (I : Instance) (cost parent depth number : ℕ) (ls : List (List (List Group)))
    → count_slots test (Step.child_slots I cost parent depth number ls) ≡ 0
count-children test fresh bound I cost parent depth number [] = refl
count-children test fresh bound I cost parent depth number (l ∷ ls) =
    let rest = count-children test fresh bound I cost parent depth (suc number) ls in
    let here = by_bound (nat_le cost (bound_at I (record { depth = depth; lines = l }))) in
    omega (arith, rest, here)
  where
    by_bound : (t : Bool) → one (test (cond t (slot.Closed by.Bound) slot.Fresh)) ≡ 0
    by_bound true = ap one bound
    by_bound false = ap one fresh

pub length-children : (I : Instance) (cost parent depth number : ℕ) (ls : List (List (List Group))) → length (Step.child_slots I cost parent depth number ls) ≡ length ls
length-children I cost parent depth number [] = refl
length-children I cost parent depth number (l ∷ ls) = ap suc (length-children I cost parent depth (suc number) ls)

-- a weaker test passes no fewer slots
pub count-weaker : (test other : SlotState → Bool) → ((s : SlotState) → test s ≡ true → other s ≡ true) → (xs : List Slot) → count_slots test xs ≤ count_slots other xs
count-weaker test other weaker [] = omega arith
count-weaker test other weaker (x ∷ xs) =
    let rest = count-weaker test other weaker xs in
    let here = by_test (test x.state) refl in omega (arith, rest, here)
  where
    by_test : (t : Bool) → test x.state ≡ t → one t ≤ one (other x.state)
    by_test true e = let passes = ap one (weaker x.state e) in omega (arith, passes)
    by_test false e = omega arith

-- ---- a new best plan

-- an outdone slot is as it was, or it was open or parked, its bound is at least the cost, and now it is closed by it
pub data IsOutdone (cost : ℕ) (s new : Slot) : Type 0 where
  Kept : ((is_fresh s.state || is_back s.state || is_parked s.state) && nat_le cost s.bound) ≡ false → new ≡ s → IsOutdone cost s new
  Closed : (is_fresh s.state || is_back s.state || is_parked s.state) ≡ true → nat_le cost s.bound ≡ true → new ≡ record s { state = slot.Closed by.Bound } → IsOutdone cost s new

pub outdone-is : (cost : ℕ) (s : Slot) → IsOutdone cost s (Step.outdone cost s)
outdone-is cost s = by_test ((is_fresh s.state || is_back s.state || is_parked s.state) && nat_le cost s.bound) refl
  where
    by_test : (t : Bool) → ((is_fresh s.state || is_back s.state || is_parked s.state) && nat_le cost s.bound) ≡ t → IsOutdone cost s (cond t (record s { state = slot.Closed by.Bound }) s)
    by_test true e = let parts = and_parts (is_fresh s.state || is_back s.state || is_parked s.state) (nat_le cost s.bound) e in Closed parts.0 parts.1 refl
    by_test false e = Kept e refl

-- a test that neither a slot closed by its bound passes nor any open or parked one answers the same
pub count-outdone_same : (test : SlotState → Bool) → test (slot.Closed by.Bound) ≡ false → ((s : SlotState) → (is_fresh s || is_back s || is_parked s) ≡ true → test s ≡ false)
    → (cost : ℕ) (xs : List Slot) → count_slots test (map (Step.outdone cost) xs) ≡ count_slots test xs
count-outdone_same test bound opened cost [] = refl
count-outdone_same test bound opened cost (x ∷ xs) =
    let rest = count-outdone_same test bound opened cost xs in
    elim (outdone-is cost x) [
      | Kept e same ↦ omega (arith, rest, ap (λ (s : Slot). one (test s.state)) same)
      | Closed e high same ↦ omega (arith, rest, ap (λ (s : Slot). one (test s.state)) same, ap one bound, ap one (opened x.state e))
    ]

-- a test that a slot closed by its bound doesn't pass answers for no more slots
pub count-outdone : (test : SlotState → Bool) → test (slot.Closed by.Bound) ≡ false → (cost : ℕ) (xs : List Slot) → count_slots test (map (Step.outdone cost) xs) ≤ count_slots test xs
count-outdone test bound cost [] = omega arith
count-outdone test bound cost (x ∷ xs) =
    let rest = count-outdone test bound cost xs in
    elim (outdone-is cost x) [
      | Kept e same ↦ omega (arith, rest, ap (λ (s : Slot). one (test s.state)) same)
      | Closed e high same ↦ omega (arith, rest, ap (λ (s : Slot). one (test s.state)) same, ap one bound)
    ]

pub open-whole : (s : SlotState) → (is_fresh s || is_back s || is_parked s) ≡ true → is_split s ≡ false
open-whole (slot.Split first) e = absurd (true≢false (sym e))
open-whole _ e = refl

-- ---- workers that haven't ended

-- 1 for a test that fails
abbrev one_unless : Bool → ℕ
one_unless t = cond t 0 1

pub count_false-set : (xs : List Bool) (w : ℕ) → w < length xs → slice_index_or xs w false ≡ false → count_false (slice_set xs w true) + 1 ≡ count_false xs
count_false-set [] w known e = absurd (omega (arith, known))
count_false-set (x ∷ xs) zero known e = let here = ap one_unless e in omega (arith, here)
count_false-set (x ∷ xs) (suc w) known e = let rest = count_false-set xs w (omega (arith, known)) e in omega (arith, rest)
