-- Which slots a book has after a change.
use Rattle.std.proofs.Common.{◌≡◌, ◌≢◌, ℕ, zero, suc, ◌+◌, ◌-◌, ◌<◌, ◌≤◌, List, [], ◌∷◌, ◌++◌, length, map, refl, sym, ap, ◌∙◌, arith, Some, None, slice_index_or, slice_set, inl, inr, length-append}
use Rattle.std.proofs.lemmas.Bool.Decides.{leb_tells, eqb_tells}
use Rattle.std.proofs.lemmas.List.{length-set, get_or-set_same, get_or-set_other, get_or-append-add, get_or_past}
use Rattle.std.proofs.Math.ListN.{get_or-append}
use Rattle.lock_model.specs.declared.instance.Instance.{Instance}
use Rattle.lock_model.specs.declared.group.Group.{Group}
use Rattle.lock_rules.specs.Node.{root_lines}
use Rattle.lock_rules.specs.Children.{children_of}
use Rattle.book_rules.specs.declared.book.SlotState.{SlotState}
use Rattle.book_rules.specs.declared.book.SlotState.TheVariants as slot
use Rattle.book_rules.specs.declared.book.ShownLow.{ShownLow}
use Rattle.book_rules.specs.Book.{Slot, Book, no_slot, slot_at, best_cost, new_slot}
use Rattle.book_rules.specs.Family.{child_node}
use Rattle.book_rules.specs.Step
use Rattle.book_rules.proofs.TallyLemmas.{length-children}

-- slot `other` where slot id has turned to another state
pub data IsTurned (b : Book) (id : ℕ) (new : SlotState) (other : ℕ) (s : Slot) : Type 0 where
  Turned : other ≡ id → s ≡ record (slot_at b id) { state = new } → IsTurned b id new other s
  Untouched : other ≢ id → s ≡ slot_at b other → IsTurned b id new other s

pub turned-at : (b : Book) (id : ℕ) (new : SlotState) → id < length b.slots → (other : ℕ) → IsTurned b id new other (slice_index_or (Step.with_state b id new).slots other no_slot)
turned-at b id new known other =
    let s : Slot = record (slot_at b id) { state = new } in
    elim (eqb_tells other id) [
      | inl y ↦ Turned y.1 (ap (λ k. slice_index_or (slice_set b.slots id s) k no_slot) y.1 ∙ get_or-set_same b.slots id s no_slot known)
      | inr n ↦ Untouched n.1 (get_or-set_other b.slots id other s no_slot n.1)
    ]

-- a slot without what is shown of it
abbrev pub unshown : Slot → Slot
unshown s = record s { shown = None }

-- where a cost is shown of slot id, each slot is else as it was
pub low-at : (b : Book) (id : ℕ) (low : ShownLow) (other : ℕ) → unshown (slice_index_or (Step.with_low b id low).slots other no_slot) ≡ unshown (slot_at b other)
low-at b id low other = in_list b.slots id other
  where
    in_list : (xs : List Slot) (id other : ℕ) → unshown (slice_index_or (slice_set xs id (record (slice_index_or xs id no_slot) { shown = Some low })) other no_slot) ≡ unshown (slice_index_or xs other no_slot)
    in_list [] id other = refl
    in_list (x ∷ xs) zero zero = refl
    in_list (x ∷ xs) zero (suc other) = refl
    in_list (x ∷ xs) (suc id) zero = refl
    in_list (x ∷ xs) (suc id) (suc other) = in_list xs id other

-- child k of a list of children
pub child-at : (I : Instance) (cost parent depth number : ℕ) (ls : List (List (List Group))) (k : ℕ) → k < length ls
    → slice_index_or (Step.child_slots I cost parent depth number ls) k no_slot ≡ new_slot I cost parent (number + k) (record { depth = depth; lines = slice_index_or ls k root_lines })
child-at I cost parent depth number [] k known = absurd (omega (arith, known))
child-at I cost parent depth number (l ∷ ls) zero known =
    let same : number ≡ number + 0 = omega arith in
    ap (λ n. new_slot I cost parent n (record { depth = depth; lines = l })) same
child-at I cost parent depth number (l ∷ ls) (suc k) known =
    let same : suc number + k ≡ number + suc k = omega arith in
    child-at I cost parent depth (suc number) ls k (omega (arith, known)) ∙ ap (λ n. new_slot I cost parent n (record { depth = depth; lines = slice_index_or ls k root_lines })) same

-- child k of slot id
abbrev pub kid : Book → ℕ → ℕ → Slot
kid b id k = new_slot b.case.instance (best_cost b) id k (child_node b.case.instance (slot_at b id).node k)

-- slot `other` where slot id has been split
pub data IsAfterSplit (b : Book) (id other : ℕ) (s : Slot) : Type 0 where
  Parent : other ≡ id → s ≡ record (slot_at b id) { state = slot.Split (length b.slots) } → IsAfterSplit b id other s
  Old : other ≢ id → other < length b.slots → s ≡ slot_at b other → IsAfterSplit b id other s
  Child : (k : ℕ) → other ≡ length b.slots + k → k < length (children_of b.case.instance (slot_at b id).node.depth (slot_at b id).node.lines) → s ≡ kid b id k → IsAfterSplit b id other s
  Past : length (Step.with_children b id).slots ≤ other → s ≡ no_slot → IsAfterSplit b id other s

pub length-split : (b : Book) (id : ℕ) → length (Step.with_children b id).slots ≡ length b.slots + length (children_of b.case.instance (slot_at b id).node.depth (slot_at b id).node.lines)
length-split b id =
    let node = (slot_at b id).node in
    let kids = children_of b.case.instance node.depth node.lines in
    let new = slot.Split (length b.slots) in
    omega (
      arith,
      length-append (Step.with_state b id new).slots (Step.children_in b id),
      length-set b.slots id (record (slot_at b id) { state = new }),
      length-children b.case.instance (best_cost b) id (suc node.depth) 0 kids,
    )

-- child k stands k places after the old slots
pub kid-at : (b : Book) (id k : ℕ) → k < length (children_of b.case.instance (slot_at b id).node.depth (slot_at b id).node.lines)
    → slice_index_or (Step.with_children b id).slots (length b.slots + k) no_slot ≡ kid b id k
kid-at b id k known =
    let node = (slot_at b id).node in
    let slots = (Step.with_state b id (slot.Split (length b.slots))).slots in
    let long : length slots ≡ length b.slots = length-set b.slots id (record (slot_at b id) { state = slot.Split (length b.slots) }) in
    let first : 0 + k ≡ k = omega arith in
    ap (λ n. slice_index_or (slots ++ Step.children_in b id) (n + k) no_slot) (sym long)
    ∙ get_or-append-add slots (Step.children_in b id) k no_slot
    ∙ child-at b.case.instance (best_cost b) id (suc node.depth) 0 (children_of b.case.instance node.depth node.lines) k known
    ∙ ap (λ n. new_slot b.case.instance (best_cost b) id n (kid b id k).node) first

pub split-at : (b : Book) (id : ℕ) → id < length b.slots → (other : ℕ) → IsAfterSplit b id other (slice_index_or (Step.with_children b id).slots other no_slot)
split-at b id known other =
    let node = (slot_at b id).node in
    let kids = children_of b.case.instance node.depth node.lines in
    let new = slot.Split (length b.slots) in
    let slots = (Step.with_state b id new).slots in
    let long : length slots ≡ length b.slots = length-set b.slots id (record (slot_at b id) { state = new }) in
    elim (leb_tells (suc other) (length b.slots)) [
      | inl y ↦
          let same : slice_index_or (slots ++ Step.children_in b id) other no_slot ≡ slice_index_or slots other no_slot = get_or-append slots (Step.children_in b id) no_slot other (omega (arith, y.1, long)) in
          elim (turned-at b id new known other) [
            | Turned is e ↦ Parent is (same ∙ e)
            | Untouched not_id e ↦ Old not_id y.1 (same ∙ e)
          ]
      | inr n ↦
          elim (leb_tells (suc (other - length b.slots)) (length kids)) [
            | inl y ↦
                let place : other ≡ length b.slots + (other - length b.slots) = omega (arith, n.1) in
                Child (other - length b.slots) place y.1 (ap (λ k. slice_index_or (Step.with_children b id).slots k no_slot) place ∙ kid-at b id (other - length b.slots) y.1)
            | inr m ↦
                let past : length (Step.with_children b id).slots ≤ other = omega (arith, n.1, m.1, length-split b id) in
                Past past (get_or_past (Step.with_children b id).slots other no_slot past)
          ]
    ]

-- a slot after a new best plan
pub outdone-at : (cost : ℕ) (xs : List Slot) (k : ℕ) → slice_index_or (map (Step.outdone cost) xs) k no_slot ≡ Step.outdone cost (slice_index_or xs k no_slot)
outdone-at cost [] k = refl
outdone-at cost (x ∷ xs) zero = refl
outdone-at cost (x ∷ xs) (suc k) = outdone-at cost xs k
