-- A held slot is split.
use Rattle.std.proofs.Common.{◌≡◌, ℕ, suc, ◌+◌, ◌*◌, ◌<◌, ◌≤◌, List, [], ◌∷◌, ◌++◌, length, map, refl, sym, ap, ◌∙◌, subst, arith, true, slice_index_or, slice_set, length-append}
use Rattle.std.specs.declared.option.Option.{Option}
use Rattle.std.proofs.lemmas.List.{length-map, length-set}
use Rattle.lock_model.specs.declared.limits.TheConstants.{CHILDREN}
use Rattle.lock_rules.specs.Bound.{bound_of}
use Rattle.lock_rules.specs.Children.{children_of}
use Rattle.book_rules.specs.declared.book.Entry.{Entry}
use Rattle.book_rules.specs.declared.book.Entry.TheVariants as entry
use Rattle.book_rules.specs.declared.book.SlotState.{SlotState}
use Rattle.book_rules.specs.declared.book.SlotState.TheVariants as slot
use Rattle.book_rules.specs.Book.{Book, Slot, slot_at, best_cost, is_held}
use Rattle.book_rules.specs.Step.{children_in}
use Rattle.book_rules.proofs.SlotLemmas.{held-is}
use Rattle.book_core.specs.declared.book.Book.TheInside.{Inside}
use Rattle.book_core.specs.declared.stored_slot.StoredSlot.{StoredSlot}
use Rattle.book_core.specs.declared.waiting.Waiting.{Waiting}
use Rattle.book_core.specs.Stored.{slots_of}
use Rattle.book_core.specs.Tables.{state_in}
use Rattle.book_core.specs.Changes.{slot_in, set_state, let_go}
use Rattle.book_core.specs.Growing.{stored_children, with_kids}
use Rattle.book_core.specs.declared.hand.Hand.{Hand}
use Rattle.book_core.specs.Hands.{ids_of, AreNodes}
use Rattle.book_core.specs.Path.{IsPath}
use Rattle.book_core.specs.Keeps.{IsSound, AreTables}
use Rattle.book_core.specs.Seen.{seen, IsKept}
use Rattle.book_core.proofs.HandLemmas.{state-known, held-open}
use Rattle.book_core.proofs.HeldLemmas.{KeepsNodes, nodes-kept, nodes-let_go}
use Rattle.book_core.proofs.PathLemmas.{path-kept}
use Rattle.book_core.proofs.KeptLemmas.{length-slots, is-stored, few-slots}
use Rattle.book_core.proofs.SettleLemmas.{restated}
use Rattle.book_core.proofs.GrowLemmas.{grown-is, tables-grown, nodes-grown, length-kids}

-- how many slots there are then
pub kids-few : (b : Book) (id : ℕ) → IsSound (with_kids b id) → (bounds : List ℕ) → (n : ℕ) → bounds ≡ map (bound_of b.case.instance n) (children_of b.case.instance (slot_at b id).node.depth (slot_at b id).node.lines) → length b.slots + length bounds ≤ 1 + CHILDREN * 1000000
kids-few b id sound bounds n are =
    let node = (slot_at b id).node in
    let kids = children_of b.case.instance node.depth node.lines in
    let few = few-slots (with_kids b id) sound in
    let middle = set_state b.slots id (slot.Split (length b.slots)) in
    let many : length bounds ≡ length kids = ap length are ∙ length-map kids (bound_of b.case.instance n) in
    omega (
      arith,
      few,
      length-append middle (children_in b id),
      length-set b.slots id (record (slot_at b id) { state = slot.Split (length b.slots) }),
      length-kids b id b.case.instance (best_cost b) id (suc node.depth) 0 kids,
      many,
    )

module _ (a : Inside) (kept : IsKept a) (b : Book) (same : seen a ≡ b) (id : ℕ) (held : is_held (slot_at b id).state ≡ true) where
  abbrev S : List Slot
  S = slots_of a.case.instance a.slots.items

  pub holder : (w : ℕ) × (state_in S id ≡ slot.Held w)
  holder = held-is (state_in S id) (ap (λ (u : Book). is_held (slot_at u id).state) same ∙ held)

  there : id < length S
  there = state-known S id (λ e. held-open holder.0 (sym holder.1 ∙ e))

  pub held-known : id < length a.slots.items
  held-known = let h = there in omega (arith, h, length-slots a.case.instance a.slots.items)

  module _ (ss : List StoredSlot) (all : ss ≡ a.slots.items) (r : StoredSlot) (is : r ≡ slice_index_or ss id r) where
    stored : r ≡ slice_index_or a.slots.items id r
    stored = is ∙ ap (λ l. slice_index_or l id r) all

    pub held-state : r.state ≡ slot.Held holder.0
    held-state = sym (is-stored a.case.instance a.slots.items id r held-known stored).state ∙ holder.1

    module _ (bounds : List ℕ) (are : bounds ≡ map (bound_of b.case.instance ((slot_at b id).node.depth + 1)) (children_of b.case.instance (slot_at b id).node.depth (slot_at b id).node.lines)) (n : ℕ) (count : n ≡ length ss) where
      kids_are : bounds ≡ map (bound_of a.case.instance (suc (slot_in S id).node.depth)) (children_of a.case.instance (slot_in S id).node.depth (slot_in S id).node.lines)
      kids_are =
          are
          ∙ ap (λ (u : Book). map (bound_of u.case.instance ((slot_at u id).node.depth + 1)) (children_of u.case.instance (slot_at u id).node.depth (slot_at u id).node.lines)) (sym same)
          ∙ ap (λ m. map (bound_of a.case.instance m) (children_of a.case.instance (slot_in S id).node.depth (slot_in S id).node.lines)) more
        where
          more : (slot_in S id).node.depth + 1 ≡ suc (slot_in S id).node.depth
          more = omega arith

      abbrev pub new_slots : List StoredSlot
      new_slots = slice_set ss id (restated r (slot.Split n)) ++ stored_children a.best_cost id 0 bounds

      pub kids-is : slots_of a.case.instance new_slots ≡ set_state S id (slot.Split (length S)) ++ children_in (seen a) id
      kids-is =
          (λ i. slots_of a.case.instance (slice_set (all i) id (restated r (slot.Split n)) ++ stored_children (kept.costs.best_is i) id 0 bounds))
          ∙ grown-is a.case.instance a.slots.items id r (best_cost (seen a)) bounds held-known stored (slot_in S id).node refl kids_are n (count ∙ ap length all ∙ sym (length-slots a.case.instance a.slots.items))

      pub split-is : (slots : List StoredSlot) → slots ≡ new_slots → (history : List Entry) → history ≡ a.history.items ++ entry.Split id ∷ []
          → record (seen a) { slots = slots_of a.case.instance slots; history = history } ≡ with_kids b id
      split-is slots slots_are history more =
          (λ i. record (seen a) { slots = (ap (slots_of a.case.instance) slots_are ∙ kids-is) i; history = more i }) ∙ ap (λ u. with_kids u id) same

      pub split-tables : (slots : List StoredSlot) → slots ≡ new_slots → (hands : List (Option ℕ)) → hands ≡ let_go r.state (ids_of a.hands) → (waiting : List Waiting) (old : List Waiting) → old ≡ a.waiting.items → (end : ℕ) → end ≡ n + length bounds
          → waiting ≡ old ++ record { split = id; first = n; end = end } ∷ [] → AreTables (slots_of a.case.instance slots) a.ended hands a.back waiting
      split-tables slots slots_are hands hands_are waiting old old_is end end_is waiting_are =
          let G = set_state S id (slot.Split (length S)) ++ children_in (seen a) id in
          let node = (slot_in S id).node in
          let kids = children_of a.case.instance node.depth node.lines in
          let first : n ≡ length S = count ∙ ap length all ∙ sym (length-slots a.case.instance a.slots.items) in
          let many : length bounds ≡ length kids = ap length kids_are ∙ length-map kids (bound_of a.case.instance (suc node.depth)) in
          let last : end ≡ length G =
          omega (
            arith,
            end_is,
            first,
            many,
            length-append (set_state S id (slot.Split (length S))) (children_in (seen a) id),
            length-set S id (record (slot_in S id) { state = slot.Split (length S) }),
            length-kids (seen a) id a.case.instance (best_cost (seen a)) id (suc node.depth) 0 kids,
          ) in
          let entry_is : record { split = id; first = n; end = end } ≡ record { split = id; first = length S; end = length G } = (λ i. record { split = id; first = first i; end = last i }) in
          let now : hands ≡ let_go (slot.Held holder.0) (ids_of a.hands) = hands_are ∙ ap (λ s. let_go s (ids_of a.hands)) held-state in
          let then : waiting ≡ a.waiting.items ++ record { split = id; first = n; end = end } ∷ [] = waiting_are ∙ ap (λ l. l ++ record { split = id; first = n; end = end } ∷ []) old_is in
          subst (λ h. AreTables (slots_of a.case.instance slots) a.ended h a.back waiting) (sym now)
          (subst (AreTables (slots_of a.case.instance slots) a.ended (let_go (slot.Held holder.0) (ids_of a.hands)) a.back) (sym then)
          (subst (λ l. AreTables l a.ended (let_go (slot.Held holder.0) (ids_of a.hands)) a.back (a.waiting.items ++ record { split = id; first = n; end = end } ∷ [])) (sym (ap (slots_of a.case.instance) slots_are ∙ kids-is))
          (tables-grown (seen a) kept.sound id holder.0 holder.1 a.ended (ids_of a.hands) a.back a.waiting.items kept.tables (record { split = id; first = n; end = end }) entry_is)))

      -- the slots keep their nodes
      split-keeps : (slots : List StoredSlot) → slots ≡ new_slots → KeepsNodes S (slots_of a.case.instance slots)
      split-keeps slots slots_are = subst (KeepsNodes S) (sym (ap (slots_of a.case.instance) slots_are ∙ kids-is)) (nodes-grown (seen a) kept.sound id holder.0 holder.1)

      pub split-nodes : (slots : List StoredSlot) → slots ≡ new_slots → (s : SlotState) (hands : List (Option Hand)) → hands ≡ let_go s a.hands → AreNodes a.case.instance (slots_of a.case.instance slots) hands
      split-nodes slots slots_are s hands hands_are =
          let I = a.case.instance in
          let left = nodes-kept I S (slots_of I slots) (split-keeps slots slots_are) (let_go s a.hands) (nodes-let_go I S a.hands kept.nodes s) in
          subst (AreNodes I (slots_of I slots)) (sym hands_are) left

      pub split-path : (slots : List StoredSlot) → slots ≡ new_slots → IsPath a.case.instance (slots_of a.case.instance slots) a.path
      split-path slots slots_are = path-kept a.case.instance S (slots_of a.case.instance slots) (split-keeps slots slots_are) a.path kept.path
