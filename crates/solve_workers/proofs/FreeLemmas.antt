-- A slot that is no longer held.
use Rattle.std.proofs.Common.{◌≡◌, ℕ, suc, ◌<◌, length, inl, inr, ap, ◌∙◌, arith, Bool, true, false, ◌||◌, slice_index_or, true≢false}
use Rattle.std.proofs.lemmas.Bool.Decides.{leb_tells}
use Rattle.std.proofs.lemmas.List.{get_or_past}
use Rattle.lock_model.specs.declared.limits.TheConstants.{WORKERS}
use Rattle.book_rules.specs.declared.book.SlotState.{SlotState}
use Rattle.book_rules.specs.declared.book.SlotState.TheVariants as slot
use Rattle.book_rules.specs.Book.{Book, Slot, no_slot, slot_at, is_held, is_parked}
use Rattle.lock_rules.specs.Node.{Node}
use Rattle.book_rules.specs.Ends.{HasNone, HoldsNothing}
use Rattle.book_rules.specs.Step
use Rattle.book_rules.proofs.MoveLemmas.{state-known}
use Rattle.book_rules.proofs.TurnLemmas.{turned-at, split-at, Turned, Untouched, Parent, Old, Child, Past}
use Rattle.book_rules.proofs.WorkerLemmas.{new-free}
use Rattle.solve_workers.specs.Holding.{HoldsOnly}
use Rattle.closing_rules.specs.declared.grounds.Ground.TheVariants as by

-- of any number, also one of no slot
pub none-at : (b : Book) (test : SlotState → Bool) → test (slot.Closed by.Bound) ≡ false → HasNone b test → (k : ℕ) → test (slot_at b k).state ≡ false
none-at b test plain has k = elim (leb_tells (suc k) (length b.slots)) [
  | inl y ↦ has.none k y.1
  | inr n ↦ ap (λ (s : Slot). test s.state) (get_or_past b.slots k no_slot (let past = n.1 in omega (arith, past))) ∙ plain
]

pub held-known : (b : Book) (id : ℕ) (node : Node) → HoldsOnly b id node → id < length b.slots
held-known b id node holds = state-known b id (slot.Held WORKERS) holds.held (λ e. true≢false (ap is_held e))

pub is-held : (b : Book) (id : ℕ) (node : Node) → HoldsOnly b id node → is_held (slot_at b id).state ≡ true
is-held b id node holds = ap is_held holds.held

pub may-close : (b : Book) (id : ℕ) (node : Node) → HoldsOnly b id node → Step.may_close b id ≡ true
may-close b id node holds = ap (λ s. is_held s || is_parked s) holds.held

-- the held slot takes another state
pub freed : (b : Book) (id : ℕ) (node : Node) (state : SlotState) (new : Book) → HoldsOnly b id node → is_held state ≡ false → new.slots ≡ (Step.with_state b id state).slots → HoldsNothing new
freed b id node state new holds off same = record { none = λ k here. ap (λ xs. is_held (slice_index_or xs k no_slot).state) same ∙ by-turn k }
  where
    by-turn : (k : ℕ) → is_held (slice_index_or (Step.with_state b id state).slots k no_slot).state ≡ false
    by-turn k = elim (turned-at b id state (held-known b id node holds) k) [
      | Turned is e ↦ ap (λ (s : Slot). is_held s.state) e ∙ off
      | Untouched other e ↦ ap (λ (s : Slot). is_held s.state) e ∙ holds.others k other
    ]

-- the held slot is split
pub split-freed : (b : Book) (id : ℕ) (node : Node) (new : Book) → HoldsOnly b id node → new.slots ≡ (Step.with_children b id).slots → HoldsNothing new
split-freed b id node new holds same = record { none = λ k here. ap (λ xs. is_held (slice_index_or xs k no_slot).state) same ∙ by-split k }
  where
    by-split : (k : ℕ) → is_held (slice_index_or (Step.with_children b id).slots k no_slot).state ≡ false
    by-split k = elim (split-at b id (held-known b id node holds) k) [
      | Parent is e ↦ ap (λ (s : Slot). is_held s.state) e
      | Old other known e ↦ ap (λ (s : Slot). is_held s.state) e ∙ holds.others k other
      | Child place is few e ↦ ap (λ (s : Slot). is_held s.state) e ∙ new-free _
      | Past past e ↦ ap (λ (s : Slot). is_held s.state) e
    ]
