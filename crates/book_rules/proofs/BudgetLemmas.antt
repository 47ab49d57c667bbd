-- Every event keeps the budget, the workers and the room of the history.
use Rattle.std.proofs.Common.{◌≡◌, ℕ, suc, ◌+◌, ◌*◌, ◌<◌, ◌≤◌, List, ◌++◌, length, refl, sym, ap, subst, arith, Bool, true, false, ◌||◌, Some, slice_set, length-append}
use Rattle.std.specs.declared.option.Option.{Option}
use Rattle.std.proofs.lemmas.List.{length-map, length-set}
use Rattle.lock_model.specs.declared.limits.TheConstants.{CHILDREN}
use Rattle.lock_model.specs.declared.instance.Instance.{Instance}
use Rattle.lock_model.specs.declared.plan.Plan.{Plan}
use Rattle.lock_rules.specs.Plan.{cost_of}
use Rattle.lock_rules.specs.Children.{children_of}
use Rattle.lock_rules.specs.Arrival.{next_ship}
use Rattle.lock_rules.proofs.SizeLemmas.{children-few}
use Rattle.book_rules.specs.declared.book.Entry.{Entry}
use Rattle.book_rules.specs.declared.book.SlotState.{SlotState}
use Rattle.book_rules.specs.declared.book.SlotState.TheVariants as slot
use Rattle.book_rules.specs.Book.{Book, no_slot, slot_at, best_cost, is_back, is_held, is_parked}
use Rattle.book_rules.specs.Events.{Event, IsOwed}
use Rattle.book_rules.specs.NextSlot.{is_split}
use Rattle.book_rules.specs.Step
use Rattle.book_rules.specs.Cover.{KeepsBook}
use Rattle.book_rules.specs.Room.{count_slots}
use Rattle.book_rules.specs.Budget.{is_taken, KeepsBudget}
use Rattle.book_rules.proofs.SlotLemmas.{IsAt}
use Rattle.book_rules.proofs.MoveLemmas.{Stays, TakesBack, TakesFresh, Splits, Closes, Parks, Shows, Posts, Prices, Replaces, Ends, GivesBack, MayClose, FromHeld, FromParked, turned, each-move}
use Rattle.book_rules.proofs.TallyLemmas.{one, count-turned, count-append, count-children, count-weaker, count-outdone_same, count-outdone, count-low, open-whole, length-children}

-- ---- the budget of nodes

-- where slot id turns, no slot is Split anew, and a slot that is taken was so before or is paid for
turned-budget : (b : Book) (id : ℕ) (old new : SlotState) (used : ℕ) (ended : List Bool) (e : Entry) → KeepsBudget b → IsAt b id old → is_split old ≡ false → is_split new ≡ false
    → b.used + one (is_taken new) ≤ used + one (is_taken old) → used ≤ b.case.nodes → KeepsBudget (turned b id new used ended e)
turned-budget b id old new used ended e keeps at whole still paid room = record {
  used = room;
  taken = omega (arith, keeps.taken, count-turned is_taken b id old new at, paid);
  few = omega (arith, keeps.few, count-turned is_split b id old new at, ap one whole, ap one still, length-set b.slots id (record (slot_at b id) { state = new }));
}

pub closing-whole : (old : SlotState) → MayClose old → (is_split old ≡ false) × (is_taken old ≡ true)
closing-whole old (FromHeld w) = (refl, refl)
closing-whole old (FromParked c p) = (refl, refl)

split-budget : (b : Book) (w id : ℕ) → KeepsBook b → KeepsBudget b → IsAt b id (slot.Held w) → (slot_at b id).node.depth < length b.case.instance.ships → (e : Entry) → KeepsBudget (Step.noted (Step.with_children b id) e)
split-budget b w id book keeps at lacks e =
    let I = b.case.instance in
    let node = (slot_at b id).node in
    let kids = children_of I node.depth node.lines in
    let new = slot.Split (length b.slots) in
    let slots = (Step.with_state b id new).slots in
    let few : length kids ≤ 2 * node.depth + length I.chambers = children-few I (next_ship I node.depth) node.depth node.lines (book.slots id no_slot at.known).node in
    let taken : count_slots is_taken (slots ++ Step.children_in b id) ≡ count_slots is_taken b.slots =
    let old = count-turned is_taken b id (slot.Held w) new at in
    omega (arith, old, count-append is_taken slots (Step.children_in b id), count-children is_taken refl refl I (best_cost b) id (suc node.depth) 0 kids) in
    let split : count_slots is_split (slots ++ Step.children_in b id) ≡ count_slots is_split b.slots + 1 =
    let old = count-turned is_split b id (slot.Held w) new at in
    omega (arith, old, count-append is_split slots (Step.children_in b id), count-children is_split refl refl I (best_cost b) id (suc node.depth) 0 kids) in
    record {
      used = keeps.used;
      taken = omega (arith, keeps.taken, taken);
      few =
          omega (
            arith,
            keeps.few,
            split,
            length-append slots (Step.children_in b id),
            length-children I (best_cost b) id (suc node.depth) 0 kids,
            length-set b.slots id (record (slot_at b id) { state = new }),
            few,
            lacks,
            I.limits.ship_count.1,
            I.limits.chamber_count.1,
          );
    }

module _ {Break : Type 0} (broken : Instance → Plan → Option Break) (b : Book) (book : KeepsBook b) where
  abbrev after : Event → Book
  after e = (Step.step broken b e).0

  pub budget-step : KeepsBudget b → (e : Event) → IsOwed e → KeepsBudget (after e)
  budget-step keeps e owed =
      elim (each-move broken b e owed) [
        | Stays refused same ↦ subst KeepsBudget (sym same) keeps
        | TakesBack w id runs none first at same ↦ subst KeepsBudget (sym same) (turned-budget b id slot.Back (slot.Held w) b.used b.ended _ keeps at refl refl (omega arith) keeps.used)
        | TakesFresh w id runs none no_back next at left same ↦ subst KeepsBudget (sym same) (turned-budget b id slot.Fresh (slot.Held w) (suc b.used) b.ended _ keeps at refl refl (omega arith) (omega (arith, keeps.used, left)))
        | Splits w id at lacks same ↦ subst KeepsBudget (sym same) (split-budget b w id book keeps at lacks _)
        | Closes old why id from at tells same ↦
            let was = closing-whole old from in
            subst KeepsBudget (sym same) (turned-budget b id old (slot.Closed why) b.used b.ended _ keeps at was.0 refl (omega (arith, ap one was.1)) keeps.used)
        | Parks w id c p at tells same ↦ subst KeepsBudget (sym same) (turned-budget b id (slot.Held w) (slot.Parked c p) b.used b.ended _ keeps at refl refl (omega arith) keeps.used)
        | Shows id low grows may same ↦ subst KeepsBudget (sym same) (record {
          used = keeps.used;
          taken = omega (arith, keeps.taken, count-low is_taken b id low may.known);
          few = omega (arith, keeps.few, count-low is_split b id low may.known, length-set b.slots id (record (slot_at b id) { shown = Some low }));
        })
        | Posts cut grows good own same ↦ subst KeepsBudget (sym same) (record { used = keeps.used; taken = keeps.taken; few = keeps.few })
        | Prices prices grows good own same ↦ subst KeepsBudget (sym same) (record { used = keeps.used; taken = keeps.taken; few = keeps.few })
        | Replaces plan grows cheaper same ↦ subst KeepsBudget (sym same) (record {
          used = keeps.used;
          taken = omega (arith, keeps.taken, count-outdone is_taken refl (cost_of b.case.instance plan) b.slots);
          few = omega (arith, keeps.few, count-outdone_same is_split refl open-whole (cost_of b.case.instance plan) b.slots, length-map b.slots (Step.outdone (cost_of b.case.instance plan)));
        })
        | Ends w runs none same ↦ subst KeepsBudget (sym same) (record { used = keeps.used; taken = keeps.taken; few = keeps.few })
        | GivesBack w id runs at same ↦ subst KeepsBudget (sym same) (turned-budget b id (slot.Held w) slot.Back b.used (slice_set b.ended w true) _ keeps at refl refl (omega arith) keeps.used)
      ]

-- a book has at most one slot and CHILDREN more for each node used
pub slots-few : (b : Book) → KeepsBudget b → length b.slots ≤ 1 + CHILDREN * b.used
slots-few b keeps =
    let split = count-weaker is_split is_taken (λ s e. ap (λ t. t || is_held s || is_back s || is_parked s) e) b.slots in
    omega (arith, keeps.few, keeps.taken, split)
