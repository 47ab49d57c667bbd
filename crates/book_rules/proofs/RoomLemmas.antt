-- Every event keeps the room of the history: each accepted event but a posting, a replace and a shown cost uses one entry of it.
use Rattle.std.proofs.Common.{◌≡◌, ℕ, suc, ◌+◌, ◌-◌, ◌*◌, ◌≤◌, List, [], ◌∷◌, ◌++◌, length, refl, sym, ap, ◌∙◌, subst, arith, Bool, true, false, cond, nat_le, slice_set, true≢false, length-append}
use Rattle.std.specs.declared.option.Option.{Option}
use Rattle.std.specs.List.{count_by}
use Rattle.std.proofs.lemmas.List.Sums.{sum_by-append}
use Rattle.lock_model.specs.declared.limits.TheConstants.{WORKERS_AND_DRIVER}
use Rattle.lock_model.specs.declared.instance.Instance.{Instance}
use Rattle.lock_model.specs.declared.plan.Plan.{Plan}
use Rattle.lock_rules.specs.Plan.{cost_of}
use Rattle.lock_rules.specs.Children.{children_of}
use Rattle.book_rules.specs.declared.book.Entry.{Entry}
use Rattle.book_rules.specs.declared.book.Entry.TheVariants as entry
use Rattle.book_rules.specs.declared.book.SlotState.{SlotState}
use Rattle.book_rules.specs.declared.book.SlotState.TheVariants as slot
use Rattle.book_rules.specs.Book.{Case, Slot, Book, slot_at, best_cost, bound_at, opening_book, is_back, is_held, is_parked}
use Rattle.lock_rules.specs.Node.{root}
use Rattle.book_rules.specs.Events.{Event, Reply, IsOwed, is_acceptance, post, post_prices, show_low, replace}
use Rattle.book_rules.specs.Step
use Rattle.book_rules.specs.Room.{count_slots, count_false, room_of}
use Rattle.book_rules.specs.Budget.{is_taken, KeepsBudget}
use Rattle.book_rules.specs.History.{is_show_low, KeepsRoom}
use Rattle.book_rules.proofs.SlotLemmas.{IsAt}
use Rattle.book_rules.proofs.StepLemmas.{Refused, Accepted, each-step, entry_of, cuts_of, plans_of, prices_of}
use Rattle.book_rules.proofs.MoveLemmas.{Stays, TakesBack, TakesFresh, Splits, Closes, Parks, Shows, Posts, Prices, Replaces, Ends, GivesBack, IsRunning, MayClose, FromHeld, FromParked, is_growing, each-move}
use Rattle.book_rules.proofs.TallyLemmas.{one, count-turned, count-append, count-children, count-outdone, count-low, count_false-set}
use Rattle.closing_rules.specs.declared.grounds.Ground.TheVariants as by

-- the room for slots, and for a slot in this state
abbrev slots_room : List Slot → ℕ
slots_room ss = 3 * count_slots is_back ss + 2 * count_slots is_held ss + count_slots is_parked ss

abbrev state_room : SlotState → ℕ
state_room s = 3 * one (is_back s) + 2 * one (is_held s) + one (is_parked s)

slots_room-turned : (b : Book) (id : ℕ) (old new : SlotState) → IsAt b id old → slots_room (Step.with_state b id new).slots + state_room old ≡ slots_room b.slots + state_room new
slots_room-turned b id old new at = omega (arith, count-turned is_back b id old new at, count-turned is_held b id old new at, count-turned is_parked b id old new at)

closing-room : (old : SlotState) → MayClose old → 1 ≤ state_room old
closing-room old (FromHeld w) = omega arith
closing-room old (FromParked c p) = omega arith

split-room : (b : Book) (w id : ℕ) → IsAt b id (slot.Held w) → (e : Entry) → suc (room_of (Step.noted (Step.with_children b id) e)) ≤ room_of b
split-room b w id at e =
    let I = b.case.instance in
    let node = (slot_at b id).node in
    let kids = children_of I node.depth node.lines in
    let slots = (Step.with_state b id (slot.Split (length b.slots))).slots in
    let old = slots_room-turned b id (slot.Held w) (slot.Split (length b.slots)) at in
    omega (
      arith,
      old,
      count-append is_back slots (Step.children_in b id),
      count-append is_held slots (Step.children_in b id),
      count-append is_parked slots (Step.children_in b id),
      count-children is_back refl refl I (best_cost b) id (suc node.depth) 0 kids,
      count-children is_held refl refl I (best_cost b) id (suc node.depth) 0 kids,
      count-children is_parked refl refl I (best_cost b) id (suc node.depth) 0 kids,
    )

ends-count : (b : Book) (w : ℕ) → length b.ended ≡ WORKERS_AND_DRIVER → IsRunning b w → count_false (slice_set b.ended w true) + 1 ≡ count_false b.ended
ends-count b w nine runs = count_false-set b.ended w (omega (arith, nine, runs.known)) runs.running

-- the room that an event leaves: one entry less, or the event takes its own or is refused
pub data RoomLeft {Break : Type 0} (b : Book) (e : Event) (out : Book × Reply Break) : Type 0 where
  Less : suc (room_of out.0) ≤ room_of b → RoomLeft b e out
  Own : is_growing e ≡ true → room_of out.0 ≤ room_of b → RoomLeft b e out
  Refusal : is_acceptance out.1 ≡ false → out.0 ≡ b → RoomLeft b e out

module _ {Break : Type 0} (broken : Instance → Plan → Option Break) (b : Book) (budget : KeepsBudget b) (nine : length b.ended ≡ WORKERS_AND_DRIVER) where
  room-left : (e : Event) → IsOwed e → RoomLeft {Break = Break} b e (Step.step broken b e)
  room-left e owed =
      elim (each-move broken b e owed) [
        | Stays refused same ↦ Refusal refused same
        | TakesBack w id runs none first at same ↦
            let slots = slots_room-turned b id slot.Back (slot.Held w) at in
            Less (subst (λ (u : Book). suc (room_of u) ≤ room_of b) (sym same) (omega (arith, slots)))
        | TakesFresh w id runs none no_back next at left same ↦
            let slots = slots_room-turned b id slot.Fresh (slot.Held w) at in
            Less (subst (λ (u : Book). suc (room_of u) ≤ room_of b) (sym same) (omega (arith, slots, left, budget.used)))
        | Splits w id at lacks same ↦ Less (subst (λ (u : Book). suc (room_of u) ≤ room_of b) (sym same) (split-room b w id at (entry.Split id)))
        | Closes old why id from at tells same ↦
            let slots = slots_room-turned b id old (slot.Closed why) at in
            Less (subst (λ (u : Book). suc (room_of u) ≤ room_of b) (sym same) (omega (arith, slots, closing-room old from)))
        | Parks w id c p at tells same ↦
            let slots = slots_room-turned b id (slot.Held w) (slot.Parked c p) at in
            Less (subst (λ (u : Book). suc (room_of u) ≤ room_of b) (sym same) (omega (arith, slots)))
        | Shows id low grows may same ↦
            Own grows (subst (λ (u : Book). room_of u ≤ room_of b) (sym same)
            (omega (arith, count-low is_back b id low may.known, count-low is_held b id low may.known, count-low is_parked b id low may.known)))
        | Posts cut grows good own same ↦ Own grows (subst (λ (u : Book). room_of u ≤ room_of b) (sym same) (omega arith))
        | Prices prices grows good own same ↦ Own grows (subst (λ (u : Book). room_of u ≤ room_of b) (sym same) (omega arith))
        | Replaces plan grows cheaper same ↦
            let cost = cost_of b.case.instance plan in
            Own grows (subst (λ (u : Book). room_of u ≤ room_of b) (sym same)
            (omega (arith, count-outdone is_back refl cost b.slots, count-outdone is_held refl cost b.slots, count-outdone is_parked refl cost b.slots)))
        | Ends w runs none same ↦ Less (subst (λ (u : Book). suc (room_of u) ≤ room_of b) (sym same) (omega (arith, ends-count b w nine runs)))
        | GivesBack w id runs at same ↦
            let slots = slots_room-turned b id (slot.Held w) slot.Back at in
            Less (subst (λ (u : Book). suc (room_of u) ≤ room_of b) (sym same) (omega (arith, slots, ends-count b w nine runs)))
      ]

  -- an accepted event that is neither a posting nor a replace nor a shown cost uses one entry of the room
  pub room-falls : (e : Event) → IsOwed e → is_growing e ≡ false → is_acceptance (Step.step broken b e).1 ≡ true → suc (room_of (Step.step broken b e).0) ≤ room_of b
  room-falls e owed plain accepted =
      elim (room-left e owed) [
        | Less h ↦ h
        | Own grows h ↦ absurd (true≢false (sym grows ∙ plain))
        | Refusal refused same ↦ absurd (true≢false (sym accepted ∙ refused))
      ]

  -- no event makes the room larger
  pub room-no_more : (e : Event) → IsOwed e → room_of (Step.step broken b e).0 ≤ room_of b
  room-no_more e owed =
      elim (room-left e owed) [
        | Less h ↦ omega (arith, h)
        | Own grows h ↦ h
        | Refusal refused same ↦ omega (arith, ap room_of same)
      ]

  own-entry : (e : Event) → is_growing e ≡ true → length (cuts_of e) + length (plans_of e) + length (prices_of e) + count_by is_show_low (entry_of e ∷ []) ≡ 1
  own-entry (post cut) grows = refl
  own-entry (show_low id number shown) grows = refl
  own-entry (post_prices prices) grows = refl
  own-entry (replace plan) grows = refl
  own-entry _ grows = absurd (true≢false (sym grows))

  lows-append : (es more : List Entry) → count_by is_show_low (es ++ more) ≡ count_by is_show_low es + count_by is_show_low more
  lows-append es more = sum_by-append (λ e. cond (is_show_low e) 1 0) es more

  pub room-step : KeepsRoom b → (e : Event) → IsOwed e → KeepsRoom (Step.step broken b e).0
  room-step keeps e owed =
      elim (each-step broken b e) [
        | Refused r same ↦ subst KeepsRoom (sym same) keeps
        | Accepted new ↦
            let long = ap length new.history ∙ length-append b.history (entry_of e ∷ []) in
            let cuts = ap length new.cuts ∙ length-append b.cuts (cuts_of e) in
            let plans = ap length new.plans ∙ length-append b.plans (plans_of e) in
            let prices = ap length new.prices ∙ length-append b.prices (prices_of e) in
            let nodes = ap (λ (c : Case). c.nodes) new.case in
            let lows = ap (count_by is_show_low) new.history ∙ lows-append b.history (entry_of e ∷ []) in
            elim (room-left e owed) [
              | Less h ↦ record { room = omega (arith, keeps.room, h, long, cuts, plans, prices, nodes, lows) }
              | Own grows h ↦ record { room = omega (arith, keeps.room, h, long, cuts, plans, prices, nodes, lows, own-entry e grows) }
              | Refusal refused same ↦ subst KeepsRoom (sym same) keeps
            ]
      ]

pub opening-room : (case : Case) (plan : Plan) → KeepsRoom (opening_book case plan)
opening-room case plan = record { room = by_bound (nat_le (cost_of case.instance plan) (bound_at case.instance root)) }
  where
    by_bound : (t : Bool) → 0 + (3 * (case.nodes - 0) + 3 * (one (is_back (cond t (slot.Closed by.Bound) slot.Fresh)) + 0) + 2 * (one (is_held (cond t (slot.Closed by.Bound) slot.Fresh)) + 0) + (one (is_parked (cond t (slot.Closed by.Bound) slot.Fresh)) + 0) + 2 * WORKERS_AND_DRIVER) ≤ 3 * case.nodes + 32 + 0 + 0 + 0 + 0
    by_bound true = omega arith
    by_bound false = omega arith

pub opening-budget : (case : Case) (plan : Plan) → KeepsBudget (opening_book case plan)
opening-budget case plan = record { used = omega arith; taken = by_bound (nat_le (cost_of case.instance plan) (bound_at case.instance root)); few = omega arith }
  where
    by_bound : (t : Bool) → one (is_taken (cond t (slot.Closed by.Bound) slot.Fresh)) + 0 ≤ 0
    by_bound true = omega arith
    by_bound false = omega arith
