-- What a book says of its best plan.
use Rattle.std.specs.Prelude.{ℕ, ◌-◌, min, ◌||◌, map, filter, if◌then◌else◌, Some, None}
use Rattle.std.specs.declared.option.Option.{Option}
use Rattle.lock_model.specs.declared.verdict.Verdict.{Verdict}
use Rattle.lock_rules.specs.Bound.{least_number}
use Rattle.book_rules.specs.declared.book.SlotState.{SlotState}
use Rattle.book_rules.specs.Book.{Slot, Book, slot_at, slot_low, best_cost, is_fresh, is_back, is_held, is_parked, is_live, has_slot, first_slot, ships_at}
use Rattle.lock_rules.specs.Node.{Node}
use Rattle.lock_model.specs.declared.verdict.Verdict.TheVariants as verdict
use Rattle.book_rules.specs.declared.book.SlotState.TheVariants as slot

-- The least that is known of the open, held and parked slots, and less than the best cost: while one of them is left, the best plan
-- isn't proved cheapest.
abbrev pub low_of : Book → ℕ
low_of b = min (least_number (map slot_low (filter (λ (s : Slot). is_live s.state) b.slots))) (best_cost b - 1)

-- what a parked slot says
abbrev pub parked_verdict : Book → Node → SlotState → Verdict
parked_verdict b node (slot.Parked c p) = verdict.OpenTurns c (ships_at node c p) b.case.turns (low_of b)
parked_verdict b node _ = verdict.Optimal

-- the verdict where nothing is open or held, by the first parked slot
abbrev pub turns_verdict : Book → Option ℕ → Verdict
turns_verdict b None = verdict.Optimal
turns_verdict b (Some id) = parked_verdict b (slot_at b id).node (slot_at b id).state

abbrev pub verdict_of : Book → Verdict
verdict_of b =
    if has_slot b (λ state. is_fresh state || is_back state || is_held state)
    then verdict.OpenNodes b.used (low_of b)
    else turns_verdict b (first_slot b is_parked)
