-- How many entries the history may still need.
use Rattle.std.specs.Prelude.{ℕ, ◌+◌, ◌-◌, ◌*◌, Bool, List, [], ◌∷◌, if◌then◌else◌}
use Rattle.book_rules.specs.declared.book.SlotState.{SlotState}
use Rattle.book_rules.specs.Book.{Slot, Book, is_back, is_held, is_parked}

-- how many slots are in such a state
abbrev pub count_slots : (SlotState → Bool) → List Slot → ℕ
count_slots test [] = 0
count_slots test (s ∷ ss) = (if test s.state then 1 else 0) + count_slots test ss

-- how many workers have not released
abbrev pub count_false : List Bool → ℕ
count_false [] = 0
count_false (e ∷ es) = (if e then 0 else 1) + count_false es

-- The entries of the history that may still come, those of postings, replace and shown costs left out: three for each node of the budget that
-- isn't used and each Back slot, two for each Held slot, one for each Parked slot, two for each worker that hasn't ended.
abbrev pub room_of : Book → ℕ
room_of b =
    3 * (b.case.nodes - b.used) + 3 * count_slots is_back b.slots + 2 * count_slots is_held b.slots + count_slots is_parked b.slots
    + 2 * count_false b.ended
