-- Which Fresh slot is taken next.
use Rattle.std.specs.Prelude.{ℕ, suc, Bool, true, false, ◌&&◌, List, [], ◌∷◌, filter, nat_eq, nat_lt, if◌then◌else◌, Some, None}
use Rattle.std.specs.declared.option.Option.{Option}
use Rattle.book_rules.specs.declared.book.SlotState.{SlotState}
use Rattle.book_rules.specs.Book.{Slot, Book, slot_at, is_fresh}
use Rattle.book_rules.specs.declared.book.SlotState.TheVariants as slot

-- of some numbers, the first that no other one beats
abbrev pub keep_better : (ℕ → ℕ → Bool) → ℕ → Option ℕ → Option ℕ
keep_better beats a None = Some a
keep_better beats a (Some c) = if beats c a then Some c else Some a

abbrev pub first_best : (ℕ → ℕ → Bool) → List ℕ → Option ℕ
first_best beats [] = None
first_best beats (a ∷ more) = keep_better beats a (first_best beats more)

-- the numbers of the slots from id on that pass a test, rising
abbrev pub numbers_where : (Slot → Bool) → ℕ → List Slot → List ℕ
numbers_where test id [] = []
numbers_where test id (s ∷ ss) = if test s then id ∷ numbers_where test (suc id) ss else numbers_where test (suc id) ss

-- the Fresh children of slot id
abbrev pub fresh_children : Book → ℕ → List ℕ
fresh_children b id = numbers_where (λ s. is_fresh s.state && nat_eq s.parent id) 0 b.slots

abbrev pub is_split : SlotState → Bool
is_split (slot.Split first) = true
is_split _ = false

-- the number of the first child
abbrev pub first_child : SlotState → ℕ
first_child (slot.Split first) = first
first_child _ = 0

abbrev pub is_some_number : List ℕ → Bool
is_some_number [] = false
is_some_number (n ∷ ns) = true

-- the splits that have a Fresh child
abbrev pub waiting_splits : Book → List ℕ
waiting_splits b = filter (λ id. is_some_number (fresh_children b id)) (numbers_where (λ s. is_split s.state) 0 b.slots)

-- of the Fresh children of a split, that of the least bound, the smallest number on a tie
abbrev pub least_fresh : Book → Option ℕ → Option ℕ
least_fresh b None = None
least_fresh b (Some id) = first_best (λ c a. nat_lt (slot_at b c).bound (slot_at b a).bound) (fresh_children b id)

-- the root where it is Fresh, else a Fresh child of the split of the greatest first child
abbrev pub next_fresh : Book → Option ℕ
next_fresh b =
    if is_fresh (slot_at b 0).state
    then Some 0
    else least_fresh b (first_best (λ c a. nat_lt (first_child (slot_at b a).state) (first_child (slot_at b c).state)) (waiting_splits b))
