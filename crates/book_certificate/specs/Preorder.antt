-- The slots of a book in preorder of the tree that they make, and their marks.
use Rattle.std.specs.Prelude.{ℕ, zero, suc, List, [], ◌∷◌, length, Some, None}
use Rattle.std.specs.declared.option.Option.{Option}
use Rattle.std.specs.List.{range_with_len, flat_map}
use Rattle.book_rules.specs.declared.book.SlotState.{SlotState}
use Rattle.book_rules.specs.declared.book.ShownLow.{ShownLow}
use Rattle.book_rules.specs.declared.book.SlotState.TheVariants as slot
use Rattle.certificate_rules.specs.declared.certificate.Mark.{Mark}
use Rattle.certificate_rules.specs.declared.certificate.Mark.TheVariants as mark
use Rattle.book_rules.specs.Book.{Book, slot_at}
use Rattle.book_rules.specs.Family.{child_count}

-- an open leaf, by the prices by which a cost was shown of its node
abbrev pub open_mark : Option ShownLow → Mark
open_mark None = mark.Open
open_mark (Some low) = mark.OpenPriced low.prices

-- the mark of a slot by its state and what is shown of it; a slot that is open, held or parked is an open leaf
abbrev pub mark_of : Option ShownLow → SlotState → Mark
mark_of shown (slot.Split first) = mark.Split
mark_of shown (slot.Closed why) = mark.Leaf why
mark_of shown _ = open_mark shown

abbrev pub mark_at : Book → ℕ → Mark
mark_at b id = mark_of (slot_at b id).shown (slot_at b id).state

-- the children of a split slot in order, from slot `first` on
abbrev pub children_from : Book → ℕ → ℕ → List ℕ
children_from b id first = range_with_len first (child_count b.case.instance (slot_at b id).node)

-- the children of slot `id` in order, by its state; only a split slot has some
abbrev pub children_slots : Book → ℕ → SlotState → List ℕ
children_slots b id (slot.Split first) = children_from b id first
children_slots b id _ = []

-- slot `id` and all slots below it, each slot before its children and these in order; so many ships are lacking at most
abbrev pub preorder : Book → ℕ → ℕ → List ℕ
preorder b zero id = id ∷ []
preorder b (suc lacking) id = id ∷ flat_map (preorder b lacking) (children_slots b id (slot_at b id).state)

-- all slots, from the root on
abbrev pub slots_in_order : Book → List ℕ
slots_in_order b = preorder b (length b.case.instance.ships) 0
