-- How far the marks of a book are written.
use Rattle.std.specs.Prelude.{ℕ, suc, ◌≡◌, ◌-◌, List, ◌++◌, length, map}
use Rattle.std.specs.List.{range_with_len, flat_map}
use Rattle.certificate_rules.specs.declared.certificate.Mark.{Mark}
use Rattle.book_rules.specs.Book.{Book, slot_at}
use Rattle.book_certificate.specs.Preorder.{mark_at, preorder}

-- how many ships the node of a slot lacks
abbrev pub lacking_at : Book → ℕ → ℕ
lacking_at b id = length b.case.instance.ships - (slot_at b id).node.depth

-- the marks of slot `id` and of all slots below it were appended
pub record AppendsMarks (b : Book) (id : ℕ) (old new : List Mark) : Type 0 where
  pub grown : new ≡ old ++ map (mark_at b) (preorder b (lacking_at b id) id)

-- those of the first n children of slot `id`, and of all slots below them, were appended
pub record AppendsChildMarks (b : Book) (id first n : ℕ) (old new : List Mark) : Type 0 where
  pub grown : new ≡ old ++ map (mark_at b) (flat_map (preorder b (length b.case.instance.ships - suc (slot_at b id).node.depth)) (range_with_len first n))
