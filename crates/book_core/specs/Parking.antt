-- The group that a parking names.
use Rattle.std.specs.Prelude.{ℕ, Bool, false, Some, None}
use Rattle.std.specs.declared.option.Option.{Option}
use Rattle.lock_model.specs.Deck.{Deck}
use Rattle.lock_model.specs.declared.group.Group.{Group}
use Rattle.book_rules.specs.Book.{Book, slot_at, group_at}
use Rattle.book_rules.specs.Step.{is_lent}

-- there is a group, its deck is the lent one, and the lent turns are enough
abbrev pub group_lent : Book → ℕ → Deck → ℕ → Option Group → Bool
group_lent b c deck turns None = false
group_lent b c deck turns (Some g) = is_lent b c g deck turns

-- the same of group p of chamber c of the slot's node
abbrev pub names_lent : Book → ℕ → ℕ → ℕ → Deck → ℕ → Bool
names_lent b id c p deck turns = group_lent b c deck turns (group_at (slot_at b id).node c p)
