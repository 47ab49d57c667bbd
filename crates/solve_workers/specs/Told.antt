-- What a reply tells.
use Rattle.std.specs.Prelude.{ℕ, Bool, true, false, Some, None, ⊤}
use Rattle.std.specs.declared.option.Option.{Option}
use Rattle.lock_rules.specs.Node.{Node}
use Rattle.book_core.specs.declared.reply.Grant.{Grant}
use Rattle.book_core.specs.declared.reply.Grant.TheVariants as grant
use Rattle.book_core.specs.declared.reply.Reply.{Reply}
use Rattle.book_core.specs.declared.reply.Reply.TheVariants as reply
use Rattle.book_core.specs.declared.reply.Refusal.TheVariants as refusing

-- the slot that was given
abbrev pub slot_in : Grant → Option ℕ
slot_in (grant.Slot id) = Some id
slot_in _ = None

-- the slot that was given, and its node
abbrev pub node_in : Reply → Option (ℕ × Node)
node_in (reply.Node id node) = Some (id, node)
node_in _ = None

-- the number of the cut that was kept
abbrev pub number_in : Reply → Option ℕ
number_in (reply.Posted number) = Some number
number_in _ = None

abbrev pub is_closed : Reply → Bool
is_closed reply.Closed = true
is_closed _ = false

abbrev pub is_made : Reply → Bool
is_made (reply.Made count) = true
is_made _ = false

abbrev pub is_want : Reply → Bool
is_want (reply.Refused refusing.NoMemory) = true
is_want _ = false

-- a slot was split, or there was no memory
abbrev pub IsMadeOrWant : Reply → Type 0
IsMadeOrWant (reply.Made count) = ⊤
IsMadeOrWant (reply.Refused refusing.NoMemory) = ⊤
IsMadeOrWant _ = ⊥

-- a cut was kept, or there was no memory
abbrev pub IsPostedOrWant : Reply → Type 0
IsPostedOrWant (reply.Posted number) = ⊤
IsPostedOrWant (reply.Refused refusing.NoMemory) = ⊤
IsPostedOrWant _ = ⊥
