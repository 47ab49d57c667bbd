-- Which replies accept their event.
use Rattle.std.specs.Prelude.{ℕ, Bool, true, false, if◌then◌else◌}
use Rattle.std.specs.Option.{option_map_or}
use Rattle.book_rules.specs.Events as machine
use Rattle.book_core.specs.declared.reply.Reply.{Reply}
use Rattle.book_core.specs.declared.reply.Reply.TheVariants as reply
use Rattle.book_core.specs.declared.reply.Refusal.TheVariants as refusing
use Rattle.book_core.specs.Replies.{told}

-- the reply accepts its event, as the machine's does; want of memory accepts nothing
abbrev pub is_accepting : Reply → Bool
is_accepting r = option_map_or machine.is_acceptance (told r) false

-- how many events a reply accepts
abbrev pub accepted : Reply → ℕ
accepted r = if is_accepting r then 1 else 0

-- nothing is open, and a slot is held
abbrev pub is_idle : Reply → Bool
is_idle (reply.Refused refusing.Idle) = true
is_idle _ = false
