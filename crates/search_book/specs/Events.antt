-- The machine's event of each event, and what its caller owes.
use Rattle.std.specs.Prelude.{◌≤◌, ⊤}
use Rattle.lock_model.specs.declared.limits.TheConstants.{WORKERS}
use Rattle.refute_rules.specs.Spots.{IsSpotHard}
use Rattle.book_rules.specs.Events as machine
use Rattle.search_book.specs.declared.event.Event.{Event}
use Rattle.search_book.specs.declared.event.Event.TheVariants as event

abbrev pub event_of : Event → machine.Event
event_of (event.Take w) = machine.take w
event_of (event.Split id) = machine.split id
event_of (event.Close id why) = machine.close id why
event_of (event.Post cut) = machine.post cut.value
event_of (event.Park id chamber place hard) = machine.park id chamber place hard.value.deck hard.value.turns
event_of (event.Replace plan) = machine.replace plan.value
event_of (event.PostPrices prices) = machine.post_prices prices.value
event_of (event.Release w) = machine.release w

-- a worker's number is at most WORKERS, the driver's, and a lent deck, which is hard by its type, is spot-hard too
abbrev pub IsAllowed : Event → Type 0
IsAllowed (event.Take w) = w ≤ WORKERS
IsAllowed (event.Release w) = w ≤ WORKERS
IsAllowed (event.Park id chamber place hard) = IsSpotHard hard.value.deck hard.value.turns
IsAllowed _ = ⊤
