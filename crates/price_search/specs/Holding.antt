-- What becomes of a slot that is held, as events change the hand of who holds it.
use Rattle.std.specs.Prelude.{Bool, true, false, Ok, Err}
use Rattle.std.specs.declared.result.Result.{Result}

-- what is so of the hand as it began and as it was is so of it as it is
abbrev pub Stays : {Hand : Type 0} (so : Hand → Hand → Type 0) (old new : Hand) → Type 0
Stays {Hand = Hand} so old new = (began : Hand) → so began old → so began new

-- the slot is held no more where it was closed, and else is held still
abbrev pub Ends : {Hand : Type 0} (holds freed : Hand → Hand → Type 0) (old new : Hand) (closed : Bool) → Type 0
Ends {Hand = Hand} holds freed old new true = (began : Hand) → holds began old → freed began new
Ends holds freed old new false = Stays holds old new

-- whether it was closed; it wasn't where the search ended early
abbrev pub was_closed : {Stop : Type 0} → Result Bool Stop → Bool
was_closed (Ok closed) = closed
was_closed (Err stop) = false
