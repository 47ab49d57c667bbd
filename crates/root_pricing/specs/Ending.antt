-- Whether the root was closed.
use Rattle.std.specs.Prelude.{Bool, true, false, Ok, Err}
use Rattle.std.specs.declared.result.Result.{Result}
use Rattle.root_pricing.specs.declared.ending.AfterAscent.{AfterAscent}
use Rattle.root_pricing.specs.declared.ending.AfterAscent.TheVariants as After
use Rattle.root_pricing.specs.declared.sweeping.AfterSweep.{AfterSweep}
use Rattle.root_pricing.specs.declared.sweeping.AfterSweep.TheVariants.{Closed, Again, Open}

-- whether a sweep closed it
abbrev pub was_ended : {Stop : Type 0} → Result AfterSweep Stop → Bool
was_ended (Ok Closed) = true
was_ended (Ok Again) = false
was_ended (Ok Open) = false
was_ended (Err stop) = false

-- whether it was closed by what comes after an ascent
abbrev pub was_swept : {Stop : Type 0} → Result AfterAscent Stop → Bool
was_swept (Ok After.Closed) = true
was_swept (Ok After.Ascend) = false
was_swept (Ok After.Split) = false
was_swept (Err stop) = false
