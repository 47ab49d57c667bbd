-- The rest that is asked for, of a day that is known beforehand or of a day as it is lived. I is the instance, G the given plan, and D says which rest and from which minute on.
use Rattle.std.specs.Prelude.{ℕ}
use Rattle.lock_model.specs.declared.instance.Instance.{Instance}
use Rattle.lock_model.specs.declared.plan.Plan.{Plan}
use Rattle.command_words.specs.declared.commands.DayRest.{DayRest}
use Rattle.command_words.specs.declared.commands.DayRest.TheVariants.{Known, Lived}
use Rattle.replan.specs.declared.refusal.ReplanError.{ReplanError}
use Rattle.replan.specs.declared.remainder.Residual.{Residual}
use Rattle.replan.specs.GoingOn.{CanGoOn}
use Rattle.replan.specs.Kept.{kept_of, kept_places, CanBeKept}
use Rattle.replan.specs.Lived.{CanBeLived, IsLivedRest, IsLivedLeft, IsLivedRefusal}
use Rattle.replan.specs.PartBreaks.{IsPartRefusal}
use Rattle.replan.specs.Rest.{IsRest, IsLeft}
use Rattle.replan.specs.Together.{Keeps}

abbrev pub minute_of : DayRest → ℕ
minute_of (Known minute) = minute
minute_of (Lived minute) = minute

-- the lockages that are kept
abbrev pub kept_for : Plan → DayRest → Plan
kept_for G D = kept_of G (minute_of D)

-- there is a way on: the kept lockages can be kept, and of a day as it is lived the begun turns end in time
abbrev pub CanKeep : Instance → Plan → DayRest → Type 0
CanKeep I G (Known minute) = CanBeKept I (kept_of G minute)
CanKeep I G (Lived minute) = CanBeLived I G minute

-- why there is none
abbrev pub IsRefusalFor : Instance → Plan → DayRest → ReplanError → Type 0
IsRefusalFor I G (Known minute) error = IsPartRefusal I (kept_of G minute) (kept_places G minute) error
IsRefusalFor I G (Lived minute) error = IsLivedRefusal I G minute error

-- the rest
abbrev pub IsRestFor : Instance → Plan → DayRest → Instance → Type 0
IsRestFor I G (Known minute) R = IsRest I (kept_of G minute) minute R
IsRestFor I G (Lived minute) R = IsLivedRest I G minute R

-- what is left of the instance
abbrev pub IsLeftFor : Instance → Plan → DayRest → Residual → Type 0
IsLeftFor I G (Known minute) r = IsLeft I (kept_of G minute) minute r
IsLeftFor I G (Lived minute) r = IsLivedLeft I G minute r

-- the plans among which one is looked for: those that keep the kept lockages, and of a day as it is lived those that can still be carried out
abbrev pub GoesOnFrom : Instance → Plan → DayRest → Plan → Type 0
GoesOnFrom I G (Known minute) P = Keeps (kept_of G minute) minute P
GoesOnFrom I G (Lived minute) P = CanGoOn I G minute P
