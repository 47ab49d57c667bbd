-- Why the lockages that start before a minute can't be kept.
use Rattle.std.specs.Prelude.{ℕ, ◌≡◌, ◌<◌, List, length, slice_index_or}
use Rattle.lock_model.specs.declared.instance.Instance.{Instance}
use Rattle.lock_model.specs.declared.plan.Plan.{Plan}
use Rattle.lock_rules.specs.Lines.{lockage_at, end_of}
use Rattle.lock_rules.specs.Plan.{IsLegalPart}
use Rattle.chamber_times.specs.declared.breaks.BrokenTime.{BrokenTime}
use Rattle.chamber_times.specs.declared.breaks.BrokenTime.TheVariants.{Early, Soon, Shut}
use Rattle.mooring_rules.specs.PlanBreaks.{IsFirstBrokenPart}
use Rattle.mooring_rules.specs.declared.breaks.BrokenPlan.{BrokenPlan}
use Rattle.mooring_rules.specs.declared.breaks.BrokenPlan.TheVariants.{Shape, Double, Missing, Deck, Clash, Time}
use Rattle.replan.specs.declared.refusal.ReplanError.{ReplanError}
use Rattle.replan.specs.declared.refusal.ReplanError.TheVariants.{Kept, Late}
use Rattle.replan.specs.Kept.{last_opening, EndsInTime}

-- lockage p ends too late, and each before it ends in time
pub record IsFirstLate (I : Instance) (K : Plan) (p : ℕ) : Type 0 where
  pub place : p < length K.lockages
  pub late : last_opening < end_of I (lockage_at K p)
  pub before : (k : ℕ) → k < p → EndsInTime I (lockage_at K k)

-- the place in the plan of lockage p of a part, whose lockages have these places
abbrev pub place_of : List ℕ → ℕ → ℕ
place_of places p = slice_index_or places p 0

abbrev pub renamed_time : List ℕ → BrokenTime → BrokenTime
renamed_time places (Early p) = Early (place_of places p)
renamed_time places (Soon p) = Soon (place_of places p)
renamed_time places (Shut p) = Shut (place_of places p)

-- the same break, its lockage told by its place in the plan
abbrev pub renamed : List ℕ → BrokenPlan → BrokenPlan
renamed places (Shape p) = Shape (place_of places p)
renamed places (Double s) = Double s
renamed places (Missing s) = Missing s
renamed places (Deck p b) = Deck (place_of places p) b
renamed places (Clash p i j) = Clash (place_of places p) i j
renamed places (Time c b) = Time c (renamed_time places b)

-- Why a part K of a plan can't be kept, where its lockages have these places in the plan: its first break, or else its first late lockage.
abbrev pub IsPartRefusal : Instance → Plan → List ℕ → ReplanError → Type 0
IsPartRefusal I K places (Kept b) = (k : BrokenPlan) × IsFirstBrokenPart I K k × (b ≡ renamed places k)
IsPartRefusal I K places (Late p) = (k : ℕ) × IsLegalPart I K × IsFirstLate I K k × (p ≡ place_of places k)
