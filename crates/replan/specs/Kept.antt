-- The lockages of a plan that start before a minute; the others are forgotten.
use Rattle.std.specs.Prelude.{ℕ, ◌≤◌, List, Bool, length, filter, nat_lt, All}
use Rattle.lock_model.specs.declared.instance.Instance.{Instance}
use Rattle.lock_model.specs.declared.plan.Lockage.{Lockage}
use Rattle.lock_model.specs.declared.plan.Plan.{Plan}
use Rattle.lock_rules.specs.Arrival.{numbers_from}
use Rattle.lock_rules.specs.Lines.{lockage_at, end_of}
use Rattle.lock_rules.specs.Plan.{IsLegalPart}

abbrev pub starts_before : ℕ → Lockage → Bool
starts_before M l = nat_lt l.start M

-- the lockages that start before minute M, in the plan's order
abbrev pub kept_of : Plan → ℕ → Plan
kept_of P M = record { lockages = filter (starts_before M) P.lockages }

-- their places in the plan
abbrev pub kept_places : Plan → ℕ → List ℕ
kept_places P M = filter (λ p. starts_before M (lockage_at P p)) (numbers_from 0 (length P.lockages))

-- the last minute at which a chamber of an instance may open
abbrev pub last_opening : ℕ
last_opening = 1000000

-- the lockage is over when a chamber may still open
pub record EndsInTime (I : Instance) (l : Lockage) : Type 0 where
  pub ends : end_of I l ≤ last_opening

-- A part of a plan that a rest can follow: it is legal, and all its lockages end in time.
pub record CanBeKept (I : Instance) (K : Plan) : Type 0 where
  pub legal : IsLegalPart I K
  pub in_time : All (EndsInTime I) K.lockages
