-- A chamber's last lockage by start.
use Rattle.std.specs.Prelude.{ℕ, ◌≡◌, ◌≤◌, ◌<◌, List, [], ◌∷◌, ◌++◌, length, filter, nat_eq, drop, All, Option, Some, None}
use Rattle.lock_model.specs.Fleet.{chamber_at}
use Rattle.lock_model.specs.declared.chamber.Chamber.{Chamber}
use Rattle.lock_model.specs.declared.instance.Instance.{Instance}
use Rattle.lock_model.specs.declared.plan.Lockage.{Lockage}
use Rattle.lock_model.specs.declared.plan.Plan.{Plan}
use Rattle.lock_rules.specs.Lawful.{stand_after}
use Rattle.lock_rules.specs.Lines.{sorted_by_start, lockage_at, end_of}

-- the chamber's lockages from a place of the plan on, by start
abbrev pub line_from : Plan → ℕ → ℕ → List Lockage
line_from P c place = sorted_by_start (filter (λ l. nat_eq l.chamber c) (drop place P.lockages))

-- lockage p is the last of these
pub record EndsWith (P : Plan) (c place p : ℕ) : Type 0 where
  pub within : p < length P.lockages
  pub own : (lockage_at P p).chamber ≡ c
  pub before : List Lockage
  pub line : line_from P c place ≡ before ++ lockage_at P p ∷ []
  pub rising : All (λ l. l.start ≤ (lockage_at P p).start) before

abbrev pub IsLastFrom : Plan → ℕ → ℕ → Option ℕ → Type 0
IsLastFrom P c place None = line_from P c place ≡ []
IsLastFrom P c place (Some p) = EndsWith P c place p

-- the chamber as a lockage leaves it
abbrev pub left_by : Instance → ℕ → Lockage → Chamber
left_by I c l = record (chamber_at I c) { stands = stand_after l.way; opens = end_of I l }
