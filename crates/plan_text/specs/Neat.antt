-- Plans whose ships are pushed to the near end.
use Rattle.std.specs.Prelude.{ℕ, ◌≡◌, ◌<◌, length}
use Rattle.lock_model.specs.Fitting.{deck_of}
use Rattle.lock_model.specs.Normal.{IsNormal}
use Rattle.lock_model.specs.declared.instance.Instance.{Instance}
use Rattle.lock_model.specs.declared.plan.Lockage.{Lockage}
use Rattle.lock_model.specs.declared.plan.Plan.{Plan}
use Rattle.lock_rules.specs.Lines.{lockage_at}
use Rattle.deck_laws.specs.Shift.{AreNoFarther}

-- the same lockage but for the x of its spots, none of which is greater
pub record IsNearer (l m : Lockage) : Type 0 where
  pub chamber : m.chamber ≡ l.chamber
  pub way : m.way ≡ l.way
  pub ships : m.ships ≡ l.ships
  pub start : m.start ≡ l.start
  pub spots : AreNoFarther l.spots m.spots

-- as many lockages, each the same but for x, and no x greater
pub record DiffersInX (P Q : Plan) : Type 0 where
  pub count : length Q.lockages ≡ length P.lockages
  pub each : (p : ℕ) → p < length P.lockages → IsNearer (lockage_at P p) (lockage_at Q p)

-- the placement of the lockage is normal
pub record IsNeat (I : Instance) (l : Lockage) : Type 0 where
  pub normal : IsNormal (deck_of I l.chamber l.ships) l.spots

-- all placements are normal
pub record AreNeat (I : Instance) (P : Plan) : Type 0 where
  pub each : (p : ℕ) → p < length P.lockages → IsNeat I (lockage_at P p)
