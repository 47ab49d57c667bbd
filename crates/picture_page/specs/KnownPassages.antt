-- What the passages of a day name is in the instance and in the plan.
use Rattle.std.specs.Prelude.{◌<◌, List, length, All}
use Rattle.lock_model.specs.declared.instance.Instance.{Instance}
use Rattle.lock_model.specs.declared.plan.Plan.{Plan}
use Rattle.lock_rules.specs.Lines.{lockage_at}
use Rattle.day_play.specs.Lawful.{IsWholeLockage}
use Rattle.picture_page.specs.declared.passage.Passage.{Passage}

-- the chamber of a passage is in the instance, and so are its ships
pub record HasChamber (I : Instance) (p : Passage) : Type 0 where
  pub chamber : p.chamber < length I.chambers

pub record HasShips (I : Instance) (p : Passage) : Type 0 where
  pub ships : All (λ s. s < length I.ships) p.ships

-- the chamber of a passage is in the instance, and in the plan it is a lockage of its ships with a spot for each
pub record IsKnown (I : Instance) (P : Plan) (p : Passage) : Type 0 where
  pub chamber : p.chamber < length I.chambers
  pub place : p.place < length P.lockages
  pub whole : IsWholeLockage I (lockage_at P p.place)

-- so it is of all passages
pub record AreKnown (I : Instance) (P : Plan) (ps : List Passage) : Type 0 where
  pub chambers : All (HasChamber I) ps
  pub ships : All (HasShips I) ps
  pub known : All (IsKnown I P) ps
