-- What has been read of an instance so far.
use Rattle.std.specs.Prelude.{◌≢◌, ◌≤◌, List, [], length, All, AllPairs}
use Rattle.lock_model.specs.declared.limits.TheConstants.{CHAMBERS, SHIPS}
use Rattle.lock_model.specs.Instance.{IsChamber, IsShip}
use Rattle.lock_model.specs.declared.chamber.Chamber.{Chamber}
use Rattle.lock_model.specs.declared.instance.Instance.{Instance}
use Rattle.lock_model.specs.declared.ship.Ship.{Ship}

-- the chambers and ships of the lines so far, in order
pub record Draft : Type 0 where
  pub chambers : List Chamber
  pub ships : List Ship

abbrev pub no_draft : Draft
no_draft = record { chambers = []; ships = [] }

-- what has been read where these are all chambers and ships
abbrev pub draft_of : Instance → Draft
draft_of I = record { chambers = I.chambers; ships = I.ships }

-- what an instance keeps, but for at least one chamber and one ship
pub record IsDraft (chambers : List Chamber) (ships : List Ship) : Type 0 where
  pub few_chambers : length chambers ≤ CHAMBERS
  pub few_ships : length ships ≤ SHIPS
  pub chamber : All IsChamber chambers
  pub ship : All IsShip ships
  pub chamber_names : AllPairs (λ a b. a.name ≢ b.name) chambers
  pub ship_names : AllPairs (λ a b. a.name ≢ b.name) ships

-- what it has once it can be an instance
pub record IsWholeDraft (draft : Draft) : Type 0 where
  pub chamber : 1 ≤ length draft.chambers
  pub ship : 1 ≤ length draft.ships
