-- Where the ships of each group of a node lie.
use Rattle.std.specs.Prelude.{ℕ, ◌≡◌, ◌<◌, Bool, true, false, ◌&&◌, List, [], ◌∷◌, length, All, slice_index_or, nat_eq, if◌then◌else◌}
use Rattle.lock_model.specs.Fitting.{deck_of}
use Rattle.lock_model.specs.Placement.{IsLegalPlacement}
use Rattle.lock_model.specs.Cargo.{HasNoClash}
use Rattle.lock_model.specs.declared.instance.Instance.{Instance}
use Rattle.lock_model.specs.declared.group.Group.{Group}
use Rattle.lock_model.specs.declared.placement.Spot.{Spot}
use Rattle.lock_rules.specs.Node.{line_at}
use Rattle.node_work.specs.declared.moorings.Mooring.{Mooring}

-- two lists of ships are the same
abbrev pub same_ships : List ℕ → List ℕ → Bool
same_ships [] [] = true
same_ships [] (t ∷ ts) = false
same_ships (s ∷ ss) [] = false
same_ships (s ∷ ss) (t ∷ ts) = nat_eq s t && same_ships ss ts

-- the spots of the first of these moorings that is of chamber c and the ships S
abbrev pub spots_in : List Mooring → ℕ → List ℕ → List Spot
spots_in [] c S = []
spots_in (m ∷ ms) c S = if nat_eq m.chamber c && same_ships m.ships S then m.spots else spots_in ms c S

-- the spots of each group
abbrev pub spots_by : List Mooring → ℕ → Group → List Spot
spots_by moorings c g = spots_in moorings c g.ships

-- the ships lie legally in their chamber, and no two of them clash
pub record IsLegallyMoored (I : Instance) (m : Mooring) : Type 0 where
  pub placed : IsLegalPlacement (deck_of I m.chamber m.ships) m.spots
  pub clear : HasNoClash (deck_of I m.chamber m.ships)

-- one of these moorings is of chamber c and the ships S
pub record HasMooring (moorings : List Mooring) (c : ℕ) (S : List ℕ) : Type 0 where
  pub at : ℕ
  pub known : at < length moorings
  pub mooring : Mooring
  pub is : slice_index_or moorings at mooring ≡ mooring
  pub chamber : mooring.chamber ≡ c
  pub ships : mooring.ships ≡ S

-- each group of the node has its mooring, and all moorings are legal
pub record AreMoored (I : Instance) (moorings : List Mooring) (lines : List (List Group)) : Type 0 where
  pub legal : All (IsLegallyMoored I) moorings
  pub each : (c : ℕ) → c < length I.chambers → All (λ g. HasMooring moorings c g.ships) (line_at lines c)
