-- The ship sets that the cuts forbid a chamber.
use Rattle.std.specs.Prelude.{ℕ, ◌≡◌, ◌<◌, ◌≤◌, List, [], ◌∷◌, ◌++◌, length, All, Contains}
use Rattle.lock_model.specs.Fleet.{chamber_at}
use Rattle.lock_model.specs.declared.group.Group.{Group}
use Rattle.lock_model.specs.declared.chamber.Chamber.{Chamber}
use Rattle.lock_model.specs.declared.instance.Instance.{Instance}
use Rattle.price_rules.specs.Prices.{PlainCut, Spares}
use Rattle.price_terms.specs.declared.cut.ChamberCut.{ChamberCut}

-- equal clearance and gaps, and at most the other's length and width
pub record IsNoRoomierThan (chamber other : Chamber) : Type 0 where
  pub end : chamber.end ≡ other.end
  pub gap : chamber.gap ≡ other.gap
  pub side : chamber.side ≡ other.side
  pub long : chamber.length ≤ other.length
  pub wide : chamber.width ≤ other.width

-- Whatever group has the cut's ships is hit in chamber c: chamber and ships are the instance's, and c is no roomier.
pub record Bears (I : Instance) (c : ℕ) (cut : ChamberCut) : Type 0 where
  pub held : cut.chamber < length I.chambers
  pub tight : IsNoRoomierThan (chamber_at I c) (chamber_at I cut.chamber)
  pub known : All (λ s. s < length I.ships) cut.ships

-- all ships of the set are among these
pub record AreIn (ships set : List ℕ) : Type 0 where
  pub among : All (Contains ships) set

abbrev pub LacksSome : List ℕ → List ℕ → Type 0
LacksSome ships set = ¬ AreIn ships set

-- none of the sets is among the group's ships
pub record IsSpared (sets : List (List ℕ)) (g : Group) : Type 0 where
  pub missed : All (LacksSome g.ships) sets

-- The sets are what the cuts forbid chamber c: the cuts spare known ships exactly where none of the sets is among them.
pub record AreForbidden (I : Instance) (c : ℕ) (cuts : List PlainCut) (sets : List (List ℕ)) : Type 0 where
  pub spared : (ships : List ℕ) → All (λ s. s < length I.ships) ships → All (LacksSome ships) sets → All (Spares I c ships) cuts
  pub missed : (ships : List ℕ) → All (λ s. s < length I.ships) ships → All (Spares I c ships) cuts → All (LacksSome ships) sets

-- whatever cuts forbid the old sets, with the cut they forbid the new ones
abbrev pub ForbidMore : Instance → ℕ → PlainCut → List (List ℕ) → List (List ℕ) → Type 0
ForbidMore I c cut old new = (cuts : List PlainCut) → AreForbidden I c cuts old → AreForbidden I c (cuts ++ cut ∷ []) new
