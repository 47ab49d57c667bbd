-- Lanes: ships that lie one after the other, or side by side, along one measure of a deck.
use Rattle.std.specs.Prelude.{ℕ, ◌+◌, ◌*◌, ◌<◌, ◌≤◌, List, [], ◌∷◌, length, map, slice_index_or}
use Rattle.std.specs.List.{AllByRecursion}
use Rattle.lock_model.specs.Deck.{Deck}
use Rattle.lock_model.specs.Ships.{RisesFrom}
use Rattle.lock_model.specs.declared.deck.Size.{Size}
use Rattle.ship_shapes.specs.declared.lane.Need.{Need}

-- what each ship needs, the width and the gap across, and the reach along of which a part is spared
pub record Passage : Type 0 where
  pub needs : List Need
  pub width : ℕ
  pub between : ℕ
  pub reach : ℕ
  pub spare : ℕ

-- the ships of a deck one after the other, and side by side
abbrev pub row_lane : Deck → Passage
row_lane d = record {
  needs = map (λ (s : Size). record { across = s.width; along = s.length + d.gap }) d.ships;
  width = d.width;
  between = d.side;
  reach = d.length + d.gap;
  spare = 2 * d.end;
}

abbrev pub column_lane : Deck → Passage
column_lane d = record {
  needs = map (λ (s : Size). record { across = s.length; along = s.width + d.side }) d.ships;
  width = d.length;
  between = d.gap + 2 * d.end;
  reach = d.width + d.side;
  spare = 0;
}

abbrev pub need_at : Passage → ℕ → Need
need_at lane i = slice_index_or lane.needs i (record { across = 0; along = 0 })

abbrev pub along_at : Passage → ℕ → ℕ
along_at lane i = (need_at lane i).along

-- ships i and j have no room beside each other
pub record AreCrowded (lane : Passage) (i j : ℕ) : Type 0 where
  pub wide : lane.width < (need_at lane i).across + lane.between + (need_at lane j).across

-- no two of these have
abbrev pub AreAllCrowded : Passage → List ℕ → Type 0
AreAllCrowded lane [] = Unit {0}
AreAllCrowded lane (i ∷ S) = AllByRecursion (AreCrowded lane i) S × AreAllCrowded lane S

-- what they need along the lane
abbrev pub along_of : Passage → List ℕ → ℕ
along_of lane [] = 0
along_of lane (i ∷ S) = along_at lane i + along_of lane S

-- one or more ships, no two of which have room beside each other, are too long one after the other
pub record IsJam (lane : Passage) (S : List ℕ) : Type 0 where
  pub some : 1 ≤ length S
  pub rising : RisesFrom 0 S
  pub known : AllByRecursion (λ i. i < length lane.needs) S
  pub crowded : AreAllCrowded lane S
  pub long : lane.reach < along_of lane S + lane.spare
