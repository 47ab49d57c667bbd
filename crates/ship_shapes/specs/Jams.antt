-- The search for the first jam of a lane, sets by rising number.
use Rattle.std.specs.Prelude.{ℕ, zero, suc, ◌≡◌, ◌+◌, ◌^◌, ◌<◌, List, [], ◌∷◌, ◌++◌, length, slice_index_or}
use Rattle.std.specs.List.{AllByRecursion}
use Rattle.lock_model.specs.Ships.{RisesFrom}
use Rattle.ship_shapes.specs.Lanes.{Passage, AreCrowded, AreAllCrowded, along_at, IsJam}

-- the number of a set
abbrev pub number_of : List ℕ → ℕ
number_of [] = 0
number_of (i ∷ S) = 2 ^ i + number_of S

-- rising ships before ship b
pub record AreBefore (b : ℕ) (S : List ℕ) : Type 0 where
  pub rising : RisesFrom 0 S
  pub below : AllByRecursion (λ i. i < b) S

-- what all ships before ship b need along the lane
abbrev pub along_before : Passage → ℕ → ℕ
along_before lane zero = 0
along_before lane (suc b) = along_before lane b + along_at lane b

-- ships from b on that are chosen, no two of which have room beside each other
pub record AreChosen (lane : Passage) (b : ℕ) (T : List ℕ) : Type 0 where
  pub rising : RisesFrom b T
  pub known : AllByRecursion (λ i. i < length lane.needs) T
  pub crowded : AreAllCrowded lane T

-- a ship has no room beside each of these
pub record IsCrowdedBy (lane : Passage) (ship : ℕ) (T : List ℕ) : Type 0 where
  pub each : (k : ℕ) → k < length T → AreCrowded lane ship (slice_index_or T k 0)

-- the chosen ones make a jam with no set of ships before b
pub record HasNoJam (lane : Passage) (b : ℕ) (T : List ℕ) : Type 0 where
  pub none : (S : List ℕ) → AreBefore b S → IsJam lane (S ++ T) → ⊥

-- a jam of the chosen ones and ships before b, the set of these with the least number
pub record IsFirstJam (lane : Passage) (b : ℕ) (T jam : List ℕ) : Type 0 where
  pub is : IsJam lane jam
  pub lower : List ℕ
  pub before : AreBefore b lower
  pub joined : jam ≡ lower ++ T
  pub first : (S : List ℕ) → AreBefore b S → number_of S < number_of lower → IsJam lane (S ++ T) → ⊥

-- all are ships of the lane
pub record AreKnown (lane : Passage) (S : List ℕ) : Type 0 where
  pub each : (k : ℕ) → k < length S → slice_index_or S k 0 < length lane.needs

-- ship number i of these has no room beside each later one
pub record IsCrowdedAfter (lane : Passage) (S : List ℕ) (i : ℕ) : Type 0 where
  pub later : (j : ℕ) → i < j → j < length S → AreCrowded lane (slice_index_or S i 0) (slice_index_or S j 0)
