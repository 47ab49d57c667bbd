-- The five faults that a spot case may have.
use Rattle.std.specs.Prelude.{ℕ, ◌≡◌, ◌≢◌, ◌+◌, ◌≤◌, ◌⊎◌, ℤ, pos, ◌+ℤ◌, ◌≤ℤ◌, List, [], ◌∷◌, length, Contains, Some}
use Rattle.lock_model.specs.Deck.{Deck}
use Rattle.refute_rules.specs.Reasons.{length_at, width_at}
use Rattle.refute_rules.specs.declared.choices.Choice.{Choice}
use Rattle.refute_rules.specs.Decided.{berth_in, x_in, HasOtherRank}
use Rattle.refute_rules.specs.Known.{host_of, hosts_within, y_in}

abbrev pub IsInsideAlong : Deck → ℕ → ℕ → Type 0
IsInsideAlong d i x = (d.end ≤ x) × (x + length_at d i + d.end ≤ d.length)

abbrev pub IsInsideAcross : Deck → ℕ → ℤ → Type 0
IsInsideAcross d i y = (pos 0 ≤ℤ y) × ((y +ℤ pos (width_at d i)) ≤ℤ pos d.width)

-- ship i's x is decided and it isn't inside along the chamber
pub record IsOutsideAlong (d : Deck) (case : List Choice) (i : ℕ) : Type 0 where
  pub x : ℕ
  pub decided : x_in case i ≡ Some x
  pub outside : IsInsideAlong d i x → ⊥

-- ship i's y is known and it isn't inside across the chamber
pub record IsOutsideAcross (d : Deck) (case : List Choice) (i : ℕ) : Type 0 where
  pub y : ℤ
  pub known : y_in d case i ≡ Some y
  pub outside : IsInsideAcross d i y → ⊥

-- the x of ship i and of its host are decided, and its length isn't inside the host's
pub record IsPastHost (d : Deck) (case : List Choice) (i : ℕ) : Type 0 where
  pub host : ℕ
  pub x : ℕ
  pub host_x : ℕ
  pub lies : host_of (berth_in case i) ≡ Some host
  pub own : x_in case i ≡ Some x
  pub other : x_in case host ≡ Some host_x
  pub past : (host_x ≤ x) × (x + length_at d i ≤ host_x + length_at d host) → ⊥

-- apart, where y may be below 0
abbrev pub AreApartAt : Deck → ℕ → ℕ → ℤ → ℕ → ℕ → ℤ → Type 0
AreApartAt d i xi yi j xj yj =
    (xi + length_at d i + d.gap ≤ xj) ⊎ ((xj + length_at d j + d.gap ≤ xi)
    ⊎ (((yi +ℤ pos (width_at d i + d.side)) ≤ℤ yj) ⊎ ((yj +ℤ pos (width_at d j + d.side)) ≤ℤ yi)))

-- both x are decided, both y are known, and the two different ships aren't apart
pub record AreTouching (d : Deck) (case : List Choice) (i j : ℕ) : Type 0 where
  pub different : i ≢ j
  pub xi : ℕ
  pub yi : ℤ
  pub xj : ℕ
  pub yj : ℤ
  pub decided_i : x_in case i ≡ Some xi
  pub known_i : y_in d case i ≡ Some yi
  pub decided_j : x_in case j ≡ Some xj
  pub known_j : y_in d case j ≡ Some yj
  pub touching : AreApartAt d i xi yi j xj yj → ⊥

-- the five faults of a spot case
pub data SpotFault : Type 0 where
  OtherRank : ℕ → SpotFault
  LeadsBack : ℕ → SpotFault
  Outside : ℕ → SpotFault
  PastHost : ℕ → SpotFault
  Touching : ℕ → ℕ → SpotFault

-- the fault stands in the spot case
abbrev pub IsSpotFault : Deck → List Choice → SpotFault → Type 0
IsSpotFault d case (OtherRank i) = HasOtherRank case i
IsSpotFault d case (LeadsBack i) = Contains (hosts_within case (length d.ships) i) i
IsSpotFault d case (Outside i) = IsOutsideAlong d case i ⊎ IsOutsideAcross d case i
IsSpotFault d case (PastHost i) = IsPastHost d case i
IsSpotFault d case (Touching i j) = AreTouching d case i j

abbrev pub spot_fault_numbers : SpotFault → List ℕ
spot_fault_numbers (OtherRank i) = 1 ∷ i ∷ []
spot_fault_numbers (LeadsBack i) = 2 ∷ i ∷ []
spot_fault_numbers (Outside i) = 3 ∷ i ∷ []
spot_fault_numbers (PastHost i) = 4 ∷ i ∷ []
spot_fault_numbers (Touching i j) = 5 ∷ i ∷ j ∷ []

-- none of the five faults is in it
abbrev pub IsFaultless : Deck → List Choice → Type 0
IsFaultless d case = (fault : SpotFault) → IsSpotFault d case fault → ⊥
