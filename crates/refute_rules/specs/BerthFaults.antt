-- The seven faults that a berth case may have, and the numbers of each.
use Rattle.std.specs.Prelude.{ℕ, ◌≡◌, ◌+◌, ◌*◌, ◌^◌, ◌/◌, ◌%◌, ◌≤◌, ◌<◌, ◌⊎◌, List, [], ◌∷◌, length, filter, Contains, AllPairs, sum_by, nat_eq, Some}
use Rattle.lock_model.specs.Deck.{Deck}
use Rattle.lock_rules.specs.Arrival.{numbers_from}
use Rattle.refute_rules.specs.Reasons.{length_at}
use Rattle.refute_rules.specs.declared.choices.Choice.{Choice}
use Rattle.refute_rules.specs.Decided.{HasOtherRank}
use Rattle.refute_rules.specs.Known.{hosts_within}
use Rattle.refute_rules.specs.SpotFaults.{IsOutsideAcross}
use Rattle.refute_rules.specs.BerthCases.{host_in, DoOverlap, ShareHost, guests_of, ObeyAlong}

-- ship i is longer than its decided host
pub record IsTooLong (d : Deck) (case : List Choice) (i : ℕ) : Type 0 where
  pub host : ℕ
  pub lies : host_in case i ≡ Some host
  pub longer : length_at d host < length_at d i

-- one after the other, the guests of ship k are longer than it
pub record AreTooMany (d : Deck) (case : List Choice) (k : ℕ) : Type 0 where
  pub known : k < length d.ships
  pub long : length_at d k + d.gap < sum_by (λ i. length_at d i + d.gap) (guests_of d case k)

-- the ships below n whose bits a set has
abbrev pub ships_in : ℕ → ℕ → List ℕ
ships_in n set = filter (λ i. nat_eq (set / 2 ^ i % 2) 1) (numbers_from 0 n)

-- each two of these ships overlap or have the same host, and one after the other they are too long
pub record IsCrowd (d : Deck) (case : List Choice) (set : ℕ) : Type 0 where
  pub some : 1 ≤ set
  pub known : set < 2 ^ length d.ships
  pub close : AllPairs (λ i j. DoOverlap d case i j ⊎ ShareHost case i j) (ships_in (length d.ships) set)
  pub long : d.length + d.gap < sum_by (λ i. length_at d i + d.gap) (ships_in (length d.ships) set) + 2 * d.end

-- a host of the other rank, hosts that lead back, a ship longer than its host, a known y that isn't inside, too many guests, a crowd, or no x that obey
pub data BerthFault : Type 0 where
  OtherRank : ℕ → BerthFault
  LeadsBack : ℕ → BerthFault
  TooLong : ℕ → BerthFault
  Outside : ℕ → BerthFault
  Guests : ℕ → BerthFault
  Crowd : ℕ → BerthFault
  NoPlaces : BerthFault

-- the fault stands in the berth case
abbrev pub IsBerthFault : Deck → List Choice → BerthFault → Type 0
IsBerthFault d case (OtherRank i) = HasOtherRank case i
IsBerthFault d case (LeadsBack i) = Contains (hosts_within case (length d.ships) i) i
IsBerthFault d case (TooLong i) = IsTooLong d case i
IsBerthFault d case (Outside i) = IsOutsideAcross d case i
IsBerthFault d case (Guests k) = AreTooMany d case k
IsBerthFault d case (Crowd set) = IsCrowd d case set
IsBerthFault d case NoPlaces = (x : ℕ → ℕ) → ObeyAlong d case x → ⊥

abbrev pub berth_fault_numbers : BerthFault → List ℕ
berth_fault_numbers (OtherRank i) = 1 ∷ i ∷ []
berth_fault_numbers (LeadsBack i) = 2 ∷ i ∷ []
berth_fault_numbers (TooLong i) = 3 ∷ i ∷ []
berth_fault_numbers (Outside i) = 4 ∷ i ∷ []
berth_fault_numbers (Guests k) = 5 ∷ k ∷ []
berth_fault_numbers (Crowd set) = 6 ∷ set ∷ []
berth_fault_numbers NoPlaces = 8 ∷ []
