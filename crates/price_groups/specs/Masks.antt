-- Ships as the bits of a number.
use Rattle.std.specs.Prelude.{ℕ, suc, ◌≡◌, ◌<◌, ◌^◌, ◌⊎◌, true, List, [], ◌∷◌, ◌++◌, length, All, Contains, bit_and, slice_index_or}
use Rattle.std.specs.Int.{bit_at}
use Rattle.lock_model.specs.declared.limits.TheConstants.{SHIPS}
use Rattle.lock_model.specs.declared.instance.Instance.{Instance}
use Rattle.price_groups.specs.declared.completable_sets.CompletableSets.{CompletableSets}
use Rattle.price_rules.specs.Prices.{is_missing}
use Rattle.price_groups.specs.Asks.{GroupAsk}
use Rattle.price_groups.specs.Growing.{IsAllowed}

-- the bits of the number are these ships
pub record IsMask (mask : ℕ) (ships : List ℕ) : Type 0 where
  pub small : mask < 2 ^ 128
  pub has : (s : ℕ) → Contains ships s → bit_at mask s ≡ 1
  pub only : (s : ℕ) → s < 128 → bit_at mask s ≡ 1 → Contains ships s

-- a mask of one of the sets, whose ships are the instance's
pub record IsSetMask (I : Instance) (sets : List (List ℕ)) (mask : ℕ) : Type 0 where
  pub set : List ℕ
  pub held : Contains sets set
  pub known : All (λ s. s < length I.ships) set
  pub is : IsMask mask set

-- one of the masks is that of the set
pub record HasMask (masks : List ℕ) (set : List ℕ) : Type 0 where
  pub mask : ℕ
  pub held : Contains masks mask
  pub is : IsMask mask set

-- Masks of sets, and of each of the first i sets that the ship may complete: one that has the ship, no later one
-- that is missing, and ships of the instance alone.
pub record AreCompletable (I : Instance) (k : ℕ) (sets : List (List ℕ)) (i ship : ℕ) (masks : List ℕ) : Type 0 where
  pub each : All (IsSetMask I sets) masks
  pub whole : (j : ℕ) (d : List ℕ) → j < i → j < length sets → Contains (slice_index_or sets j d) ship
      → All (IsAllowed I k (suc ship)) (slice_index_or sets j d) → All (λ s. s < length I.ships) (slice_index_or sets j d)
      → HasMask masks (slice_index_or sets j d)

-- of the first n ships those that are allowed up to a ship, all of them below the most ships of an instance
pub record AreAllowed (I : Instance) (k ship n : ℕ) (ships : List ℕ) : Type 0 where
  pub small : All (λ s. s < SHIPS) ships
  pub whole : (s : ℕ) → s < n → IsAllowed I k (suc ship) s → Contains ships s

-- masks of sets, and of each of the first i sets whose ships are the instance's
pub record AreMarks (I : Instance) (sets : List (List ℕ)) (i : ℕ) (masks : List ℕ) : Type 0 where
  pub each : All (IsSetMask I sets) masks
  pub whole : (j : ℕ) (d : List ℕ) → j < i → j < length sets
      → All (λ s. s < length I.ships) (slice_index_or sets j d) → HasMask masks (slice_index_or sets j d)

-- the set's mask was appended, or its ships aren't the instance's
abbrev pub IsNoted : Instance → List ℕ → List ℕ → List ℕ → Type 0
IsNoted I set old new =
    ((mask : ℕ) × IsMask mask set × All (λ s. s < length I.ships) set × (new ≡ old ++ mask ∷ []))
    ⊎ ((¬ All (λ s. s < length I.ships) set) × (new ≡ old))

-- the number has all bits of one number, and none but those of another
abbrev pub IsBetween : ℕ → ℕ → ℕ → Type 0
IsBetween own early mask = (bit_and own mask ≡ own) × (bit_and mask early ≡ mask)

-- some of the numbers, and each of the first i that lies between two others
pub record AreHaving (own early : ℕ) (marks : List ℕ) (i : ℕ) (masks : List ℕ) : Type 0 where
  pub each : All (Contains marks) masks
  pub whole : (j d : ℕ) → j < i → j < length marks → IsBetween own early (slice_index_or marks j d) → Contains masks (slice_index_or marks j d)

-- the mask was appended, or it doesn't lie between the numbers
abbrev pub IsPutBetween : ℕ → ℕ → ℕ → List ℕ → List ℕ → Type 0
IsPutBetween own early mask old new = (IsBetween own early mask × (new ≡ old ++ mask ∷ [])) ⊎ ((¬ IsBetween own early mask) × (new ≡ old))

-- for each of the first n ships that is missing the masks of the sets that it may complete
pub record AreAllCompletable (I : Instance) (k : ℕ) (sets : List (List ℕ)) (n : ℕ) (completable : List CompletableSets) : Type 0 where
  pub count : length completable ≡ n
  pub each : (s : ℕ) (d : CompletableSets) → s < n → is_missing I k s ≡ true
      → AreCompletable I k sets (length sets) s (slice_index_or completable s d).masks.items

-- whatever sets the masks are of, those that the ship may complete
abbrev pub AreCompletableOf : Instance → ℕ → List ℕ → ℕ → List ℕ → Type 0
AreCompletableOf I k marks ship masks =
    (sets : List (List ℕ)) → AreMarks I sets (length sets) marks → AreCompletable I k sets (length sets) ship masks

-- the same, where the ship is missing
abbrev pub AreCompletableByMissing : Instance → ℕ → List ℕ → ℕ → List ℕ → Type 0
AreCompletableByMissing I k marks ship masks =
    (sets : List (List ℕ)) → AreMarks I sets (length sets) marks → is_missing I k ship ≡ true
    → AreCompletable I k sets (length sets) ship masks

-- the same of what groups are asked by
abbrev pub AreCompletableIn : GroupAsk → ℕ → List ℕ → Type 0
AreCompletableIn A = AreCompletable A.instance A.depth A.sets (length A.sets)

abbrev pub AreAllCompletableIn : GroupAsk → List CompletableSets → Type 0
AreAllCompletableIn A = AreAllCompletable A.instance A.depth A.sets (length A.instance.ships)
