-- The rounds of a push to the near end: after each, one ship more is done.
use Rattle.std.specs.Prelude.{ℕ, zero, suc, ◌+◌, ◌≡◌, ◌≤◌, ◌<◌, Bool, true, ◌||◌, nat_eq, List, length, if◌then◌else◌}
use Rattle.lock_model.specs.declared.limits.TheConstants.{MOST}
use Rattle.lock_model.specs.Deck.{Deck}
use Rattle.lock_model.specs.Placement.{spot_at, IsLegalPlacement}
use Rattle.lock_model.specs.Normal.{IsHeldBy}
use Rattle.lock_model.specs.declared.placement.Spot.{Spot}
use Rattle.deck_laws.specs.Shift.{AreNoFarther}
use Rattle.deck_laws.specs.Slack.{done_in}

-- done, and held by the near end, or by a ship of which the same holds in one step less
abbrev pub IsRootedIn : Deck → List Spot → (ℕ → Bool) → ℕ → ℕ → Type 0
IsRootedIn d spots done zero i = (done i ≡ true) × ((spot_at spots i).x ≡ d.end)
IsRootedIn d spots done (suc k) i = (done i ≡ true) × ((j : ℕ) × (j < length d.ships) × IsRootedIn d spots done k j × IsHeldBy d spots i j)

abbrev pub IsRooted : Deck → List Spot → (ℕ → Bool) → ℕ → Type 0
IsRooted d spots done i = (k : ℕ) × IsRootedIn d spots done k i

-- the ships that are done are anchored, through ships that are done
pub record AreRooted (d : Deck) (spots : List Spot) (done : ℕ → Bool) : Type 0 where
  pub rooted : (i : ℕ) → i < length d.ships → done i ≡ true → IsRooted d spots done i

-- one ship more is done
abbrev pub with_done : ℕ → (ℕ → Bool) → ℕ → Bool
with_done ship done i = nat_eq i ship || done i

-- how many of the first n ships aren't done
abbrev pub free_count : (ℕ → Bool) → ℕ → ℕ
free_count done zero = 0
free_count done (suc n) = (if done n then 0 else 1) + free_count done n

-- after k rounds: legal, the ships that are done anchored, at least k of them, and only x smaller than before
pub record IsRound (d : Deck) (before spots : List Spot) (done : List Bool) (k : ℕ) : Type 0 where
  pub legal : IsLegalPlacement d spots
  pub rooted : AreRooted d spots (done_in done)
  pub back : AreNoFarther before spots
  pub few : free_count (done_in done) (length d.ships) + k ≤ length d.ships
  pub flags : length done ≡ MOST
