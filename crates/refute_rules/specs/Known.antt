-- The hosts of a ship as far as a case decides them, and its y where they lead down to a quay.
use Rattle.std.specs.Prelude.{ℕ, zero, suc, ◌≡◌, ◌+◌, ◌<◌, ℤ, pos, ◌+ℤ◌, ◌-ℤ◌, List, [], ◌∷◌, length, Some, None, option_map}
use Rattle.std.specs.declared.option.Option.{Option}
use Rattle.lock_model.specs.Deck.{Deck}
use Rattle.lock_model.specs.declared.placement.Rank.{Rank}
use Rattle.lock_model.specs.declared.placement.Rank.TheVariants.{Left, Right}
use Rattle.lock_model.specs.declared.placement.Moor.{Moor}
use Rattle.lock_model.specs.declared.placement.Moor.TheVariants.{Quay, Ship}
use Rattle.refute_rules.specs.Reasons.{width_at}
use Rattle.refute_rules.specs.declared.choices.Berth.{Berth}
use Rattle.refute_rules.specs.declared.choices.Choice.{Choice}
use Rattle.refute_rules.specs.Decided.{berth_in}

-- the host of a mooring, and of a berth
abbrev pub moor_host : Moor → Option ℕ
moor_host Quay = None
moor_host (Ship k) = Some k

abbrev pub host_of : Option Berth → Option ℕ
host_of None = None
host_of (Some b) = moor_host b.moor

-- a host, and the hosts from it on
abbrev pub host_and_more : Option ℕ → (ℕ → List ℕ) → List ℕ
host_and_more None more = []
host_and_more (Some k) more = k ∷ more k

-- the first hosts of ship i: its host, that one's host, and so on, at most so many
abbrev pub hosts_within : List Choice → ℕ → ℕ → List ℕ
hosts_within case zero i = []
hosts_within case (suc steps) i = host_and_more (host_of (berth_in case i)) (hosts_within case steps)

-- y at the quay of a rank, and at a host that lies at a given y
abbrev pub quay_y : Deck → ℕ → Rank → ℤ
quay_y d i Left = pos 0
quay_y d i Right = pos d.width -ℤ pos (width_at d i)

abbrev pub guest_y : Deck → ℕ → ℕ → Rank → ℤ → ℤ
guest_y d i k Left y = y +ℤ pos (width_at d k + d.side)
guest_y d i k Right y = y -ℤ pos (width_at d i + d.side)

-- y of ship i by its berth, where that of its host is told
abbrev pub moored_y : Deck → ℕ → Rank → Moor → (ℕ → Option ℤ) → Option ℤ
moored_y d i rank Quay told = Some (quay_y d i rank)
moored_y d i rank (Ship k) told = option_map (guest_y d i k rank) (told k)

abbrev pub berth_y : Deck → ℕ → Option Berth → (ℕ → Option ℤ) → Option ℤ
berth_y d i None told = None
berth_y d i (Some b) told = moored_y d i b.rank b.moor told

-- y of ship i, where its berth and those of its hosts are decided down to a quay, by at most so many ships
abbrev pub y_within : Deck → List Choice → ℕ → ℕ → Option ℤ
y_within d case zero i = None
y_within d case (suc steps) i = berth_y d i (berth_in case i) (y_within d case steps)

-- y of ship i, where it is known
abbrev pub y_in : Deck → List Choice → ℕ → Option ℤ
y_in d case i = y_within d case (length d.ships) i

-- each decided host of a ship of the deck is a ship of the deck
pub record HasKnownHosts (d : Deck) (case : List Choice) : Type 0 where
  pub each : (i k : ℕ) → i < length d.ships → host_of (berth_in case i) ≡ Some k → k < length d.ships
