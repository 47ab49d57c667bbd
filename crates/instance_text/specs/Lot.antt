-- The generator of instances.
use Rattle.std.specs.Prelude.{ℕ, zero, suc, ◌+◌, ◌*◌, ◌/◌, ◌%◌, ◌^◌, ◌==◌, List, [], ◌∷◌, ◌++◌, codes, decimal, if◌then◌else◌}
use Rattle.lock_model.specs.declared.chamber.Chamber.{Chamber}
use Rattle.lock_model.specs.declared.ship.Ship.{Ship}
use Rattle.lock_model.specs.declared.way.Way.{Way}
use Rattle.lock_model.specs.declared.way.Stand.{Stand}
use Rattle.lock_model.specs.declared.way.Way.TheVariants.{Up, Down}
use Rattle.lock_model.specs.declared.way.Stand.TheVariants.{Low, High}

-- the state after one more draw
unfoldable pub next_state : ℕ → ℕ
next_state state = (state * 1103515245 + 12345) % 2 ^ 31

-- the state after k draws
abbrev pub after_draws : ℕ → ℕ → ℕ
after_draws zero state = state
after_draws (suc k) state = after_draws k (next_state state)

-- draw k from a state, from 1, below n
unfoldable pub draw : ℕ → ℕ → ℕ → ℕ
draw state k n = (after_draws k state / 65536) % n

abbrev pub lot_way : ℕ → Way
lot_way n = if n == 0 then Up else Down

-- ship i, from 1, from a state and the arrival of the ship before it
unfoldable pub lot_ship : ℕ → ℕ → ℕ → Ship
lot_ship i state arrival = record {
  name = codes "s" ++ decimal i;
  way = lot_way (draw state 1 2);
  length = 380 + 10 * draw state 2 73;
  width = 50 + draw state 3 65;
  arrival = arrival + draw state 4 40;
  handling = 3 + draw state 5 6;
  cargo = 0;
}

-- n ships from ship i on
abbrev pub lot_ships : ℕ → ℕ → ℕ → ℕ → List Ship
lot_ships zero i state arrival = []
lot_ships (suc n) i state arrival = lot_ship i state arrival ∷ lot_ships n (i + 1) (after_draws 5 state) (lot_ship i state arrival).arrival

-- a chamber, which opens at minute 0
abbrev pub lot_chamber : List ℕ → ℕ → ℕ → ℕ → ℕ → ℕ → Stand → Chamber
lot_chamber name length width most pass turn stands = record { name = name; length = length; width = width; end = 10; gap = 20; side = 5; most = most; pass = pass; turn = turn; stands = stands; opens = 0; closures = [] }

-- all four chambers
unfoldable pub lot_chambers : List Chamber
lot_chambers =
    lot_chamber (codes "c1") 2000 240 6 30 15 Low
    ∷ lot_chamber (codes "c2") 1360 160 4 20 10 High
    ∷ lot_chamber (codes "c3") 1900 180 4 25 12 Low
    ∷ lot_chamber (codes "c4") 1200 125 2 20 10 High
    ∷ []
