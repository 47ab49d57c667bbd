-- Each ship of a lot fits its first chamber.
use Rattle.std.proofs.Common.{ℕ, zero, suc, ◌+◌, ◌≡◌, ◌≤◌, ◌<◌, List, take, length, sym, subst, arith, All, slice_index_or, refl}
use Rattle.std.proofs.lemmas.List.Elements.{All-nil, All-cons}
use Rattle.lock_model.specs.Fleet.{ship_at, no_ship, no_chamber}
use Rattle.lock_model.specs.declared.ship.Ship.{Ship}
use Rattle.lock_model.specs.declared.chamber.Chamber.{Chamber}
use Rattle.lock_model.specs.declared.instance.Instance.{Instance}
use Rattle.lock_rules.specs.Unfit.{HasNoUnfit}
use Rattle.instance_text.specs.Lot.{after_draws, draw, lot_ship, lot_ships, lot_chambers}
use Rattle.solve_commands.specs.Lots.{IsLot}

-- at most 1,100 decimetres long and 114 wide
record IsSmall (s : Ship) : Type 0 where
  long : s.length ≤ 1100
  wide : s.width ≤ 114

-- at least 2,000 decimetres long and 240 wide, with 10 decimetres of clearance at each end
record IsLarge (c : Chamber) : Type 0 where
  long : c.length ≡ 2000
  wide : c.width ≡ 240
  end : c.end ≡ 10

draw-below : (state k n : ℕ) → 0 < n → draw state k n < n
unfolding draw
draw-below state k n some = omega arith

small : (i state arrival : ℕ) → IsSmall (lot_ship i state arrival)
unfolding lot_ship
small i state arrival = record {
  long = let d = draw-below state 2 73 (omega arith) in omega (arith, d);
  wide = let d = draw-below state 3 65 (omega arith) in omega (arith, d);
}

all-small : (n i state arrival : ℕ) → All IsSmall (lot_ships n i state arrival)
all-small zero i state arrival = All-nil IsSmall
all-small (suc n) i state arrival =
    let ship = lot_ship i state arrival in
    All-cons IsSmall ship (lot_ships n (i + 1) (after_draws 5 state) ship.arrival) (small i state arrival) (all-small n (i + 1) (after_draws 5 state) ship.arrival)

large : (c : ℕ) (cs : List Chamber) → 1 ≤ c → cs ≡ take c lot_chambers → IsLarge (slice_index_or cs 0 no_chamber) × (0 < length cs)
unfolding lot_chambers
large zero cs some are = absurd (omega (arith, some))
large (suc c) cs some are = subst (λ cs. IsLarge (slice_index_or cs 0 no_chamber) × (0 < length cs)) (sym are) (record { long = refl; wide = refl; end = refl }, omega arith)

-- a lot has no unfit ship
pub lot_fits : (I : Instance) (number ships chambers : ℕ) → 1 ≤ chambers → IsLot number ships chambers I → HasNoUnfit I
lot_fits I number ships chambers some lot = record {
  fit = λ s known.
      let first = large chambers I.chambers some lot.chambers_are in
      let all : All IsSmall I.ships = subst (All IsSmall) (sym lot.ships_are) (all-small ships 1 number 0) in
      let own : IsSmall (ship_at I s) = all s no_ship known in
      record { chamber = 0; known = first.1; fits = (omega (arith, own.long, first.0.long, first.0.end), omega (arith, own.wide, first.0.wide)) };
}
