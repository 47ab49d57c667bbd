-- The lock of the worked rows, within its limits: one chamber that takes one ship at a time, and three ships up.
use Rattle.std.proofs.Common.{◌≡◌, ◌≢◌, ℕ, ◌≤◌, true, List, [], ◌∷◌, refl, arith}
use Rattle.std.proofs.lemmas.List.Elements.{All-cons, All-nil}
use Rattle.std.proofs.lemmas.List.Kept.{AllPairs-cons}
use Rattle.list_laws.proofs.Lists.{same-heads}
use Rattle.lock_model.specs.Limits.{is_name_byte, IsName}
use Rattle.lock_model.specs.Closures.{AreClosures, IsClosure}
use Rattle.lock_model.specs.Instance.{IsShip, IsChamber, IsInstance}
use Rattle.lock_model.specs.declared.chamber.Chamber.{Chamber}
use Rattle.lock_model.specs.declared.ship.Ship.{Ship}
use Rattle.lock_model.specs.declared.instance.Instance.{Instance}
use Rattle.lock_model.specs.declared.way.Way.TheVariants.{Up}
use Rattle.lock_model.specs.declared.way.Stand.TheVariants.{Low}
use Rattle.lock_rules.proofs.RowInstances.{long_chamber}

-- a ship of one letter that goes up and takes 5 minutes of handling, by its arrival
abbrev pub row_ship : ℕ → ℕ → Ship
row_ship letter arrival = record { name = letter ∷ []; way = Up; length = 1100; width = 114; arrival = arrival; handling = 5; cargo = 0 }

abbrev pub row_chambers : List Chamber
row_chambers = long_chamber 240 1 15 Low [] ∷ []

abbrev pub row_ships : List Ship
row_ships = row_ship 97 0 ∷ row_ship 98 10 ∷ row_ship 99 20 ∷ []

letter-name : (letter : ℕ) → is_name_byte letter ≡ true → IsName (letter ∷ [])
letter-name letter good = record { count = (omega arith, omega arith); allowed = All-cons (λ b. is_name_byte b ≡ true) letter [] good (All-nil (λ b. is_name_byte b ≡ true)) }

chamber-name : IsName (99 ∷ 49 ∷ [])
chamber-name = record {
  count = (omega arith, omega arith);
  allowed = All-cons (λ b. is_name_byte b ≡ true) 99 (49 ∷ []) refl (All-cons (λ b. is_name_byte b ≡ true) 49 [] refl (All-nil (λ b. is_name_byte b ≡ true)));
}

ship-limits : (letter arrival : ℕ) → is_name_byte letter ≡ true → arrival ≤ 1000000 → IsShip (row_ship letter arrival)
ship-limits letter arrival good early = record {
  name = letter-name letter good;
  length = (omega arith, omega arith);
  width = (omega arith, omega arith);
  arrival = early;
  handling = omega arith;
  cargo = omega arith;
}

closures-limits : AreClosures []
closures-limits = record { few = omega arith; each = All-nil IsClosure; rising = λ i j d less here. absurd (omega arith) }

chamber-limits : IsChamber (long_chamber 240 1 15 Low [])
chamber-limits = record {
  name = chamber-name;
  length = (omega arith, omega arith);
  width = (omega arith, omega arith);
  end = omega arith;
  gap = omega arith;
  side = omega arith;
  most = (omega arith, omega arith);
  pass = (omega arith, omega arith);
  turn = omega arith;
  opens = omega arith;
  closures = closures-limits;
}

abbrev Differ : Ship → Ship → Type 0
Differ a b = a.name ≢ b.name

apart : (a b x y : ℕ) → a ≢ b → Differ (row_ship a x) (row_ship b y)
apart a b x y other same = other (same-heads a b [] [] same)

pub row-limits : IsInstance row_chambers row_ships
row-limits = record {
  chamber_count = (omega arith, omega arith);
  ship_count = (omega arith, omega arith);
  chamber = All-cons IsChamber (long_chamber 240 1 15 Low []) [] chamber-limits (All-nil IsChamber);
  ship = All-cons IsShip (row_ship 97 0) (row_ship 98 10 ∷ row_ship 99 20 ∷ []) (ship-limits 97 0 refl (omega arith))
      (All-cons IsShip (row_ship 98 10) (row_ship 99 20 ∷ []) (ship-limits 98 10 refl (omega arith)) (All-cons IsShip (row_ship 99 20) [] (ship-limits 99 20 refl (omega arith)) (All-nil IsShip)));
  chamber_names = λ i j d less within. absurd (omega arith);
  ship_names = AllPairs-cons Differ (row_ship 97 0) (row_ship 98 10 ∷ row_ship 99 20 ∷ [])
      (All-cons (Differ (row_ship 97 0)) (row_ship 98 10) (row_ship 99 20 ∷ []) (apart 97 98 0 10 (λ e. absurd (omega arith))) (All-cons (Differ (row_ship 97 0)) (row_ship 99 20) [] (apart 97 99 0 20 (λ e. absurd (omega arith))) (All-nil (Differ (row_ship 97 0)))))
      (AllPairs-cons Differ (row_ship 98 10) (row_ship 99 20 ∷ [])
      (All-cons (Differ (row_ship 98 10)) (row_ship 99 20) [] (apart 98 99 10 20 (λ e. absurd (omega arith))) (All-nil (Differ (row_ship 98 10))))
      (λ i j d less within. absurd (omega arith)));
}

-- the instance, within its limits
abbrev pub row : Instance
row = record { chambers = row_chambers; ships = row_ships; limits = row-limits }
