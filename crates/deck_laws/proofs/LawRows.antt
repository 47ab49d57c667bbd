-- Rows: what thin_spots, wide_spots and a move give.
use Rattle.std.proofs.Common.{◌≡◌, ℕ, List, [], ◌∷◌, false, refl, nat_eq}
use Rattle.lock_model.specs.Deck.{Deck}
use Rattle.lock_model.specs.declared.deck.Size.{Size}
use Rattle.lock_model.specs.declared.placement.Spot.{Spot}
use Rattle.lock_model.specs.declared.placement.Rank.{Rank}
use Rattle.lock_model.specs.declared.placement.Rank.TheVariants.{Left, Right}
use Rattle.lock_model.specs.declared.placement.Moor.{Moor}
use Rattle.lock_model.specs.declared.placement.Moor.TheVariants.{Quay, Ship}
use Rattle.deck_laws.specs.Thin.{thin_spots}
use Rattle.deck_laws.specs.Widen.{wide_spots}
use Rattle.deck_laws.specs.Shift.{shift_from}

abbrev at : ℕ → ℕ → Rank → Moor → Spot
at x y rank moor = record { x = x; y = y; rank = rank; moor = moor }

-- three ships of width 5, 4 and 3, side gap 2, in a chamber of width 20
abbrev deck_of_width : ℕ → Deck
deck_of_width wide = record { length = 100; width = wide; end = 0; gap = 1; side = 2; ships = record { length = 10; width = 5; cargo = 0 } ∷ record { length = 8; width = 4; cargo = 0 } ∷ record { length = 8; width = 3; cargo = 0 } ∷ [] }

-- a tower on the left quay
abbrev left_tower : List Spot
left_tower = at 0 0 Left Quay ∷ at 1 7 Left (Ship 0) ∷ at 1 13 Left (Ship 1) ∷ []

-- and on the right quay
abbrev right_tower : List Spot
right_tower = at 0 15 Right Quay ∷ at 1 9 Right (Ship 0) ∷ at 1 4 Right (Ship 1) ∷ []

-- without the lowest ship the two others come down by 5 + 2, and the next one lies at the quay
left-lowest : thin_spots (deck_of_width 20) left_tower 0 ≡ at 1 0 Left Quay ∷ at 1 6 Left (Ship 0) ∷ []
left-lowest = refl

-- without the one between the last one is moored to the lowest
left-between : thin_spots (deck_of_width 20) left_tower 1 ≡ at 0 0 Left Quay ∷ at 1 7 Left (Ship 0) ∷ []
left-between = refl

left-last : thin_spots (deck_of_width 20) left_tower 2 ≡ at 0 0 Left Quay ∷ at 1 7 Left (Ship 0) ∷ []
left-last = refl

right-lowest : thin_spots (deck_of_width 20) right_tower 0 ≡ at 1 16 Right Quay ∷ at 1 11 Right (Ship 0) ∷ []
right-lowest = refl

-- right-rank ships move by 10, left-rank ships stay
wide-right : wide_spots (deck_of_width 20) (deck_of_width 30) right_tower ≡ at 0 25 Right Quay ∷ at 1 19 Right (Ship 0) ∷ at 1 14 Right (Ship 1) ∷ []
wide-right = refl

wide-left : wide_spots (deck_of_width 20) (deck_of_width 30) left_tower ≡ left_tower
wide-left = refl

-- all but ship 0 move by 1
moved-but-first : shift_from (λ i. nat_eq i 0) 1 0 left_tower ≡ at 0 0 Left Quay ∷ at 0 7 Left (Ship 0) ∷ at 0 13 Left (Ship 1) ∷ []
moved-but-first = refl

-- a chamber of 2000 x 240 with clearance 10, gap 20 and side gap 5
abbrev base_deck : ℕ → List Size → Deck
base_deck wide ships = record { length = 2000; width = wide; end = 10; gap = 20; side = 5; ships = ships }

abbrev sized : ℕ → ℕ → Size
sized long wide = record { length = long; width = wide; cargo = 0 }

abbrev three_ships : Deck
three_ships = base_deck 240 (sized 600 60 ∷ sized 500 50 ∷ sized 400 40 ∷ [])

abbrev tower : List Spot
tower = at 10 0 Left Quay ∷ at 20 65 Left (Ship 0) ∷ at 30 120 Left (Ship 1) ∷ []

-- without the lowest ship the two others come down by 60 + 5
base-lowest : thin_spots three_ships tower 0 ≡ at 20 0 Left Quay ∷ at 30 55 Left (Ship 0) ∷ []
base-lowest = refl

base-between : thin_spots three_ships tower 1 ≡ at 10 0 Left Quay ∷ at 30 65 Left (Ship 0) ∷ []
base-between = refl

-- from width 240 to 250 the ship at the right quay moves by 10
base-right : wide_spots (base_deck 240 (sized 1100 114 ∷ sized 1100 114 ∷ [])) (base_deck 250 (sized 1100 114 ∷ sized 1100 114 ∷ [])) (at 10 0 Left Quay ∷ at 10 126 Right Quay ∷ []) ≡ at 10 0 Left Quay ∷ at 10 136 Right Quay ∷ []
base-right = refl

-- a flush pair 30 from the near end moves by 30, both ships together
base-flush : shift_from (λ i. false) 30 0 (at 40 0 Left Quay ∷ at 40 65 Left (Ship 0) ∷ []) ≡ at 10 0 Left Quay ∷ at 10 65 Left (Ship 0) ∷ []
base-flush = refl
