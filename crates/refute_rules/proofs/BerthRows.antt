-- Worked rows, by computation.
use Rattle.std.proofs.Common.{◌≡◌, ℕ, zero, suc, ◌+◌, ◌<◌, ◌≤◌, pos, negsuc, List, [], ◌∷◌, length, ◌⊎◌, inl, inr, refl, arith, Some, AllPairs, slice_index_or}
use Rattle.std.proofs.lemmas.Int.{ints}
use Rattle.lock_model.specs.Deck.{Deck, IsDeck, size_at}
use Rattle.lock_model.specs.Placement.{IsLegalPlacement, IsInside, IsBerthed, AreApart, spot_at}
use Rattle.lock_model.specs.declared.placement.Spot.{Spot}
use Rattle.lock_model.specs.declared.placement.Rank.TheVariants.{Left, Right}
use Rattle.lock_model.specs.declared.placement.Moor.TheVariants.{Quay, Ship}
use Rattle.refute_rules.specs.Reasons.{width_at}
use Rattle.refute_rules.specs.declared.choices.Choice.{Choice}
use Rattle.refute_rules.specs.declared.choices.Choice.TheVariants.{Lies, Before, Below, LiesAt}
use Rattle.refute_rules.specs.Known.{y_in}
use Rattle.refute_rules.specs.SpotFaults.{IsOutsideAcross}
use Rattle.refute_rules.specs.BerthCases.{HasOrder, DoOverlap, ShareHost}
use Rattle.refute_rules.specs.BerthFaults.{OtherRank, LeadsBack, TooLong, Outside, Guests, Crowd, NoPlaces}
use Rattle.refute_rules.specs.BerthTrees.{OfBerth, OfOrder, IsBerthTree}
use Rattle.refute_rules.proofs.BerthLaw.{no_berth_tree}

left-right : Left ≡ Right → ⊥
left-right e = cc

right-left : Right ≡ Left → ⊥
right-left e = cc

past_quay : (d : Deck) (case : List Choice) (i y : ℕ) → y_in d case i ≡ Some (pos y) → d.width < y + width_at d i → IsOutsideAcross d case i
past_quay d case i y e more = record { y = pos y; known = e; outside = λ h. let far = h.1 in omega (arith, ints, more, far) }

below_quay : (d : Deck) (case : List Choice) (i k : ℕ) → y_in d case i ≡ Some (negsuc k) → IsOutsideAcross d case i
below_quay d case i k e = record { y = negsuc k; known = e; outside = λ h. let near = h.0 in omega (arith, ints, near) }

overlapping : (d : Deck) (case : List Choice) (i j yi yj : ℕ) → y_in d case i ≡ Some (pos yi) → y_in d case j ≡ Some (pos yj) → yj < yi + width_at d i + d.side → yi < yj + width_at d j + d.side → DoOverlap d case i j
overlapping d case i j yi yj ei ej a b = record {
  yi = pos yi;
  yj = pos yj;
  known_i = ei;
  known_j = ej;
  not_below = λ h. omega (arith, ints, a, h);
  not_above = λ h. omega (arith, ints, b, h);
}

-- a case that only says where ships lie has no order
abbrev HasNoBefore : List Choice → Type 0
HasNoBefore [] = Unit {0}
HasNoBefore (Lies i b ∷ cs) = HasNoBefore cs
HasNoBefore (Before i j ∷ cs) = ⊥
HasNoBefore (Below i j ∷ cs) = HasNoBefore cs
HasNoBefore (LiesAt i v ∷ cs) = HasNoBefore cs

behind-at : (c : Choice) (cs : List Choice) (i j : ℕ) → (c ≡ Before i j → ⊥) → (HasOrder cs i j → ⊥) → (k : ℕ) → k < length (c ∷ cs) → slice_index_or (c ∷ cs) k (Before i j) ≡ Before i j → ⊥
behind-at c cs i j first rest zero less e = first e
behind-at c cs i j first rest (suc k) less e = rest (k, omega (arith, less), e)

behind : (c : Choice) (cs : List Choice) (i j : ℕ) → (c ≡ Before i j → ⊥) → (HasOrder cs i j → ⊥) → HasOrder (c ∷ cs) i j → ⊥
behind c cs i j first rest o = behind-at c cs i j first rest o.0 o.1 o.2

no-order : (case : List Choice) (i j : ℕ) → HasNoBefore case → HasOrder case i j → ⊥
no-order [] i j h o = let short : o.0 < 0 = o.1 in omega (arith, short)
no-order (Lies a b ∷ cs) i j h o = behind (Lies a b) cs i j (λ e. cc) (no-order cs i j h) o
no-order (Before a b ∷ cs) i j h o = absurd h
no-order (Below a b ∷ cs) i j h o = behind (Below a b) cs i j (λ e. cc) (no-order cs i j h) o
no-order (LiesAt a b ∷ cs) i j h o = behind (LiesAt a b) cs i j (λ e. cc) (no-order cs i j h) o

abbrev AreClose : Deck → List Choice → ℕ → ℕ → Type 0
AreClose d case i j = DoOverlap d case i j ⊎ ShareHost case i j

one-pair : (R : ℕ → ℕ → Type 0) (a : ℕ) → AllPairs R (a ∷ [])
one-pair R a i j u less here = absurd (omega (arith, less, here))

two-pair : (R : ℕ → ℕ → Type 0) (a b : ℕ) → R a b → AllPairs R (a ∷ b ∷ [])
two-pair R a b h zero zero u less here = absurd (omega (arith, less))
two-pair R a b h zero (suc zero) u less here = h
two-pair R a b h zero (suc (suc j)) u less here = absurd (omega (arith, here))
two-pair R a b h (suc i) j u less here = absurd (omega (arith, less, here))

abbrev too_wide : Deck
too_wide = record { length = 100; width = 50; end = 10; gap = 5; side = 5; ships = record { length = 70; width = 60; cargo = 0 } ∷ [] }

abbrev too_long : Deck
too_long = record { length = 100; width = 50; end = 10; gap = 5; side = 5; ships = record { length = 90; width = 40; cargo = 0 } ∷ [] }

abbrev two_small : Deck
two_small = record { length = 80; width = 40; end = 10; gap = 10; side = 5; ships = record { length = 30; width = 50; cargo = 0 } ∷ record { length = 20; width = 30; cargo = 0 } ∷ [] }

abbrev two_long : Deck
two_long = record { length = 2000; width = 232; end = 10; gap = 20; side = 5; ships = record { length = 1100; width = 114; cargo = 0 } ∷ record { length = 1100; width = 114; cargo = 0 } ∷ [] }

abbrev wider : Deck
wider = record { length = 2000; width = 233; end = 10; gap = 20; side = 5; ships = record { length = 1100; width = 114; cargo = 0 } ∷ record { length = 1100; width = 114; cargo = 0 } ∷ [] }

abbrev one_host : Deck
one_host = record { length = 140; width = 40; end = 10; gap = 5; side = 5; ships = record { length = 90; width = 50; cargo = 0 } ∷ record { length = 90; width = 50; cargo = 0 } ∷ record { length = 90; width = 30; cargo = 0 } ∷ [] }

-- a ship that is too wide, at the left quay and at the right quay
row-too_wide0 : IsBerthTree too_wide (0 ∷ 0 ∷ 4 ∷ 0 ∷ 4 ∷ 0 ∷ [])
row-too_wide0 = (1, inr (OfBerth 0, (omega arith, refl), 4 ∷ 0 ∷ 4 ∷ 0 ∷ [], refl, (4 ∷ 0 ∷ [], (Outside 0, past_quay too_wide (Lies 0 (record { rank = Left; moor = Quay }) ∷ []) 0 0 refl (omega arith), refl), ([], (Outside 0, below_quay too_wide (Lies 0 (record { rank = Right; moor = Quay }) ∷ []) 0 9 refl, refl), refl))))

-- a ship that is too long: no x obeys
row-too_long1 : IsBerthTree too_long (8 ∷ [])
row-too_long1 = (0, (NoPlaces, (λ x o. let f0 = o.inside 0 (omega arith) in omega (arith, f0.0, f0.1)), refl))

-- the sum 95 is above U + g = 85
row-too_long2 : IsBerthTree too_long (6 ∷ 1 ∷ [])
row-too_long2 = (0, (Crowd 1, record { some = omega arith; known = omega arith; close = one-pair (AreClose too_long ([])) 0; long = omega arith }, refl))

-- a split where none is needed
row-too_long3 : IsBerthTree too_long (0 ∷ 0 ∷ 8 ∷ 6 ∷ 1 ∷ [])
row-too_long3 = (1, inr (OfBerth 0, (omega arith, refl), 8 ∷ 6 ∷ 1 ∷ [], refl, (6 ∷ 1 ∷ [], (NoPlaces, (λ x o. let f0 = o.inside 0 (omega arith) in omega (arith, f0.0, f0.1)), refl), ([], (Crowd 1, record { some = omega arith; known = omega arith; close = one-pair (AreClose too_long (Lies 0 (record { rank = Right; moor = Quay }) ∷ [])) 0; long = omega arith }, refl), refl))))

-- ship 0 is too wide at a quay, and longer than its only host
row-two_small4 : IsBerthTree two_small (0 ∷ 0 ∷ 4 ∷ 0 ∷ 4 ∷ 0 ∷ 3 ∷ 0 ∷ 3 ∷ 0 ∷ [])
row-two_small4 = (1, inr (OfBerth 0, (omega arith, refl), 4 ∷ 0 ∷ 4 ∷ 0 ∷ 3 ∷ 0 ∷ 3 ∷ 0 ∷ [], refl, (4 ∷ 0 ∷ 3 ∷ 0 ∷ 3 ∷ 0 ∷ [], (Outside 0, past_quay two_small (Lies 0 (record { rank = Left; moor = Quay }) ∷ []) 0 0 refl (omega arith), refl), (3 ∷ 0 ∷ 3 ∷ 0 ∷ [], (Outside 0, below_quay two_small (Lies 0 (record { rank = Right; moor = Quay }) ∷ []) 0 9 refl, refl), (3 ∷ 0 ∷ [], (TooLong 0, record { host = 1; lies = refl; longer = omega arith }, refl), ([], (TooLong 0, record { host = 1; lies = refl; longer = omega arith }, refl), refl))))))

-- 6, 3: the two overlap and 2240 is above U + g = 2000; also where one lies left and one right: 0 + 114 + 5 is above 118
row-two_long5 : IsBerthTree two_long (0 ∷ 0 ∷ 0 ∷ 1 ∷ 6 ∷ 3 ∷ 6 ∷ 3 ∷ 4 ∷ 1 ∷ 1 ∷ 1 ∷ 0 ∷ 1 ∷ 6 ∷ 3 ∷ 6 ∷ 3 ∷ 1 ∷ 1 ∷ 4 ∷ 1 ∷ 0 ∷ 1 ∷ 4 ∷ 0 ∷ 1 ∷ 0 ∷ 2 ∷ 0 ∷ 1 ∷ 0 ∷ 0 ∷ 1 ∷ 1 ∷ 0 ∷ 4 ∷ 0 ∷ 1 ∷ 0 ∷ 2 ∷ 0 ∷ [])
row-two_long5 = (2, inr (OfBerth 0, (omega arith, refl), 0 ∷ 1 ∷ 6 ∷ 3 ∷ 6 ∷ 3 ∷ 4 ∷ 1 ∷ 1 ∷ 1 ∷ 0 ∷ 1 ∷ 6 ∷ 3 ∷ 6 ∷ 3 ∷ 1 ∷ 1 ∷ 4 ∷ 1 ∷ 0 ∷ 1 ∷ 4 ∷ 0 ∷ 1 ∷ 0 ∷ 2 ∷ 0 ∷ 1 ∷ 0 ∷ 0 ∷ 1 ∷ 1 ∷ 0 ∷ 4 ∷ 0 ∷ 1 ∷ 0 ∷ 2 ∷ 0 ∷ [], refl, (0 ∷ 1 ∷ 6 ∷ 3 ∷ 6 ∷ 3 ∷ 1 ∷ 1 ∷ 4 ∷ 1 ∷ 0 ∷ 1 ∷ 4 ∷ 0 ∷ 1 ∷ 0 ∷ 2 ∷ 0 ∷ 1 ∷ 0 ∷ 0 ∷ 1 ∷ 1 ∷ 0 ∷ 4 ∷ 0 ∷ 1 ∷ 0 ∷ 2 ∷ 0 ∷ [], inr (OfBerth 1, (omega arith, refl), 6 ∷ 3 ∷ 6 ∷ 3 ∷ 4 ∷ 1 ∷ 1 ∷ 1 ∷ 0 ∷ 1 ∷ 6 ∷ 3 ∷ 6 ∷ 3 ∷ 1 ∷ 1 ∷ 4 ∷ 1 ∷ 0 ∷ 1 ∷ 4 ∷ 0 ∷ 1 ∷ 0 ∷ 2 ∷ 0 ∷ 1 ∷ 0 ∷ 0 ∷ 1 ∷ 1 ∷ 0 ∷ 4 ∷ 0 ∷ 1 ∷ 0 ∷ 2 ∷ 0 ∷ [], refl, (6 ∷ 3 ∷ 4 ∷ 1 ∷ 1 ∷ 1 ∷ 0 ∷ 1 ∷ 6 ∷ 3 ∷ 6 ∷ 3 ∷ 1 ∷ 1 ∷ 4 ∷ 1 ∷ 0 ∷ 1 ∷ 4 ∷ 0 ∷ 1 ∷ 0 ∷ 2 ∷ 0 ∷ 1 ∷ 0 ∷ 0 ∷ 1 ∷ 1 ∷ 0 ∷ 4 ∷ 0 ∷ 1 ∷ 0 ∷ 2 ∷ 0 ∷ [], (Crowd 3, record { some = omega arith; known = omega arith; close = two-pair (AreClose two_long (Lies 0 (record { rank = Left; moor = Quay }) ∷ Lies 1 (record { rank = Left; moor = Quay }) ∷ [])) 0 1 (inl (overlapping two_long (Lies 0 (record { rank = Left; moor = Quay }) ∷ Lies 1 (record { rank = Left; moor = Quay }) ∷ []) 0 1 0 0 refl refl (omega arith) (omega arith))); long = omega arith }, refl), (4 ∷ 1 ∷ 1 ∷ 1 ∷ 0 ∷ 1 ∷ 6 ∷ 3 ∷ 6 ∷ 3 ∷ 1 ∷ 1 ∷ 4 ∷ 1 ∷ 0 ∷ 1 ∷ 4 ∷ 0 ∷ 1 ∷ 0 ∷ 2 ∷ 0 ∷ 1 ∷ 0 ∷ 0 ∷ 1 ∷ 1 ∷ 0 ∷ 4 ∷ 0 ∷ 1 ∷ 0 ∷ 2 ∷ 0 ∷ [], (Crowd 3, record { some = omega arith; known = omega arith; close = two-pair (AreClose two_long (Lies 0 (record { rank = Left; moor = Quay }) ∷ Lies 1 (record { rank = Right; moor = Quay }) ∷ [])) 0 1 (inl (overlapping two_long (Lies 0 (record { rank = Left; moor = Quay }) ∷ Lies 1 (record { rank = Right; moor = Quay }) ∷ []) 0 1 0 118 refl refl (omega arith) (omega arith))); long = omega arith }, refl), (1 ∷ 1 ∷ 0 ∷ 1 ∷ 6 ∷ 3 ∷ 6 ∷ 3 ∷ 1 ∷ 1 ∷ 4 ∷ 1 ∷ 0 ∷ 1 ∷ 4 ∷ 0 ∷ 1 ∷ 0 ∷ 2 ∷ 0 ∷ 1 ∷ 0 ∷ 0 ∷ 1 ∷ 1 ∷ 0 ∷ 4 ∷ 0 ∷ 1 ∷ 0 ∷ 2 ∷ 0 ∷ [], (Outside 1, past_quay two_long (Lies 0 (record { rank = Left; moor = Quay }) ∷ Lies 1 (record { rank = Left; moor = (Ship 0) }) ∷ []) 1 119 refl (omega arith), refl), (0 ∷ 1 ∷ 6 ∷ 3 ∷ 6 ∷ 3 ∷ 1 ∷ 1 ∷ 4 ∷ 1 ∷ 0 ∷ 1 ∷ 4 ∷ 0 ∷ 1 ∷ 0 ∷ 2 ∷ 0 ∷ 1 ∷ 0 ∷ 0 ∷ 1 ∷ 1 ∷ 0 ∷ 4 ∷ 0 ∷ 1 ∷ 0 ∷ 2 ∷ 0 ∷ [], (OtherRank 1, record { host = 0; own = Right; berth = record { rank = Left; moor = Quay }; lies = refl; decided = refl; differ = left-right }, refl), refl))))), (0 ∷ 1 ∷ 4 ∷ 0 ∷ 1 ∷ 0 ∷ 2 ∷ 0 ∷ 1 ∷ 0 ∷ 0 ∷ 1 ∷ 1 ∷ 0 ∷ 4 ∷ 0 ∷ 1 ∷ 0 ∷ 2 ∷ 0 ∷ [], inr (OfBerth 1, (omega arith, refl), 6 ∷ 3 ∷ 6 ∷ 3 ∷ 1 ∷ 1 ∷ 4 ∷ 1 ∷ 0 ∷ 1 ∷ 4 ∷ 0 ∷ 1 ∷ 0 ∷ 2 ∷ 0 ∷ 1 ∷ 0 ∷ 0 ∷ 1 ∷ 1 ∷ 0 ∷ 4 ∷ 0 ∷ 1 ∷ 0 ∷ 2 ∷ 0 ∷ [], refl, (6 ∷ 3 ∷ 1 ∷ 1 ∷ 4 ∷ 1 ∷ 0 ∷ 1 ∷ 4 ∷ 0 ∷ 1 ∷ 0 ∷ 2 ∷ 0 ∷ 1 ∷ 0 ∷ 0 ∷ 1 ∷ 1 ∷ 0 ∷ 4 ∷ 0 ∷ 1 ∷ 0 ∷ 2 ∷ 0 ∷ [], (Crowd 3, record { some = omega arith; known = omega arith; close = two-pair (AreClose two_long (Lies 0 (record { rank = Right; moor = Quay }) ∷ Lies 1 (record { rank = Left; moor = Quay }) ∷ [])) 0 1 (inl (overlapping two_long (Lies 0 (record { rank = Right; moor = Quay }) ∷ Lies 1 (record { rank = Left; moor = Quay }) ∷ []) 0 1 118 0 refl refl (omega arith) (omega arith))); long = omega arith }, refl), (1 ∷ 1 ∷ 4 ∷ 1 ∷ 0 ∷ 1 ∷ 4 ∷ 0 ∷ 1 ∷ 0 ∷ 2 ∷ 0 ∷ 1 ∷ 0 ∷ 0 ∷ 1 ∷ 1 ∷ 0 ∷ 4 ∷ 0 ∷ 1 ∷ 0 ∷ 2 ∷ 0 ∷ [], (Crowd 3, record { some = omega arith; known = omega arith; close = two-pair (AreClose two_long (Lies 0 (record { rank = Right; moor = Quay }) ∷ Lies 1 (record { rank = Right; moor = Quay }) ∷ [])) 0 1 (inl (overlapping two_long (Lies 0 (record { rank = Right; moor = Quay }) ∷ Lies 1 (record { rank = Right; moor = Quay }) ∷ []) 0 1 118 118 refl refl (omega arith) (omega arith))); long = omega arith }, refl), (4 ∷ 1 ∷ 0 ∷ 1 ∷ 4 ∷ 0 ∷ 1 ∷ 0 ∷ 2 ∷ 0 ∷ 1 ∷ 0 ∷ 0 ∷ 1 ∷ 1 ∷ 0 ∷ 4 ∷ 0 ∷ 1 ∷ 0 ∷ 2 ∷ 0 ∷ [], (OtherRank 1, record { host = 0; own = Left; berth = record { rank = Right; moor = Quay }; lies = refl; decided = refl; differ = right-left }, refl), (0 ∷ 1 ∷ 4 ∷ 0 ∷ 1 ∷ 0 ∷ 2 ∷ 0 ∷ 1 ∷ 0 ∷ 0 ∷ 1 ∷ 1 ∷ 0 ∷ 4 ∷ 0 ∷ 1 ∷ 0 ∷ 2 ∷ 0 ∷ [], (Outside 1, below_quay two_long (Lies 0 (record { rank = Right; moor = Quay }) ∷ Lies 1 (record { rank = Right; moor = (Ship 0) }) ∷ []) 1 0 refl, refl), refl))))), (0 ∷ 1 ∷ 1 ∷ 0 ∷ 4 ∷ 0 ∷ 1 ∷ 0 ∷ 2 ∷ 0 ∷ [], inr (OfBerth 1, (omega arith, refl), 4 ∷ 0 ∷ 1 ∷ 0 ∷ 2 ∷ 0 ∷ 1 ∷ 0 ∷ 0 ∷ 1 ∷ 1 ∷ 0 ∷ 4 ∷ 0 ∷ 1 ∷ 0 ∷ 2 ∷ 0 ∷ [], refl, (1 ∷ 0 ∷ 2 ∷ 0 ∷ 1 ∷ 0 ∷ 0 ∷ 1 ∷ 1 ∷ 0 ∷ 4 ∷ 0 ∷ 1 ∷ 0 ∷ 2 ∷ 0 ∷ [], (Outside 0, past_quay two_long (Lies 0 (record { rank = Left; moor = (Ship 1) }) ∷ Lies 1 (record { rank = Left; moor = Quay }) ∷ []) 0 119 refl (omega arith), refl), (2 ∷ 0 ∷ 1 ∷ 0 ∷ 0 ∷ 1 ∷ 1 ∷ 0 ∷ 4 ∷ 0 ∷ 1 ∷ 0 ∷ 2 ∷ 0 ∷ [], (OtherRank 0, record { host = 1; own = Left; berth = record { rank = Right; moor = Quay }; lies = refl; decided = refl; differ = right-left }, refl), (1 ∷ 0 ∷ 0 ∷ 1 ∷ 1 ∷ 0 ∷ 4 ∷ 0 ∷ 1 ∷ 0 ∷ 2 ∷ 0 ∷ [], (LeadsBack 0, (1, omega arith, refl), refl), (0 ∷ 1 ∷ 1 ∷ 0 ∷ 4 ∷ 0 ∷ 1 ∷ 0 ∷ 2 ∷ 0 ∷ [], (OtherRank 0, record { host = 1; own = Left; berth = record { rank = Right; moor = Ship 0 }; lies = refl; decided = refl; differ = right-left }, refl), refl))))), ([], inr (OfBerth 1, (omega arith, refl), 1 ∷ 0 ∷ 4 ∷ 0 ∷ 1 ∷ 0 ∷ 2 ∷ 0 ∷ [], refl, (4 ∷ 0 ∷ 1 ∷ 0 ∷ 2 ∷ 0 ∷ [], (OtherRank 0, record { host = 1; own = Right; berth = record { rank = Left; moor = Quay }; lies = refl; decided = refl; differ = left-right }, refl), (1 ∷ 0 ∷ 2 ∷ 0 ∷ [], (Outside 0, below_quay two_long (Lies 0 (record { rank = Right; moor = (Ship 1) }) ∷ Lies 1 (record { rank = Right; moor = Quay }) ∷ []) 0 0 refl, refl), (2 ∷ 0 ∷ [], (OtherRank 0, record { host = 1; own = Right; berth = record { rank = Left; moor = Ship 0 }; lies = refl; decided = refl; differ = left-right }, refl), ([], (LeadsBack 0, (1, omega arith, refl), refl), refl))))), refl))))))

-- both left: 7, 0, 1 with an 8 for each order in the place of 6, 3
row-two_long6 : IsBerthTree two_long (0 ∷ 0 ∷ 0 ∷ 1 ∷ 7 ∷ 0 ∷ 1 ∷ 8 ∷ 8 ∷ 6 ∷ 3 ∷ 4 ∷ 1 ∷ 1 ∷ 1 ∷ 0 ∷ 1 ∷ 6 ∷ 3 ∷ 6 ∷ 3 ∷ 1 ∷ 1 ∷ 4 ∷ 1 ∷ 0 ∷ 1 ∷ 4 ∷ 0 ∷ 1 ∷ 0 ∷ 2 ∷ 0 ∷ 1 ∷ 0 ∷ 0 ∷ 1 ∷ 1 ∷ 0 ∷ 4 ∷ 0 ∷ 1 ∷ 0 ∷ 2 ∷ 0 ∷ [])
row-two_long6 = (3, inr (OfBerth 0, (omega arith, refl), 0 ∷ 1 ∷ 7 ∷ 0 ∷ 1 ∷ 8 ∷ 8 ∷ 6 ∷ 3 ∷ 4 ∷ 1 ∷ 1 ∷ 1 ∷ 0 ∷ 1 ∷ 6 ∷ 3 ∷ 6 ∷ 3 ∷ 1 ∷ 1 ∷ 4 ∷ 1 ∷ 0 ∷ 1 ∷ 4 ∷ 0 ∷ 1 ∷ 0 ∷ 2 ∷ 0 ∷ 1 ∷ 0 ∷ 0 ∷ 1 ∷ 1 ∷ 0 ∷ 4 ∷ 0 ∷ 1 ∷ 0 ∷ 2 ∷ 0 ∷ [], refl, (0 ∷ 1 ∷ 6 ∷ 3 ∷ 6 ∷ 3 ∷ 1 ∷ 1 ∷ 4 ∷ 1 ∷ 0 ∷ 1 ∷ 4 ∷ 0 ∷ 1 ∷ 0 ∷ 2 ∷ 0 ∷ 1 ∷ 0 ∷ 0 ∷ 1 ∷ 1 ∷ 0 ∷ 4 ∷ 0 ∷ 1 ∷ 0 ∷ 2 ∷ 0 ∷ [], inr (OfBerth 1, (omega arith, refl), 7 ∷ 0 ∷ 1 ∷ 8 ∷ 8 ∷ 6 ∷ 3 ∷ 4 ∷ 1 ∷ 1 ∷ 1 ∷ 0 ∷ 1 ∷ 6 ∷ 3 ∷ 6 ∷ 3 ∷ 1 ∷ 1 ∷ 4 ∷ 1 ∷ 0 ∷ 1 ∷ 4 ∷ 0 ∷ 1 ∷ 0 ∷ 2 ∷ 0 ∷ 1 ∷ 0 ∷ 0 ∷ 1 ∷ 1 ∷ 0 ∷ 4 ∷ 0 ∷ 1 ∷ 0 ∷ 2 ∷ 0 ∷ [], refl, (6 ∷ 3 ∷ 4 ∷ 1 ∷ 1 ∷ 1 ∷ 0 ∷ 1 ∷ 6 ∷ 3 ∷ 6 ∷ 3 ∷ 1 ∷ 1 ∷ 4 ∷ 1 ∷ 0 ∷ 1 ∷ 4 ∷ 0 ∷ 1 ∷ 0 ∷ 2 ∷ 0 ∷ 1 ∷ 0 ∷ 0 ∷ 1 ∷ 1 ∷ 0 ∷ 4 ∷ 0 ∷ 1 ∷ 0 ∷ 2 ∷ 0 ∷ [], inr (OfOrder 0 1, record { different = λ e. omega (arith, e); overlap = overlapping two_long (Lies 0 (record { rank = Left; moor = Quay }) ∷ Lies 1 (record { rank = Left; moor = Quay }) ∷ []) 0 1 0 0 refl refl (omega arith) (omega arith); not_before = no-order (Lies 0 (record { rank = Left; moor = Quay }) ∷ Lies 1 (record { rank = Left; moor = Quay }) ∷ []) 0 1 tt; not_after = no-order (Lies 0 (record { rank = Left; moor = Quay }) ∷ Lies 1 (record { rank = Left; moor = Quay }) ∷ []) 1 0 tt }, 8 ∷ 8 ∷ 6 ∷ 3 ∷ 4 ∷ 1 ∷ 1 ∷ 1 ∷ 0 ∷ 1 ∷ 6 ∷ 3 ∷ 6 ∷ 3 ∷ 1 ∷ 1 ∷ 4 ∷ 1 ∷ 0 ∷ 1 ∷ 4 ∷ 0 ∷ 1 ∷ 0 ∷ 2 ∷ 0 ∷ 1 ∷ 0 ∷ 0 ∷ 1 ∷ 1 ∷ 0 ∷ 4 ∷ 0 ∷ 1 ∷ 0 ∷ 2 ∷ 0 ∷ [], refl, (8 ∷ 6 ∷ 3 ∷ 4 ∷ 1 ∷ 1 ∷ 1 ∷ 0 ∷ 1 ∷ 6 ∷ 3 ∷ 6 ∷ 3 ∷ 1 ∷ 1 ∷ 4 ∷ 1 ∷ 0 ∷ 1 ∷ 4 ∷ 0 ∷ 1 ∷ 0 ∷ 2 ∷ 0 ∷ 1 ∷ 0 ∷ 0 ∷ 1 ∷ 1 ∷ 0 ∷ 4 ∷ 0 ∷ 1 ∷ 0 ∷ 2 ∷ 0 ∷ [], (NoPlaces, (λ x o. let f0 = o.inside 0 (omega arith) in let f1 = o.inside 1 (omega arith) in let f2 = o.order 0 1 (2, omega arith, refl) in omega (arith, f0.0, f0.1, f1.0, f1.1, f2)), refl), (6 ∷ 3 ∷ 4 ∷ 1 ∷ 1 ∷ 1 ∷ 0 ∷ 1 ∷ 6 ∷ 3 ∷ 6 ∷ 3 ∷ 1 ∷ 1 ∷ 4 ∷ 1 ∷ 0 ∷ 1 ∷ 4 ∷ 0 ∷ 1 ∷ 0 ∷ 2 ∷ 0 ∷ 1 ∷ 0 ∷ 0 ∷ 1 ∷ 1 ∷ 0 ∷ 4 ∷ 0 ∷ 1 ∷ 0 ∷ 2 ∷ 0 ∷ [], (NoPlaces, (λ x o. let f0 = o.inside 0 (omega arith) in let f1 = o.inside 1 (omega arith) in let f2 = o.order 1 0 (2, omega arith, refl) in omega (arith, f0.0, f0.1, f1.0, f1.1, f2)), refl), refl))), (4 ∷ 1 ∷ 1 ∷ 1 ∷ 0 ∷ 1 ∷ 6 ∷ 3 ∷ 6 ∷ 3 ∷ 1 ∷ 1 ∷ 4 ∷ 1 ∷ 0 ∷ 1 ∷ 4 ∷ 0 ∷ 1 ∷ 0 ∷ 2 ∷ 0 ∷ 1 ∷ 0 ∷ 0 ∷ 1 ∷ 1 ∷ 0 ∷ 4 ∷ 0 ∷ 1 ∷ 0 ∷ 2 ∷ 0 ∷ [], inl (Crowd 3, record { some = omega arith; known = omega arith; close = two-pair (AreClose two_long (Lies 0 (record { rank = Left; moor = Quay }) ∷ Lies 1 (record { rank = Right; moor = Quay }) ∷ [])) 0 1 (inl (overlapping two_long (Lies 0 (record { rank = Left; moor = Quay }) ∷ Lies 1 (record { rank = Right; moor = Quay }) ∷ []) 0 1 0 118 refl refl (omega arith) (omega arith))); long = omega arith }, refl), (1 ∷ 1 ∷ 0 ∷ 1 ∷ 6 ∷ 3 ∷ 6 ∷ 3 ∷ 1 ∷ 1 ∷ 4 ∷ 1 ∷ 0 ∷ 1 ∷ 4 ∷ 0 ∷ 1 ∷ 0 ∷ 2 ∷ 0 ∷ 1 ∷ 0 ∷ 0 ∷ 1 ∷ 1 ∷ 0 ∷ 4 ∷ 0 ∷ 1 ∷ 0 ∷ 2 ∷ 0 ∷ [], inl (Outside 1, past_quay two_long (Lies 0 (record { rank = Left; moor = Quay }) ∷ Lies 1 (record { rank = Left; moor = (Ship 0) }) ∷ []) 1 119 refl (omega arith), refl), (0 ∷ 1 ∷ 6 ∷ 3 ∷ 6 ∷ 3 ∷ 1 ∷ 1 ∷ 4 ∷ 1 ∷ 0 ∷ 1 ∷ 4 ∷ 0 ∷ 1 ∷ 0 ∷ 2 ∷ 0 ∷ 1 ∷ 0 ∷ 0 ∷ 1 ∷ 1 ∷ 0 ∷ 4 ∷ 0 ∷ 1 ∷ 0 ∷ 2 ∷ 0 ∷ [], inl (OtherRank 1, record { host = 0; own = Right; berth = record { rank = Left; moor = Quay }; lies = refl; decided = refl; differ = left-right }, refl), refl))))), (0 ∷ 1 ∷ 4 ∷ 0 ∷ 1 ∷ 0 ∷ 2 ∷ 0 ∷ 1 ∷ 0 ∷ 0 ∷ 1 ∷ 1 ∷ 0 ∷ 4 ∷ 0 ∷ 1 ∷ 0 ∷ 2 ∷ 0 ∷ [], inr (OfBerth 1, (omega arith, refl), 6 ∷ 3 ∷ 6 ∷ 3 ∷ 1 ∷ 1 ∷ 4 ∷ 1 ∷ 0 ∷ 1 ∷ 4 ∷ 0 ∷ 1 ∷ 0 ∷ 2 ∷ 0 ∷ 1 ∷ 0 ∷ 0 ∷ 1 ∷ 1 ∷ 0 ∷ 4 ∷ 0 ∷ 1 ∷ 0 ∷ 2 ∷ 0 ∷ [], refl, (6 ∷ 3 ∷ 1 ∷ 1 ∷ 4 ∷ 1 ∷ 0 ∷ 1 ∷ 4 ∷ 0 ∷ 1 ∷ 0 ∷ 2 ∷ 0 ∷ 1 ∷ 0 ∷ 0 ∷ 1 ∷ 1 ∷ 0 ∷ 4 ∷ 0 ∷ 1 ∷ 0 ∷ 2 ∷ 0 ∷ [], inl (Crowd 3, record { some = omega arith; known = omega arith; close = two-pair (AreClose two_long (Lies 0 (record { rank = Right; moor = Quay }) ∷ Lies 1 (record { rank = Left; moor = Quay }) ∷ [])) 0 1 (inl (overlapping two_long (Lies 0 (record { rank = Right; moor = Quay }) ∷ Lies 1 (record { rank = Left; moor = Quay }) ∷ []) 0 1 118 0 refl refl (omega arith) (omega arith))); long = omega arith }, refl), (1 ∷ 1 ∷ 4 ∷ 1 ∷ 0 ∷ 1 ∷ 4 ∷ 0 ∷ 1 ∷ 0 ∷ 2 ∷ 0 ∷ 1 ∷ 0 ∷ 0 ∷ 1 ∷ 1 ∷ 0 ∷ 4 ∷ 0 ∷ 1 ∷ 0 ∷ 2 ∷ 0 ∷ [], inl (Crowd 3, record { some = omega arith; known = omega arith; close = two-pair (AreClose two_long (Lies 0 (record { rank = Right; moor = Quay }) ∷ Lies 1 (record { rank = Right; moor = Quay }) ∷ [])) 0 1 (inl (overlapping two_long (Lies 0 (record { rank = Right; moor = Quay }) ∷ Lies 1 (record { rank = Right; moor = Quay }) ∷ []) 0 1 118 118 refl refl (omega arith) (omega arith))); long = omega arith }, refl), (4 ∷ 1 ∷ 0 ∷ 1 ∷ 4 ∷ 0 ∷ 1 ∷ 0 ∷ 2 ∷ 0 ∷ 1 ∷ 0 ∷ 0 ∷ 1 ∷ 1 ∷ 0 ∷ 4 ∷ 0 ∷ 1 ∷ 0 ∷ 2 ∷ 0 ∷ [], inl (OtherRank 1, record { host = 0; own = Left; berth = record { rank = Right; moor = Quay }; lies = refl; decided = refl; differ = right-left }, refl), (0 ∷ 1 ∷ 4 ∷ 0 ∷ 1 ∷ 0 ∷ 2 ∷ 0 ∷ 1 ∷ 0 ∷ 0 ∷ 1 ∷ 1 ∷ 0 ∷ 4 ∷ 0 ∷ 1 ∷ 0 ∷ 2 ∷ 0 ∷ [], inl (Outside 1, below_quay two_long (Lies 0 (record { rank = Right; moor = Quay }) ∷ Lies 1 (record { rank = Right; moor = (Ship 0) }) ∷ []) 1 0 refl, refl), refl))))), (0 ∷ 1 ∷ 1 ∷ 0 ∷ 4 ∷ 0 ∷ 1 ∷ 0 ∷ 2 ∷ 0 ∷ [], inr (OfBerth 1, (omega arith, refl), 4 ∷ 0 ∷ 1 ∷ 0 ∷ 2 ∷ 0 ∷ 1 ∷ 0 ∷ 0 ∷ 1 ∷ 1 ∷ 0 ∷ 4 ∷ 0 ∷ 1 ∷ 0 ∷ 2 ∷ 0 ∷ [], refl, (1 ∷ 0 ∷ 2 ∷ 0 ∷ 1 ∷ 0 ∷ 0 ∷ 1 ∷ 1 ∷ 0 ∷ 4 ∷ 0 ∷ 1 ∷ 0 ∷ 2 ∷ 0 ∷ [], inl (Outside 0, past_quay two_long (Lies 0 (record { rank = Left; moor = (Ship 1) }) ∷ Lies 1 (record { rank = Left; moor = Quay }) ∷ []) 0 119 refl (omega arith), refl), (2 ∷ 0 ∷ 1 ∷ 0 ∷ 0 ∷ 1 ∷ 1 ∷ 0 ∷ 4 ∷ 0 ∷ 1 ∷ 0 ∷ 2 ∷ 0 ∷ [], inl (OtherRank 0, record { host = 1; own = Left; berth = record { rank = Right; moor = Quay }; lies = refl; decided = refl; differ = right-left }, refl), (1 ∷ 0 ∷ 0 ∷ 1 ∷ 1 ∷ 0 ∷ 4 ∷ 0 ∷ 1 ∷ 0 ∷ 2 ∷ 0 ∷ [], inl (LeadsBack 0, (1, omega arith, refl), refl), (0 ∷ 1 ∷ 1 ∷ 0 ∷ 4 ∷ 0 ∷ 1 ∷ 0 ∷ 2 ∷ 0 ∷ [], inl (OtherRank 0, record { host = 1; own = Left; berth = record { rank = Right; moor = Ship 0 }; lies = refl; decided = refl; differ = right-left }, refl), refl))))), ([], inr (OfBerth 1, (omega arith, refl), 1 ∷ 0 ∷ 4 ∷ 0 ∷ 1 ∷ 0 ∷ 2 ∷ 0 ∷ [], refl, (4 ∷ 0 ∷ 1 ∷ 0 ∷ 2 ∷ 0 ∷ [], inl (OtherRank 0, record { host = 1; own = Right; berth = record { rank = Left; moor = Quay }; lies = refl; decided = refl; differ = left-right }, refl), (1 ∷ 0 ∷ 2 ∷ 0 ∷ [], inl (Outside 0, below_quay two_long (Lies 0 (record { rank = Right; moor = (Ship 1) }) ∷ Lies 1 (record { rank = Right; moor = Quay }) ∷ []) 0 0 refl, refl), (2 ∷ 0 ∷ [], inl (OtherRank 0, record { host = 1; own = Right; berth = record { rank = Left; moor = Ship 0 }; lies = refl; decided = refl; differ = left-right }, refl), ([], inl (LeadsBack 0, (1, omega arith, refl), refl), refl))))), refl))))))

-- 7, 1, 0: first 1 before 0, then 0 before 1
row-two_long7 : IsBerthTree two_long (0 ∷ 0 ∷ 0 ∷ 1 ∷ 7 ∷ 1 ∷ 0 ∷ 8 ∷ 8 ∷ 6 ∷ 3 ∷ 4 ∷ 1 ∷ 1 ∷ 1 ∷ 0 ∷ 1 ∷ 6 ∷ 3 ∷ 6 ∷ 3 ∷ 1 ∷ 1 ∷ 4 ∷ 1 ∷ 0 ∷ 1 ∷ 4 ∷ 0 ∷ 1 ∷ 0 ∷ 2 ∷ 0 ∷ 1 ∷ 0 ∷ 0 ∷ 1 ∷ 1 ∷ 0 ∷ 4 ∷ 0 ∷ 1 ∷ 0 ∷ 2 ∷ 0 ∷ [])
row-two_long7 = (3, inr (OfBerth 0, (omega arith, refl), 0 ∷ 1 ∷ 7 ∷ 1 ∷ 0 ∷ 8 ∷ 8 ∷ 6 ∷ 3 ∷ 4 ∷ 1 ∷ 1 ∷ 1 ∷ 0 ∷ 1 ∷ 6 ∷ 3 ∷ 6 ∷ 3 ∷ 1 ∷ 1 ∷ 4 ∷ 1 ∷ 0 ∷ 1 ∷ 4 ∷ 0 ∷ 1 ∷ 0 ∷ 2 ∷ 0 ∷ 1 ∷ 0 ∷ 0 ∷ 1 ∷ 1 ∷ 0 ∷ 4 ∷ 0 ∷ 1 ∷ 0 ∷ 2 ∷ 0 ∷ [], refl, (0 ∷ 1 ∷ 6 ∷ 3 ∷ 6 ∷ 3 ∷ 1 ∷ 1 ∷ 4 ∷ 1 ∷ 0 ∷ 1 ∷ 4 ∷ 0 ∷ 1 ∷ 0 ∷ 2 ∷ 0 ∷ 1 ∷ 0 ∷ 0 ∷ 1 ∷ 1 ∷ 0 ∷ 4 ∷ 0 ∷ 1 ∷ 0 ∷ 2 ∷ 0 ∷ [], inr (OfBerth 1, (omega arith, refl), 7 ∷ 1 ∷ 0 ∷ 8 ∷ 8 ∷ 6 ∷ 3 ∷ 4 ∷ 1 ∷ 1 ∷ 1 ∷ 0 ∷ 1 ∷ 6 ∷ 3 ∷ 6 ∷ 3 ∷ 1 ∷ 1 ∷ 4 ∷ 1 ∷ 0 ∷ 1 ∷ 4 ∷ 0 ∷ 1 ∷ 0 ∷ 2 ∷ 0 ∷ 1 ∷ 0 ∷ 0 ∷ 1 ∷ 1 ∷ 0 ∷ 4 ∷ 0 ∷ 1 ∷ 0 ∷ 2 ∷ 0 ∷ [], refl, (6 ∷ 3 ∷ 4 ∷ 1 ∷ 1 ∷ 1 ∷ 0 ∷ 1 ∷ 6 ∷ 3 ∷ 6 ∷ 3 ∷ 1 ∷ 1 ∷ 4 ∷ 1 ∷ 0 ∷ 1 ∷ 4 ∷ 0 ∷ 1 ∷ 0 ∷ 2 ∷ 0 ∷ 1 ∷ 0 ∷ 0 ∷ 1 ∷ 1 ∷ 0 ∷ 4 ∷ 0 ∷ 1 ∷ 0 ∷ 2 ∷ 0 ∷ [], inr (OfOrder 1 0, record { different = λ e. omega (arith, e); overlap = overlapping two_long (Lies 0 (record { rank = Left; moor = Quay }) ∷ Lies 1 (record { rank = Left; moor = Quay }) ∷ []) 1 0 0 0 refl refl (omega arith) (omega arith); not_before = no-order (Lies 0 (record { rank = Left; moor = Quay }) ∷ Lies 1 (record { rank = Left; moor = Quay }) ∷ []) 1 0 tt; not_after = no-order (Lies 0 (record { rank = Left; moor = Quay }) ∷ Lies 1 (record { rank = Left; moor = Quay }) ∷ []) 0 1 tt }, 8 ∷ 8 ∷ 6 ∷ 3 ∷ 4 ∷ 1 ∷ 1 ∷ 1 ∷ 0 ∷ 1 ∷ 6 ∷ 3 ∷ 6 ∷ 3 ∷ 1 ∷ 1 ∷ 4 ∷ 1 ∷ 0 ∷ 1 ∷ 4 ∷ 0 ∷ 1 ∷ 0 ∷ 2 ∷ 0 ∷ 1 ∷ 0 ∷ 0 ∷ 1 ∷ 1 ∷ 0 ∷ 4 ∷ 0 ∷ 1 ∷ 0 ∷ 2 ∷ 0 ∷ [], refl, (8 ∷ 6 ∷ 3 ∷ 4 ∷ 1 ∷ 1 ∷ 1 ∷ 0 ∷ 1 ∷ 6 ∷ 3 ∷ 6 ∷ 3 ∷ 1 ∷ 1 ∷ 4 ∷ 1 ∷ 0 ∷ 1 ∷ 4 ∷ 0 ∷ 1 ∷ 0 ∷ 2 ∷ 0 ∷ 1 ∷ 0 ∷ 0 ∷ 1 ∷ 1 ∷ 0 ∷ 4 ∷ 0 ∷ 1 ∷ 0 ∷ 2 ∷ 0 ∷ [], (NoPlaces, (λ x o. let f0 = o.inside 0 (omega arith) in let f1 = o.inside 1 (omega arith) in let f2 = o.order 1 0 (2, omega arith, refl) in omega (arith, f0.0, f0.1, f1.0, f1.1, f2)), refl), (6 ∷ 3 ∷ 4 ∷ 1 ∷ 1 ∷ 1 ∷ 0 ∷ 1 ∷ 6 ∷ 3 ∷ 6 ∷ 3 ∷ 1 ∷ 1 ∷ 4 ∷ 1 ∷ 0 ∷ 1 ∷ 4 ∷ 0 ∷ 1 ∷ 0 ∷ 2 ∷ 0 ∷ 1 ∷ 0 ∷ 0 ∷ 1 ∷ 1 ∷ 0 ∷ 4 ∷ 0 ∷ 1 ∷ 0 ∷ 2 ∷ 0 ∷ [], (NoPlaces, (λ x o. let f0 = o.inside 0 (omega arith) in let f1 = o.inside 1 (omega arith) in let f2 = o.order 0 1 (2, omega arith, refl) in omega (arith, f0.0, f0.1, f1.0, f1.1, f2)), refl), refl))), (4 ∷ 1 ∷ 1 ∷ 1 ∷ 0 ∷ 1 ∷ 6 ∷ 3 ∷ 6 ∷ 3 ∷ 1 ∷ 1 ∷ 4 ∷ 1 ∷ 0 ∷ 1 ∷ 4 ∷ 0 ∷ 1 ∷ 0 ∷ 2 ∷ 0 ∷ 1 ∷ 0 ∷ 0 ∷ 1 ∷ 1 ∷ 0 ∷ 4 ∷ 0 ∷ 1 ∷ 0 ∷ 2 ∷ 0 ∷ [], inl (Crowd 3, record { some = omega arith; known = omega arith; close = two-pair (AreClose two_long (Lies 0 (record { rank = Left; moor = Quay }) ∷ Lies 1 (record { rank = Right; moor = Quay }) ∷ [])) 0 1 (inl (overlapping two_long (Lies 0 (record { rank = Left; moor = Quay }) ∷ Lies 1 (record { rank = Right; moor = Quay }) ∷ []) 0 1 0 118 refl refl (omega arith) (omega arith))); long = omega arith }, refl), (1 ∷ 1 ∷ 0 ∷ 1 ∷ 6 ∷ 3 ∷ 6 ∷ 3 ∷ 1 ∷ 1 ∷ 4 ∷ 1 ∷ 0 ∷ 1 ∷ 4 ∷ 0 ∷ 1 ∷ 0 ∷ 2 ∷ 0 ∷ 1 ∷ 0 ∷ 0 ∷ 1 ∷ 1 ∷ 0 ∷ 4 ∷ 0 ∷ 1 ∷ 0 ∷ 2 ∷ 0 ∷ [], inl (Outside 1, past_quay two_long (Lies 0 (record { rank = Left; moor = Quay }) ∷ Lies 1 (record { rank = Left; moor = (Ship 0) }) ∷ []) 1 119 refl (omega arith), refl), (0 ∷ 1 ∷ 6 ∷ 3 ∷ 6 ∷ 3 ∷ 1 ∷ 1 ∷ 4 ∷ 1 ∷ 0 ∷ 1 ∷ 4 ∷ 0 ∷ 1 ∷ 0 ∷ 2 ∷ 0 ∷ 1 ∷ 0 ∷ 0 ∷ 1 ∷ 1 ∷ 0 ∷ 4 ∷ 0 ∷ 1 ∷ 0 ∷ 2 ∷ 0 ∷ [], inl (OtherRank 1, record { host = 0; own = Right; berth = record { rank = Left; moor = Quay }; lies = refl; decided = refl; differ = left-right }, refl), refl))))), (0 ∷ 1 ∷ 4 ∷ 0 ∷ 1 ∷ 0 ∷ 2 ∷ 0 ∷ 1 ∷ 0 ∷ 0 ∷ 1 ∷ 1 ∷ 0 ∷ 4 ∷ 0 ∷ 1 ∷ 0 ∷ 2 ∷ 0 ∷ [], inr (OfBerth 1, (omega arith, refl), 6 ∷ 3 ∷ 6 ∷ 3 ∷ 1 ∷ 1 ∷ 4 ∷ 1 ∷ 0 ∷ 1 ∷ 4 ∷ 0 ∷ 1 ∷ 0 ∷ 2 ∷ 0 ∷ 1 ∷ 0 ∷ 0 ∷ 1 ∷ 1 ∷ 0 ∷ 4 ∷ 0 ∷ 1 ∷ 0 ∷ 2 ∷ 0 ∷ [], refl, (6 ∷ 3 ∷ 1 ∷ 1 ∷ 4 ∷ 1 ∷ 0 ∷ 1 ∷ 4 ∷ 0 ∷ 1 ∷ 0 ∷ 2 ∷ 0 ∷ 1 ∷ 0 ∷ 0 ∷ 1 ∷ 1 ∷ 0 ∷ 4 ∷ 0 ∷ 1 ∷ 0 ∷ 2 ∷ 0 ∷ [], inl (Crowd 3, record { some = omega arith; known = omega arith; close = two-pair (AreClose two_long (Lies 0 (record { rank = Right; moor = Quay }) ∷ Lies 1 (record { rank = Left; moor = Quay }) ∷ [])) 0 1 (inl (overlapping two_long (Lies 0 (record { rank = Right; moor = Quay }) ∷ Lies 1 (record { rank = Left; moor = Quay }) ∷ []) 0 1 118 0 refl refl (omega arith) (omega arith))); long = omega arith }, refl), (1 ∷ 1 ∷ 4 ∷ 1 ∷ 0 ∷ 1 ∷ 4 ∷ 0 ∷ 1 ∷ 0 ∷ 2 ∷ 0 ∷ 1 ∷ 0 ∷ 0 ∷ 1 ∷ 1 ∷ 0 ∷ 4 ∷ 0 ∷ 1 ∷ 0 ∷ 2 ∷ 0 ∷ [], inl (Crowd 3, record { some = omega arith; known = omega arith; close = two-pair (AreClose two_long (Lies 0 (record { rank = Right; moor = Quay }) ∷ Lies 1 (record { rank = Right; moor = Quay }) ∷ [])) 0 1 (inl (overlapping two_long (Lies 0 (record { rank = Right; moor = Quay }) ∷ Lies 1 (record { rank = Right; moor = Quay }) ∷ []) 0 1 118 118 refl refl (omega arith) (omega arith))); long = omega arith }, refl), (4 ∷ 1 ∷ 0 ∷ 1 ∷ 4 ∷ 0 ∷ 1 ∷ 0 ∷ 2 ∷ 0 ∷ 1 ∷ 0 ∷ 0 ∷ 1 ∷ 1 ∷ 0 ∷ 4 ∷ 0 ∷ 1 ∷ 0 ∷ 2 ∷ 0 ∷ [], inl (OtherRank 1, record { host = 0; own = Left; berth = record { rank = Right; moor = Quay }; lies = refl; decided = refl; differ = right-left }, refl), (0 ∷ 1 ∷ 4 ∷ 0 ∷ 1 ∷ 0 ∷ 2 ∷ 0 ∷ 1 ∷ 0 ∷ 0 ∷ 1 ∷ 1 ∷ 0 ∷ 4 ∷ 0 ∷ 1 ∷ 0 ∷ 2 ∷ 0 ∷ [], inl (Outside 1, below_quay two_long (Lies 0 (record { rank = Right; moor = Quay }) ∷ Lies 1 (record { rank = Right; moor = (Ship 0) }) ∷ []) 1 0 refl, refl), refl))))), (0 ∷ 1 ∷ 1 ∷ 0 ∷ 4 ∷ 0 ∷ 1 ∷ 0 ∷ 2 ∷ 0 ∷ [], inr (OfBerth 1, (omega arith, refl), 4 ∷ 0 ∷ 1 ∷ 0 ∷ 2 ∷ 0 ∷ 1 ∷ 0 ∷ 0 ∷ 1 ∷ 1 ∷ 0 ∷ 4 ∷ 0 ∷ 1 ∷ 0 ∷ 2 ∷ 0 ∷ [], refl, (1 ∷ 0 ∷ 2 ∷ 0 ∷ 1 ∷ 0 ∷ 0 ∷ 1 ∷ 1 ∷ 0 ∷ 4 ∷ 0 ∷ 1 ∷ 0 ∷ 2 ∷ 0 ∷ [], inl (Outside 0, past_quay two_long (Lies 0 (record { rank = Left; moor = (Ship 1) }) ∷ Lies 1 (record { rank = Left; moor = Quay }) ∷ []) 0 119 refl (omega arith), refl), (2 ∷ 0 ∷ 1 ∷ 0 ∷ 0 ∷ 1 ∷ 1 ∷ 0 ∷ 4 ∷ 0 ∷ 1 ∷ 0 ∷ 2 ∷ 0 ∷ [], inl (OtherRank 0, record { host = 1; own = Left; berth = record { rank = Right; moor = Quay }; lies = refl; decided = refl; differ = right-left }, refl), (1 ∷ 0 ∷ 0 ∷ 1 ∷ 1 ∷ 0 ∷ 4 ∷ 0 ∷ 1 ∷ 0 ∷ 2 ∷ 0 ∷ [], inl (LeadsBack 0, (1, omega arith, refl), refl), (0 ∷ 1 ∷ 1 ∷ 0 ∷ 4 ∷ 0 ∷ 1 ∷ 0 ∷ 2 ∷ 0 ∷ [], inl (OtherRank 0, record { host = 1; own = Left; berth = record { rank = Right; moor = Ship 0 }; lies = refl; decided = refl; differ = right-left }, refl), refl))))), ([], inr (OfBerth 1, (omega arith, refl), 1 ∷ 0 ∷ 4 ∷ 0 ∷ 1 ∷ 0 ∷ 2 ∷ 0 ∷ [], refl, (4 ∷ 0 ∷ 1 ∷ 0 ∷ 2 ∷ 0 ∷ [], inl (OtherRank 0, record { host = 1; own = Right; berth = record { rank = Left; moor = Quay }; lies = refl; decided = refl; differ = left-right }, refl), (1 ∷ 0 ∷ 2 ∷ 0 ∷ [], inl (Outside 0, below_quay two_long (Lies 0 (record { rank = Right; moor = (Ship 1) }) ∷ Lies 1 (record { rank = Right; moor = Quay }) ∷ []) 0 0 refl, refl), (2 ∷ 0 ∷ [], inl (OtherRank 0, record { host = 1; own = Right; berth = record { rank = Left; moor = Ship 0 }; lies = refl; decided = refl; differ = left-right }, refl), ([], inl (LeadsBack 0, (1, omega arith, refl), refl), refl))))), refl))))))

-- 5, 2: two guests of ship 2 have 190, above 95
row-one_host8 : IsBerthTree one_host (0 ∷ 0 ∷ 4 ∷ 0 ∷ 4 ∷ 0 ∷ 0 ∷ 1 ∷ 4 ∷ 0 ∷ 1 ∷ 0 ∷ 2 ∷ 0 ∷ 1 ∷ 0 ∷ 0 ∷ 2 ∷ 4 ∷ 0 ∷ 1 ∷ 1 ∷ 2 ∷ 0 ∷ 2 ∷ 0 ∷ 2 ∷ 1 ∷ 1 ∷ 1 ∷ 1 ∷ 0 ∷ 0 ∷ 1 ∷ 1 ∷ 0 ∷ 4 ∷ 0 ∷ 1 ∷ 0 ∷ 2 ∷ 0 ∷ 1 ∷ 0 ∷ 0 ∷ 2 ∷ 1 ∷ 1 ∷ 4 ∷ 0 ∷ 2 ∷ 0 ∷ 2 ∷ 0 ∷ 1 ∷ 1 ∷ 2 ∷ 1 ∷ 0 ∷ 1 ∷ 4 ∷ 1 ∷ 4 ∷ 1 ∷ 0 ∷ 2 ∷ 4 ∷ 0 ∷ 1 ∷ 0 ∷ 2 ∷ 0 ∷ 1 ∷ 0 ∷ 2 ∷ 0 ∷ 1 ∷ 0 ∷ 1 ∷ 1 ∷ 5 ∷ 2 ∷ 5 ∷ 2 ∷ 0 ∷ 1 ∷ 4 ∷ 1 ∷ 4 ∷ 1 ∷ 1 ∷ 1 ∷ 0 ∷ 2 ∷ 1 ∷ 0 ∷ 4 ∷ 0 ∷ 1 ∷ 0 ∷ 2 ∷ 0 ∷ 1 ∷ 0 ∷ 2 ∷ 0 ∷ 5 ∷ 2 ∷ 5 ∷ 2 ∷ [])
row-one_host8 = (3, inr (OfBerth 0, (omega arith, refl), 4 ∷ 0 ∷ 4 ∷ 0 ∷ 0 ∷ 1 ∷ 4 ∷ 0 ∷ 1 ∷ 0 ∷ 2 ∷ 0 ∷ 1 ∷ 0 ∷ 0 ∷ 2 ∷ 4 ∷ 0 ∷ 1 ∷ 1 ∷ 2 ∷ 0 ∷ 2 ∷ 0 ∷ 2 ∷ 1 ∷ 1 ∷ 1 ∷ 1 ∷ 0 ∷ 0 ∷ 1 ∷ 1 ∷ 0 ∷ 4 ∷ 0 ∷ 1 ∷ 0 ∷ 2 ∷ 0 ∷ 1 ∷ 0 ∷ 0 ∷ 2 ∷ 1 ∷ 1 ∷ 4 ∷ 0 ∷ 2 ∷ 0 ∷ 2 ∷ 0 ∷ 1 ∷ 1 ∷ 2 ∷ 1 ∷ 0 ∷ 1 ∷ 4 ∷ 1 ∷ 4 ∷ 1 ∷ 0 ∷ 2 ∷ 4 ∷ 0 ∷ 1 ∷ 0 ∷ 2 ∷ 0 ∷ 1 ∷ 0 ∷ 2 ∷ 0 ∷ 1 ∷ 0 ∷ 1 ∷ 1 ∷ 5 ∷ 2 ∷ 5 ∷ 2 ∷ 0 ∷ 1 ∷ 4 ∷ 1 ∷ 4 ∷ 1 ∷ 1 ∷ 1 ∷ 0 ∷ 2 ∷ 1 ∷ 0 ∷ 4 ∷ 0 ∷ 1 ∷ 0 ∷ 2 ∷ 0 ∷ 1 ∷ 0 ∷ 2 ∷ 0 ∷ 5 ∷ 2 ∷ 5 ∷ 2 ∷ [], refl, (4 ∷ 0 ∷ 0 ∷ 1 ∷ 4 ∷ 0 ∷ 1 ∷ 0 ∷ 2 ∷ 0 ∷ 1 ∷ 0 ∷ 0 ∷ 2 ∷ 4 ∷ 0 ∷ 1 ∷ 1 ∷ 2 ∷ 0 ∷ 2 ∷ 0 ∷ 2 ∷ 1 ∷ 1 ∷ 1 ∷ 1 ∷ 0 ∷ 0 ∷ 1 ∷ 1 ∷ 0 ∷ 4 ∷ 0 ∷ 1 ∷ 0 ∷ 2 ∷ 0 ∷ 1 ∷ 0 ∷ 0 ∷ 2 ∷ 1 ∷ 1 ∷ 4 ∷ 0 ∷ 2 ∷ 0 ∷ 2 ∷ 0 ∷ 1 ∷ 1 ∷ 2 ∷ 1 ∷ 0 ∷ 1 ∷ 4 ∷ 1 ∷ 4 ∷ 1 ∷ 0 ∷ 2 ∷ 4 ∷ 0 ∷ 1 ∷ 0 ∷ 2 ∷ 0 ∷ 1 ∷ 0 ∷ 2 ∷ 0 ∷ 1 ∷ 0 ∷ 1 ∷ 1 ∷ 5 ∷ 2 ∷ 5 ∷ 2 ∷ 0 ∷ 1 ∷ 4 ∷ 1 ∷ 4 ∷ 1 ∷ 1 ∷ 1 ∷ 0 ∷ 2 ∷ 1 ∷ 0 ∷ 4 ∷ 0 ∷ 1 ∷ 0 ∷ 2 ∷ 0 ∷ 1 ∷ 0 ∷ 2 ∷ 0 ∷ 5 ∷ 2 ∷ 5 ∷ 2 ∷ [], inl (Outside 0, past_quay one_host (Lies 0 (record { rank = Left; moor = Quay }) ∷ []) 0 0 refl (omega arith), refl), (0 ∷ 1 ∷ 4 ∷ 0 ∷ 1 ∷ 0 ∷ 2 ∷ 0 ∷ 1 ∷ 0 ∷ 0 ∷ 2 ∷ 4 ∷ 0 ∷ 1 ∷ 1 ∷ 2 ∷ 0 ∷ 2 ∷ 0 ∷ 2 ∷ 1 ∷ 1 ∷ 1 ∷ 1 ∷ 0 ∷ 0 ∷ 1 ∷ 1 ∷ 0 ∷ 4 ∷ 0 ∷ 1 ∷ 0 ∷ 2 ∷ 0 ∷ 1 ∷ 0 ∷ 0 ∷ 2 ∷ 1 ∷ 1 ∷ 4 ∷ 0 ∷ 2 ∷ 0 ∷ 2 ∷ 0 ∷ 1 ∷ 1 ∷ 2 ∷ 1 ∷ 0 ∷ 1 ∷ 4 ∷ 1 ∷ 4 ∷ 1 ∷ 0 ∷ 2 ∷ 4 ∷ 0 ∷ 1 ∷ 0 ∷ 2 ∷ 0 ∷ 1 ∷ 0 ∷ 2 ∷ 0 ∷ 1 ∷ 0 ∷ 1 ∷ 1 ∷ 5 ∷ 2 ∷ 5 ∷ 2 ∷ 0 ∷ 1 ∷ 4 ∷ 1 ∷ 4 ∷ 1 ∷ 1 ∷ 1 ∷ 0 ∷ 2 ∷ 1 ∷ 0 ∷ 4 ∷ 0 ∷ 1 ∷ 0 ∷ 2 ∷ 0 ∷ 1 ∷ 0 ∷ 2 ∷ 0 ∷ 5 ∷ 2 ∷ 5 ∷ 2 ∷ [], inl (Outside 0, below_quay one_host (Lies 0 (record { rank = Right; moor = Quay }) ∷ []) 0 9 refl, refl), (0 ∷ 1 ∷ 1 ∷ 0 ∷ 4 ∷ 0 ∷ 1 ∷ 0 ∷ 2 ∷ 0 ∷ 1 ∷ 0 ∷ 0 ∷ 2 ∷ 1 ∷ 1 ∷ 4 ∷ 0 ∷ 2 ∷ 0 ∷ 2 ∷ 0 ∷ 1 ∷ 1 ∷ 2 ∷ 1 ∷ 0 ∷ 1 ∷ 4 ∷ 1 ∷ 4 ∷ 1 ∷ 0 ∷ 2 ∷ 4 ∷ 0 ∷ 1 ∷ 0 ∷ 2 ∷ 0 ∷ 1 ∷ 0 ∷ 2 ∷ 0 ∷ 1 ∷ 0 ∷ 1 ∷ 1 ∷ 5 ∷ 2 ∷ 5 ∷ 2 ∷ 0 ∷ 1 ∷ 4 ∷ 1 ∷ 4 ∷ 1 ∷ 1 ∷ 1 ∷ 0 ∷ 2 ∷ 1 ∷ 0 ∷ 4 ∷ 0 ∷ 1 ∷ 0 ∷ 2 ∷ 0 ∷ 1 ∷ 0 ∷ 2 ∷ 0 ∷ 5 ∷ 2 ∷ 5 ∷ 2 ∷ [], inr (OfBerth 1, (omega arith, refl), 4 ∷ 0 ∷ 1 ∷ 0 ∷ 2 ∷ 0 ∷ 1 ∷ 0 ∷ 0 ∷ 2 ∷ 4 ∷ 0 ∷ 1 ∷ 1 ∷ 2 ∷ 0 ∷ 2 ∷ 0 ∷ 2 ∷ 1 ∷ 1 ∷ 1 ∷ 1 ∷ 0 ∷ 0 ∷ 1 ∷ 1 ∷ 0 ∷ 4 ∷ 0 ∷ 1 ∷ 0 ∷ 2 ∷ 0 ∷ 1 ∷ 0 ∷ 0 ∷ 2 ∷ 1 ∷ 1 ∷ 4 ∷ 0 ∷ 2 ∷ 0 ∷ 2 ∷ 0 ∷ 1 ∷ 1 ∷ 2 ∷ 1 ∷ 0 ∷ 1 ∷ 4 ∷ 1 ∷ 4 ∷ 1 ∷ 0 ∷ 2 ∷ 4 ∷ 0 ∷ 1 ∷ 0 ∷ 2 ∷ 0 ∷ 1 ∷ 0 ∷ 2 ∷ 0 ∷ 1 ∷ 0 ∷ 1 ∷ 1 ∷ 5 ∷ 2 ∷ 5 ∷ 2 ∷ 0 ∷ 1 ∷ 4 ∷ 1 ∷ 4 ∷ 1 ∷ 1 ∷ 1 ∷ 0 ∷ 2 ∷ 1 ∷ 0 ∷ 4 ∷ 0 ∷ 1 ∷ 0 ∷ 2 ∷ 0 ∷ 1 ∷ 0 ∷ 2 ∷ 0 ∷ 5 ∷ 2 ∷ 5 ∷ 2 ∷ [], refl, (1 ∷ 0 ∷ 2 ∷ 0 ∷ 1 ∷ 0 ∷ 0 ∷ 2 ∷ 4 ∷ 0 ∷ 1 ∷ 1 ∷ 2 ∷ 0 ∷ 2 ∷ 0 ∷ 2 ∷ 1 ∷ 1 ∷ 1 ∷ 1 ∷ 0 ∷ 0 ∷ 1 ∷ 1 ∷ 0 ∷ 4 ∷ 0 ∷ 1 ∷ 0 ∷ 2 ∷ 0 ∷ 1 ∷ 0 ∷ 0 ∷ 2 ∷ 1 ∷ 1 ∷ 4 ∷ 0 ∷ 2 ∷ 0 ∷ 2 ∷ 0 ∷ 1 ∷ 1 ∷ 2 ∷ 1 ∷ 0 ∷ 1 ∷ 4 ∷ 1 ∷ 4 ∷ 1 ∷ 0 ∷ 2 ∷ 4 ∷ 0 ∷ 1 ∷ 0 ∷ 2 ∷ 0 ∷ 1 ∷ 0 ∷ 2 ∷ 0 ∷ 1 ∷ 0 ∷ 1 ∷ 1 ∷ 5 ∷ 2 ∷ 5 ∷ 2 ∷ 0 ∷ 1 ∷ 4 ∷ 1 ∷ 4 ∷ 1 ∷ 1 ∷ 1 ∷ 0 ∷ 2 ∷ 1 ∷ 0 ∷ 4 ∷ 0 ∷ 1 ∷ 0 ∷ 2 ∷ 0 ∷ 1 ∷ 0 ∷ 2 ∷ 0 ∷ 5 ∷ 2 ∷ 5 ∷ 2 ∷ [], inl (Outside 0, past_quay one_host (Lies 0 (record { rank = Left; moor = (Ship 1) }) ∷ Lies 1 (record { rank = Left; moor = Quay }) ∷ []) 0 55 refl (omega arith), refl), (2 ∷ 0 ∷ 1 ∷ 0 ∷ 0 ∷ 2 ∷ 4 ∷ 0 ∷ 1 ∷ 1 ∷ 2 ∷ 0 ∷ 2 ∷ 0 ∷ 2 ∷ 1 ∷ 1 ∷ 1 ∷ 1 ∷ 0 ∷ 0 ∷ 1 ∷ 1 ∷ 0 ∷ 4 ∷ 0 ∷ 1 ∷ 0 ∷ 2 ∷ 0 ∷ 1 ∷ 0 ∷ 0 ∷ 2 ∷ 1 ∷ 1 ∷ 4 ∷ 0 ∷ 2 ∷ 0 ∷ 2 ∷ 0 ∷ 1 ∷ 1 ∷ 2 ∷ 1 ∷ 0 ∷ 1 ∷ 4 ∷ 1 ∷ 4 ∷ 1 ∷ 0 ∷ 2 ∷ 4 ∷ 0 ∷ 1 ∷ 0 ∷ 2 ∷ 0 ∷ 1 ∷ 0 ∷ 2 ∷ 0 ∷ 1 ∷ 0 ∷ 1 ∷ 1 ∷ 5 ∷ 2 ∷ 5 ∷ 2 ∷ 0 ∷ 1 ∷ 4 ∷ 1 ∷ 4 ∷ 1 ∷ 1 ∷ 1 ∷ 0 ∷ 2 ∷ 1 ∷ 0 ∷ 4 ∷ 0 ∷ 1 ∷ 0 ∷ 2 ∷ 0 ∷ 1 ∷ 0 ∷ 2 ∷ 0 ∷ 5 ∷ 2 ∷ 5 ∷ 2 ∷ [], inl (OtherRank 0, record { host = 1; own = Left; berth = record { rank = Right; moor = Quay }; lies = refl; decided = refl; differ = right-left }, refl), (1 ∷ 0 ∷ 0 ∷ 2 ∷ 4 ∷ 0 ∷ 1 ∷ 1 ∷ 2 ∷ 0 ∷ 2 ∷ 0 ∷ 2 ∷ 1 ∷ 1 ∷ 1 ∷ 1 ∷ 0 ∷ 0 ∷ 1 ∷ 1 ∷ 0 ∷ 4 ∷ 0 ∷ 1 ∷ 0 ∷ 2 ∷ 0 ∷ 1 ∷ 0 ∷ 0 ∷ 2 ∷ 1 ∷ 1 ∷ 4 ∷ 0 ∷ 2 ∷ 0 ∷ 2 ∷ 0 ∷ 1 ∷ 1 ∷ 2 ∷ 1 ∷ 0 ∷ 1 ∷ 4 ∷ 1 ∷ 4 ∷ 1 ∷ 0 ∷ 2 ∷ 4 ∷ 0 ∷ 1 ∷ 0 ∷ 2 ∷ 0 ∷ 1 ∷ 0 ∷ 2 ∷ 0 ∷ 1 ∷ 0 ∷ 1 ∷ 1 ∷ 5 ∷ 2 ∷ 5 ∷ 2 ∷ 0 ∷ 1 ∷ 4 ∷ 1 ∷ 4 ∷ 1 ∷ 1 ∷ 1 ∷ 0 ∷ 2 ∷ 1 ∷ 0 ∷ 4 ∷ 0 ∷ 1 ∷ 0 ∷ 2 ∷ 0 ∷ 1 ∷ 0 ∷ 2 ∷ 0 ∷ 5 ∷ 2 ∷ 5 ∷ 2 ∷ [], inl (LeadsBack 0, (1, omega arith, refl), refl), (0 ∷ 2 ∷ 4 ∷ 0 ∷ 1 ∷ 1 ∷ 2 ∷ 0 ∷ 2 ∷ 0 ∷ 2 ∷ 1 ∷ 1 ∷ 1 ∷ 1 ∷ 0 ∷ 0 ∷ 1 ∷ 1 ∷ 0 ∷ 4 ∷ 0 ∷ 1 ∷ 0 ∷ 2 ∷ 0 ∷ 1 ∷ 0 ∷ 0 ∷ 2 ∷ 1 ∷ 1 ∷ 4 ∷ 0 ∷ 2 ∷ 0 ∷ 2 ∷ 0 ∷ 1 ∷ 1 ∷ 2 ∷ 1 ∷ 0 ∷ 1 ∷ 4 ∷ 1 ∷ 4 ∷ 1 ∷ 0 ∷ 2 ∷ 4 ∷ 0 ∷ 1 ∷ 0 ∷ 2 ∷ 0 ∷ 1 ∷ 0 ∷ 2 ∷ 0 ∷ 1 ∷ 0 ∷ 1 ∷ 1 ∷ 5 ∷ 2 ∷ 5 ∷ 2 ∷ 0 ∷ 1 ∷ 4 ∷ 1 ∷ 4 ∷ 1 ∷ 1 ∷ 1 ∷ 0 ∷ 2 ∷ 1 ∷ 0 ∷ 4 ∷ 0 ∷ 1 ∷ 0 ∷ 2 ∷ 0 ∷ 1 ∷ 0 ∷ 2 ∷ 0 ∷ 5 ∷ 2 ∷ 5 ∷ 2 ∷ [], inl (OtherRank 0, record { host = 1; own = Left; berth = record { rank = Right; moor = Ship 0 }; lies = refl; decided = refl; differ = right-left }, refl), (1 ∷ 0 ∷ 0 ∷ 1 ∷ 1 ∷ 0 ∷ 4 ∷ 0 ∷ 1 ∷ 0 ∷ 2 ∷ 0 ∷ 1 ∷ 0 ∷ 0 ∷ 2 ∷ 1 ∷ 1 ∷ 4 ∷ 0 ∷ 2 ∷ 0 ∷ 2 ∷ 0 ∷ 1 ∷ 1 ∷ 2 ∷ 1 ∷ 0 ∷ 1 ∷ 4 ∷ 1 ∷ 4 ∷ 1 ∷ 0 ∷ 2 ∷ 4 ∷ 0 ∷ 1 ∷ 0 ∷ 2 ∷ 0 ∷ 1 ∷ 0 ∷ 2 ∷ 0 ∷ 1 ∷ 0 ∷ 1 ∷ 1 ∷ 5 ∷ 2 ∷ 5 ∷ 2 ∷ 0 ∷ 1 ∷ 4 ∷ 1 ∷ 4 ∷ 1 ∷ 1 ∷ 1 ∷ 0 ∷ 2 ∷ 1 ∷ 0 ∷ 4 ∷ 0 ∷ 1 ∷ 0 ∷ 2 ∷ 0 ∷ 1 ∷ 0 ∷ 2 ∷ 0 ∷ 5 ∷ 2 ∷ 5 ∷ 2 ∷ [], inr (OfBerth 2, (omega arith, refl), 4 ∷ 0 ∷ 1 ∷ 1 ∷ 2 ∷ 0 ∷ 2 ∷ 0 ∷ 2 ∷ 1 ∷ 1 ∷ 1 ∷ 1 ∷ 0 ∷ 0 ∷ 1 ∷ 1 ∷ 0 ∷ 4 ∷ 0 ∷ 1 ∷ 0 ∷ 2 ∷ 0 ∷ 1 ∷ 0 ∷ 0 ∷ 2 ∷ 1 ∷ 1 ∷ 4 ∷ 0 ∷ 2 ∷ 0 ∷ 2 ∷ 0 ∷ 1 ∷ 1 ∷ 2 ∷ 1 ∷ 0 ∷ 1 ∷ 4 ∷ 1 ∷ 4 ∷ 1 ∷ 0 ∷ 2 ∷ 4 ∷ 0 ∷ 1 ∷ 0 ∷ 2 ∷ 0 ∷ 1 ∷ 0 ∷ 2 ∷ 0 ∷ 1 ∷ 0 ∷ 1 ∷ 1 ∷ 5 ∷ 2 ∷ 5 ∷ 2 ∷ 0 ∷ 1 ∷ 4 ∷ 1 ∷ 4 ∷ 1 ∷ 1 ∷ 1 ∷ 0 ∷ 2 ∷ 1 ∷ 0 ∷ 4 ∷ 0 ∷ 1 ∷ 0 ∷ 2 ∷ 0 ∷ 1 ∷ 0 ∷ 2 ∷ 0 ∷ 5 ∷ 2 ∷ 5 ∷ 2 ∷ [], refl, (1 ∷ 1 ∷ 2 ∷ 0 ∷ 2 ∷ 0 ∷ 2 ∷ 1 ∷ 1 ∷ 1 ∷ 1 ∷ 0 ∷ 0 ∷ 1 ∷ 1 ∷ 0 ∷ 4 ∷ 0 ∷ 1 ∷ 0 ∷ 2 ∷ 0 ∷ 1 ∷ 0 ∷ 0 ∷ 2 ∷ 1 ∷ 1 ∷ 4 ∷ 0 ∷ 2 ∷ 0 ∷ 2 ∷ 0 ∷ 1 ∷ 1 ∷ 2 ∷ 1 ∷ 0 ∷ 1 ∷ 4 ∷ 1 ∷ 4 ∷ 1 ∷ 0 ∷ 2 ∷ 4 ∷ 0 ∷ 1 ∷ 0 ∷ 2 ∷ 0 ∷ 1 ∷ 0 ∷ 2 ∷ 0 ∷ 1 ∷ 0 ∷ 1 ∷ 1 ∷ 5 ∷ 2 ∷ 5 ∷ 2 ∷ 0 ∷ 1 ∷ 4 ∷ 1 ∷ 4 ∷ 1 ∷ 1 ∷ 1 ∷ 0 ∷ 2 ∷ 1 ∷ 0 ∷ 4 ∷ 0 ∷ 1 ∷ 0 ∷ 2 ∷ 0 ∷ 1 ∷ 0 ∷ 2 ∷ 0 ∷ 5 ∷ 2 ∷ 5 ∷ 2 ∷ [], (Outside 0, past_quay one_host (Lies 0 (record { rank = Left; moor = (Ship 1) }) ∷ Lies 1 (record { rank = Left; moor = (Ship 2) }) ∷ Lies 2 (record { rank = Left; moor = Quay }) ∷ []) 0 90 refl (omega arith), refl), (2 ∷ 0 ∷ 2 ∷ 0 ∷ 2 ∷ 1 ∷ 1 ∷ 1 ∷ 1 ∷ 0 ∷ 0 ∷ 1 ∷ 1 ∷ 0 ∷ 4 ∷ 0 ∷ 1 ∷ 0 ∷ 2 ∷ 0 ∷ 1 ∷ 0 ∷ 0 ∷ 2 ∷ 1 ∷ 1 ∷ 4 ∷ 0 ∷ 2 ∷ 0 ∷ 2 ∷ 0 ∷ 1 ∷ 1 ∷ 2 ∷ 1 ∷ 0 ∷ 1 ∷ 4 ∷ 1 ∷ 4 ∷ 1 ∷ 0 ∷ 2 ∷ 4 ∷ 0 ∷ 1 ∷ 0 ∷ 2 ∷ 0 ∷ 1 ∷ 0 ∷ 2 ∷ 0 ∷ 1 ∷ 0 ∷ 1 ∷ 1 ∷ 5 ∷ 2 ∷ 5 ∷ 2 ∷ 0 ∷ 1 ∷ 4 ∷ 1 ∷ 4 ∷ 1 ∷ 1 ∷ 1 ∷ 0 ∷ 2 ∷ 1 ∷ 0 ∷ 4 ∷ 0 ∷ 1 ∷ 0 ∷ 2 ∷ 0 ∷ 1 ∷ 0 ∷ 2 ∷ 0 ∷ 5 ∷ 2 ∷ 5 ∷ 2 ∷ [], (OtherRank 1, record { host = 2; own = Left; berth = record { rank = Right; moor = Quay }; lies = refl; decided = refl; differ = right-left }, refl), (2 ∷ 0 ∷ 2 ∷ 1 ∷ 1 ∷ 1 ∷ 1 ∷ 0 ∷ 0 ∷ 1 ∷ 1 ∷ 0 ∷ 4 ∷ 0 ∷ 1 ∷ 0 ∷ 2 ∷ 0 ∷ 1 ∷ 0 ∷ 0 ∷ 2 ∷ 1 ∷ 1 ∷ 4 ∷ 0 ∷ 2 ∷ 0 ∷ 2 ∷ 0 ∷ 1 ∷ 1 ∷ 2 ∷ 1 ∷ 0 ∷ 1 ∷ 4 ∷ 1 ∷ 4 ∷ 1 ∷ 0 ∷ 2 ∷ 4 ∷ 0 ∷ 1 ∷ 0 ∷ 2 ∷ 0 ∷ 1 ∷ 0 ∷ 2 ∷ 0 ∷ 1 ∷ 0 ∷ 1 ∷ 1 ∷ 5 ∷ 2 ∷ 5 ∷ 2 ∷ 0 ∷ 1 ∷ 4 ∷ 1 ∷ 4 ∷ 1 ∷ 1 ∷ 1 ∷ 0 ∷ 2 ∷ 1 ∷ 0 ∷ 4 ∷ 0 ∷ 1 ∷ 0 ∷ 2 ∷ 0 ∷ 1 ∷ 0 ∷ 2 ∷ 0 ∷ 5 ∷ 2 ∷ 5 ∷ 2 ∷ [], (LeadsBack 0, (2, omega arith, refl), refl), (2 ∷ 1 ∷ 1 ∷ 1 ∷ 1 ∷ 0 ∷ 0 ∷ 1 ∷ 1 ∷ 0 ∷ 4 ∷ 0 ∷ 1 ∷ 0 ∷ 2 ∷ 0 ∷ 1 ∷ 0 ∷ 0 ∷ 2 ∷ 1 ∷ 1 ∷ 4 ∷ 0 ∷ 2 ∷ 0 ∷ 2 ∷ 0 ∷ 1 ∷ 1 ∷ 2 ∷ 1 ∷ 0 ∷ 1 ∷ 4 ∷ 1 ∷ 4 ∷ 1 ∷ 0 ∷ 2 ∷ 4 ∷ 0 ∷ 1 ∷ 0 ∷ 2 ∷ 0 ∷ 1 ∷ 0 ∷ 2 ∷ 0 ∷ 1 ∷ 0 ∷ 1 ∷ 1 ∷ 5 ∷ 2 ∷ 5 ∷ 2 ∷ 0 ∷ 1 ∷ 4 ∷ 1 ∷ 4 ∷ 1 ∷ 1 ∷ 1 ∷ 0 ∷ 2 ∷ 1 ∷ 0 ∷ 4 ∷ 0 ∷ 1 ∷ 0 ∷ 2 ∷ 0 ∷ 1 ∷ 0 ∷ 2 ∷ 0 ∷ 5 ∷ 2 ∷ 5 ∷ 2 ∷ [], (LeadsBack 0, (2, omega arith, refl), refl), (1 ∷ 1 ∷ 1 ∷ 0 ∷ 0 ∷ 1 ∷ 1 ∷ 0 ∷ 4 ∷ 0 ∷ 1 ∷ 0 ∷ 2 ∷ 0 ∷ 1 ∷ 0 ∷ 0 ∷ 2 ∷ 1 ∷ 1 ∷ 4 ∷ 0 ∷ 2 ∷ 0 ∷ 2 ∷ 0 ∷ 1 ∷ 1 ∷ 2 ∷ 1 ∷ 0 ∷ 1 ∷ 4 ∷ 1 ∷ 4 ∷ 1 ∷ 0 ∷ 2 ∷ 4 ∷ 0 ∷ 1 ∷ 0 ∷ 2 ∷ 0 ∷ 1 ∷ 0 ∷ 2 ∷ 0 ∷ 1 ∷ 0 ∷ 1 ∷ 1 ∷ 5 ∷ 2 ∷ 5 ∷ 2 ∷ 0 ∷ 1 ∷ 4 ∷ 1 ∷ 4 ∷ 1 ∷ 1 ∷ 1 ∷ 0 ∷ 2 ∷ 1 ∷ 0 ∷ 4 ∷ 0 ∷ 1 ∷ 0 ∷ 2 ∷ 0 ∷ 1 ∷ 0 ∷ 2 ∷ 0 ∷ 5 ∷ 2 ∷ 5 ∷ 2 ∷ [], (LeadsBack 1, (1, omega arith, refl), refl), (1 ∷ 0 ∷ 0 ∷ 1 ∷ 1 ∷ 0 ∷ 4 ∷ 0 ∷ 1 ∷ 0 ∷ 2 ∷ 0 ∷ 1 ∷ 0 ∷ 0 ∷ 2 ∷ 1 ∷ 1 ∷ 4 ∷ 0 ∷ 2 ∷ 0 ∷ 2 ∷ 0 ∷ 1 ∷ 1 ∷ 2 ∷ 1 ∷ 0 ∷ 1 ∷ 4 ∷ 1 ∷ 4 ∷ 1 ∷ 0 ∷ 2 ∷ 4 ∷ 0 ∷ 1 ∷ 0 ∷ 2 ∷ 0 ∷ 1 ∷ 0 ∷ 2 ∷ 0 ∷ 1 ∷ 0 ∷ 1 ∷ 1 ∷ 5 ∷ 2 ∷ 5 ∷ 2 ∷ 0 ∷ 1 ∷ 4 ∷ 1 ∷ 4 ∷ 1 ∷ 1 ∷ 1 ∷ 0 ∷ 2 ∷ 1 ∷ 0 ∷ 4 ∷ 0 ∷ 1 ∷ 0 ∷ 2 ∷ 0 ∷ 1 ∷ 0 ∷ 2 ∷ 0 ∷ 5 ∷ 2 ∷ 5 ∷ 2 ∷ [], (OtherRank 1, record { host = 2; own = Left; berth = record { rank = Right; moor = Ship 1 }; lies = refl; decided = refl; differ = right-left }, refl), refl))))))), (0 ∷ 1 ∷ 1 ∷ 0 ∷ 4 ∷ 0 ∷ 1 ∷ 0 ∷ 2 ∷ 0 ∷ 1 ∷ 0 ∷ 0 ∷ 2 ∷ 1 ∷ 1 ∷ 4 ∷ 0 ∷ 2 ∷ 0 ∷ 2 ∷ 0 ∷ 1 ∷ 1 ∷ 2 ∷ 1 ∷ 0 ∷ 1 ∷ 4 ∷ 1 ∷ 4 ∷ 1 ∷ 0 ∷ 2 ∷ 4 ∷ 0 ∷ 1 ∷ 0 ∷ 2 ∷ 0 ∷ 1 ∷ 0 ∷ 2 ∷ 0 ∷ 1 ∷ 0 ∷ 1 ∷ 1 ∷ 5 ∷ 2 ∷ 5 ∷ 2 ∷ 0 ∷ 1 ∷ 4 ∷ 1 ∷ 4 ∷ 1 ∷ 1 ∷ 1 ∷ 0 ∷ 2 ∷ 1 ∷ 0 ∷ 4 ∷ 0 ∷ 1 ∷ 0 ∷ 2 ∷ 0 ∷ 1 ∷ 0 ∷ 2 ∷ 0 ∷ 5 ∷ 2 ∷ 5 ∷ 2 ∷ [], inl (OtherRank 0, record { host = 1; own = Left; berth = record { rank = Right; moor = Ship 2 }; lies = refl; decided = refl; differ = right-left }, refl), refl))))))), (0 ∷ 1 ∷ 4 ∷ 1 ∷ 4 ∷ 1 ∷ 0 ∷ 2 ∷ 4 ∷ 0 ∷ 1 ∷ 0 ∷ 2 ∷ 0 ∷ 1 ∷ 0 ∷ 2 ∷ 0 ∷ 1 ∷ 0 ∷ 1 ∷ 1 ∷ 5 ∷ 2 ∷ 5 ∷ 2 ∷ 0 ∷ 1 ∷ 4 ∷ 1 ∷ 4 ∷ 1 ∷ 1 ∷ 1 ∷ 0 ∷ 2 ∷ 1 ∷ 0 ∷ 4 ∷ 0 ∷ 1 ∷ 0 ∷ 2 ∷ 0 ∷ 1 ∷ 0 ∷ 2 ∷ 0 ∷ 5 ∷ 2 ∷ 5 ∷ 2 ∷ [], inr (OfBerth 1, (omega arith, refl), 1 ∷ 0 ∷ 4 ∷ 0 ∷ 1 ∷ 0 ∷ 2 ∷ 0 ∷ 1 ∷ 0 ∷ 0 ∷ 2 ∷ 1 ∷ 1 ∷ 4 ∷ 0 ∷ 2 ∷ 0 ∷ 2 ∷ 0 ∷ 1 ∷ 1 ∷ 2 ∷ 1 ∷ 0 ∷ 1 ∷ 4 ∷ 1 ∷ 4 ∷ 1 ∷ 0 ∷ 2 ∷ 4 ∷ 0 ∷ 1 ∷ 0 ∷ 2 ∷ 0 ∷ 1 ∷ 0 ∷ 2 ∷ 0 ∷ 1 ∷ 0 ∷ 1 ∷ 1 ∷ 5 ∷ 2 ∷ 5 ∷ 2 ∷ 0 ∷ 1 ∷ 4 ∷ 1 ∷ 4 ∷ 1 ∷ 1 ∷ 1 ∷ 0 ∷ 2 ∷ 1 ∷ 0 ∷ 4 ∷ 0 ∷ 1 ∷ 0 ∷ 2 ∷ 0 ∷ 1 ∷ 0 ∷ 2 ∷ 0 ∷ 5 ∷ 2 ∷ 5 ∷ 2 ∷ [], refl, (4 ∷ 0 ∷ 1 ∷ 0 ∷ 2 ∷ 0 ∷ 1 ∷ 0 ∷ 0 ∷ 2 ∷ 1 ∷ 1 ∷ 4 ∷ 0 ∷ 2 ∷ 0 ∷ 2 ∷ 0 ∷ 1 ∷ 1 ∷ 2 ∷ 1 ∷ 0 ∷ 1 ∷ 4 ∷ 1 ∷ 4 ∷ 1 ∷ 0 ∷ 2 ∷ 4 ∷ 0 ∷ 1 ∷ 0 ∷ 2 ∷ 0 ∷ 1 ∷ 0 ∷ 2 ∷ 0 ∷ 1 ∷ 0 ∷ 1 ∷ 1 ∷ 5 ∷ 2 ∷ 5 ∷ 2 ∷ 0 ∷ 1 ∷ 4 ∷ 1 ∷ 4 ∷ 1 ∷ 1 ∷ 1 ∷ 0 ∷ 2 ∷ 1 ∷ 0 ∷ 4 ∷ 0 ∷ 1 ∷ 0 ∷ 2 ∷ 0 ∷ 1 ∷ 0 ∷ 2 ∷ 0 ∷ 5 ∷ 2 ∷ 5 ∷ 2 ∷ [], inl (OtherRank 0, record { host = 1; own = Right; berth = record { rank = Left; moor = Quay }; lies = refl; decided = refl; differ = left-right }, refl), (1 ∷ 0 ∷ 2 ∷ 0 ∷ 1 ∷ 0 ∷ 0 ∷ 2 ∷ 1 ∷ 1 ∷ 4 ∷ 0 ∷ 2 ∷ 0 ∷ 2 ∷ 0 ∷ 1 ∷ 1 ∷ 2 ∷ 1 ∷ 0 ∷ 1 ∷ 4 ∷ 1 ∷ 4 ∷ 1 ∷ 0 ∷ 2 ∷ 4 ∷ 0 ∷ 1 ∷ 0 ∷ 2 ∷ 0 ∷ 1 ∷ 0 ∷ 2 ∷ 0 ∷ 1 ∷ 0 ∷ 1 ∷ 1 ∷ 5 ∷ 2 ∷ 5 ∷ 2 ∷ 0 ∷ 1 ∷ 4 ∷ 1 ∷ 4 ∷ 1 ∷ 1 ∷ 1 ∷ 0 ∷ 2 ∷ 1 ∷ 0 ∷ 4 ∷ 0 ∷ 1 ∷ 0 ∷ 2 ∷ 0 ∷ 1 ∷ 0 ∷ 2 ∷ 0 ∷ 5 ∷ 2 ∷ 5 ∷ 2 ∷ [], inl (Outside 0, below_quay one_host (Lies 0 (record { rank = Right; moor = (Ship 1) }) ∷ Lies 1 (record { rank = Right; moor = Quay }) ∷ []) 0 64 refl, refl), (2 ∷ 0 ∷ 1 ∷ 0 ∷ 0 ∷ 2 ∷ 1 ∷ 1 ∷ 4 ∷ 0 ∷ 2 ∷ 0 ∷ 2 ∷ 0 ∷ 1 ∷ 1 ∷ 2 ∷ 1 ∷ 0 ∷ 1 ∷ 4 ∷ 1 ∷ 4 ∷ 1 ∷ 0 ∷ 2 ∷ 4 ∷ 0 ∷ 1 ∷ 0 ∷ 2 ∷ 0 ∷ 1 ∷ 0 ∷ 2 ∷ 0 ∷ 1 ∷ 0 ∷ 1 ∷ 1 ∷ 5 ∷ 2 ∷ 5 ∷ 2 ∷ 0 ∷ 1 ∷ 4 ∷ 1 ∷ 4 ∷ 1 ∷ 1 ∷ 1 ∷ 0 ∷ 2 ∷ 1 ∷ 0 ∷ 4 ∷ 0 ∷ 1 ∷ 0 ∷ 2 ∷ 0 ∷ 1 ∷ 0 ∷ 2 ∷ 0 ∷ 5 ∷ 2 ∷ 5 ∷ 2 ∷ [], inl (OtherRank 0, record { host = 1; own = Right; berth = record { rank = Left; moor = Ship 0 }; lies = refl; decided = refl; differ = left-right }, refl), (1 ∷ 0 ∷ 0 ∷ 2 ∷ 1 ∷ 1 ∷ 4 ∷ 0 ∷ 2 ∷ 0 ∷ 2 ∷ 0 ∷ 1 ∷ 1 ∷ 2 ∷ 1 ∷ 0 ∷ 1 ∷ 4 ∷ 1 ∷ 4 ∷ 1 ∷ 0 ∷ 2 ∷ 4 ∷ 0 ∷ 1 ∷ 0 ∷ 2 ∷ 0 ∷ 1 ∷ 0 ∷ 2 ∷ 0 ∷ 1 ∷ 0 ∷ 1 ∷ 1 ∷ 5 ∷ 2 ∷ 5 ∷ 2 ∷ 0 ∷ 1 ∷ 4 ∷ 1 ∷ 4 ∷ 1 ∷ 1 ∷ 1 ∷ 0 ∷ 2 ∷ 1 ∷ 0 ∷ 4 ∷ 0 ∷ 1 ∷ 0 ∷ 2 ∷ 0 ∷ 1 ∷ 0 ∷ 2 ∷ 0 ∷ 5 ∷ 2 ∷ 5 ∷ 2 ∷ [], inl (LeadsBack 0, (1, omega arith, refl), refl), (0 ∷ 2 ∷ 1 ∷ 1 ∷ 4 ∷ 0 ∷ 2 ∷ 0 ∷ 2 ∷ 0 ∷ 1 ∷ 1 ∷ 2 ∷ 1 ∷ 0 ∷ 1 ∷ 4 ∷ 1 ∷ 4 ∷ 1 ∷ 0 ∷ 2 ∷ 4 ∷ 0 ∷ 1 ∷ 0 ∷ 2 ∷ 0 ∷ 1 ∷ 0 ∷ 2 ∷ 0 ∷ 1 ∷ 0 ∷ 1 ∷ 1 ∷ 5 ∷ 2 ∷ 5 ∷ 2 ∷ 0 ∷ 1 ∷ 4 ∷ 1 ∷ 4 ∷ 1 ∷ 1 ∷ 1 ∷ 0 ∷ 2 ∷ 1 ∷ 0 ∷ 4 ∷ 0 ∷ 1 ∷ 0 ∷ 2 ∷ 0 ∷ 1 ∷ 0 ∷ 2 ∷ 0 ∷ 5 ∷ 2 ∷ 5 ∷ 2 ∷ [], inl (OtherRank 0, record { host = 1; own = Right; berth = record { rank = Left; moor = Ship 2 }; lies = refl; decided = refl; differ = left-right }, refl), (0 ∷ 1 ∷ 4 ∷ 1 ∷ 4 ∷ 1 ∷ 0 ∷ 2 ∷ 4 ∷ 0 ∷ 1 ∷ 0 ∷ 2 ∷ 0 ∷ 1 ∷ 0 ∷ 2 ∷ 0 ∷ 1 ∷ 0 ∷ 1 ∷ 1 ∷ 5 ∷ 2 ∷ 5 ∷ 2 ∷ 0 ∷ 1 ∷ 4 ∷ 1 ∷ 4 ∷ 1 ∷ 1 ∷ 1 ∷ 0 ∷ 2 ∷ 1 ∷ 0 ∷ 4 ∷ 0 ∷ 1 ∷ 0 ∷ 2 ∷ 0 ∷ 1 ∷ 0 ∷ 2 ∷ 0 ∷ 5 ∷ 2 ∷ 5 ∷ 2 ∷ [], inr (OfBerth 2, (omega arith, refl), 1 ∷ 1 ∷ 4 ∷ 0 ∷ 2 ∷ 0 ∷ 2 ∷ 0 ∷ 1 ∷ 1 ∷ 2 ∷ 1 ∷ 0 ∷ 1 ∷ 4 ∷ 1 ∷ 4 ∷ 1 ∷ 0 ∷ 2 ∷ 4 ∷ 0 ∷ 1 ∷ 0 ∷ 2 ∷ 0 ∷ 1 ∷ 0 ∷ 2 ∷ 0 ∷ 1 ∷ 0 ∷ 1 ∷ 1 ∷ 5 ∷ 2 ∷ 5 ∷ 2 ∷ 0 ∷ 1 ∷ 4 ∷ 1 ∷ 4 ∷ 1 ∷ 1 ∷ 1 ∷ 0 ∷ 2 ∷ 1 ∷ 0 ∷ 4 ∷ 0 ∷ 1 ∷ 0 ∷ 2 ∷ 0 ∷ 1 ∷ 0 ∷ 2 ∷ 0 ∷ 5 ∷ 2 ∷ 5 ∷ 2 ∷ [], refl, (4 ∷ 0 ∷ 2 ∷ 0 ∷ 2 ∷ 0 ∷ 1 ∷ 1 ∷ 2 ∷ 1 ∷ 0 ∷ 1 ∷ 4 ∷ 1 ∷ 4 ∷ 1 ∷ 0 ∷ 2 ∷ 4 ∷ 0 ∷ 1 ∷ 0 ∷ 2 ∷ 0 ∷ 1 ∷ 0 ∷ 2 ∷ 0 ∷ 1 ∷ 0 ∷ 1 ∷ 1 ∷ 5 ∷ 2 ∷ 5 ∷ 2 ∷ 0 ∷ 1 ∷ 4 ∷ 1 ∷ 4 ∷ 1 ∷ 1 ∷ 1 ∷ 0 ∷ 2 ∷ 1 ∷ 0 ∷ 4 ∷ 0 ∷ 1 ∷ 0 ∷ 2 ∷ 0 ∷ 1 ∷ 0 ∷ 2 ∷ 0 ∷ 5 ∷ 2 ∷ 5 ∷ 2 ∷ [], (OtherRank 1, record { host = 2; own = Right; berth = record { rank = Left; moor = Quay }; lies = refl; decided = refl; differ = left-right }, refl), (2 ∷ 0 ∷ 2 ∷ 0 ∷ 1 ∷ 1 ∷ 2 ∷ 1 ∷ 0 ∷ 1 ∷ 4 ∷ 1 ∷ 4 ∷ 1 ∷ 0 ∷ 2 ∷ 4 ∷ 0 ∷ 1 ∷ 0 ∷ 2 ∷ 0 ∷ 1 ∷ 0 ∷ 2 ∷ 0 ∷ 1 ∷ 0 ∷ 1 ∷ 1 ∷ 5 ∷ 2 ∷ 5 ∷ 2 ∷ 0 ∷ 1 ∷ 4 ∷ 1 ∷ 4 ∷ 1 ∷ 1 ∷ 1 ∷ 0 ∷ 2 ∷ 1 ∷ 0 ∷ 4 ∷ 0 ∷ 1 ∷ 0 ∷ 2 ∷ 0 ∷ 1 ∷ 0 ∷ 2 ∷ 0 ∷ 5 ∷ 2 ∷ 5 ∷ 2 ∷ [], (Outside 0, below_quay one_host (Lies 0 (record { rank = Right; moor = (Ship 1) }) ∷ Lies 1 (record { rank = Right; moor = (Ship 2) }) ∷ Lies 2 (record { rank = Right; moor = Quay }) ∷ []) 0 99 refl, refl), (2 ∷ 0 ∷ 1 ∷ 1 ∷ 2 ∷ 1 ∷ 0 ∷ 1 ∷ 4 ∷ 1 ∷ 4 ∷ 1 ∷ 0 ∷ 2 ∷ 4 ∷ 0 ∷ 1 ∷ 0 ∷ 2 ∷ 0 ∷ 1 ∷ 0 ∷ 2 ∷ 0 ∷ 1 ∷ 0 ∷ 1 ∷ 1 ∷ 5 ∷ 2 ∷ 5 ∷ 2 ∷ 0 ∷ 1 ∷ 4 ∷ 1 ∷ 4 ∷ 1 ∷ 1 ∷ 1 ∷ 0 ∷ 2 ∷ 1 ∷ 0 ∷ 4 ∷ 0 ∷ 1 ∷ 0 ∷ 2 ∷ 0 ∷ 1 ∷ 0 ∷ 2 ∷ 0 ∷ 5 ∷ 2 ∷ 5 ∷ 2 ∷ [], (LeadsBack 0, (2, omega arith, refl), refl), (1 ∷ 1 ∷ 2 ∷ 1 ∷ 0 ∷ 1 ∷ 4 ∷ 1 ∷ 4 ∷ 1 ∷ 0 ∷ 2 ∷ 4 ∷ 0 ∷ 1 ∷ 0 ∷ 2 ∷ 0 ∷ 1 ∷ 0 ∷ 2 ∷ 0 ∷ 1 ∷ 0 ∷ 1 ∷ 1 ∷ 5 ∷ 2 ∷ 5 ∷ 2 ∷ 0 ∷ 1 ∷ 4 ∷ 1 ∷ 4 ∷ 1 ∷ 1 ∷ 1 ∷ 0 ∷ 2 ∷ 1 ∷ 0 ∷ 4 ∷ 0 ∷ 1 ∷ 0 ∷ 2 ∷ 0 ∷ 1 ∷ 0 ∷ 2 ∷ 0 ∷ 5 ∷ 2 ∷ 5 ∷ 2 ∷ [], (LeadsBack 0, (2, omega arith, refl), refl), (2 ∷ 1 ∷ 0 ∷ 1 ∷ 4 ∷ 1 ∷ 4 ∷ 1 ∷ 0 ∷ 2 ∷ 4 ∷ 0 ∷ 1 ∷ 0 ∷ 2 ∷ 0 ∷ 1 ∷ 0 ∷ 2 ∷ 0 ∷ 1 ∷ 0 ∷ 1 ∷ 1 ∷ 5 ∷ 2 ∷ 5 ∷ 2 ∷ 0 ∷ 1 ∷ 4 ∷ 1 ∷ 4 ∷ 1 ∷ 1 ∷ 1 ∷ 0 ∷ 2 ∷ 1 ∷ 0 ∷ 4 ∷ 0 ∷ 1 ∷ 0 ∷ 2 ∷ 0 ∷ 1 ∷ 0 ∷ 2 ∷ 0 ∷ 5 ∷ 2 ∷ 5 ∷ 2 ∷ [], (OtherRank 1, record { host = 2; own = Right; berth = record { rank = Left; moor = Ship 1 }; lies = refl; decided = refl; differ = left-right }, refl), (0 ∷ 1 ∷ 4 ∷ 1 ∷ 4 ∷ 1 ∷ 0 ∷ 2 ∷ 4 ∷ 0 ∷ 1 ∷ 0 ∷ 2 ∷ 0 ∷ 1 ∷ 0 ∷ 2 ∷ 0 ∷ 1 ∷ 0 ∷ 1 ∷ 1 ∷ 5 ∷ 2 ∷ 5 ∷ 2 ∷ 0 ∷ 1 ∷ 4 ∷ 1 ∷ 4 ∷ 1 ∷ 1 ∷ 1 ∷ 0 ∷ 2 ∷ 1 ∷ 0 ∷ 4 ∷ 0 ∷ 1 ∷ 0 ∷ 2 ∷ 0 ∷ 1 ∷ 0 ∷ 2 ∷ 0 ∷ 5 ∷ 2 ∷ 5 ∷ 2 ∷ [], (LeadsBack 1, (1, omega arith, refl), refl), refl))))))), refl))))))), (0 ∷ 1 ∷ 4 ∷ 1 ∷ 4 ∷ 1 ∷ 1 ∷ 1 ∷ 0 ∷ 2 ∷ 1 ∷ 0 ∷ 4 ∷ 0 ∷ 1 ∷ 0 ∷ 2 ∷ 0 ∷ 1 ∷ 0 ∷ 2 ∷ 0 ∷ 5 ∷ 2 ∷ 5 ∷ 2 ∷ [], inr (OfBerth 1, (omega arith, refl), 4 ∷ 1 ∷ 4 ∷ 1 ∷ 0 ∷ 2 ∷ 4 ∷ 0 ∷ 1 ∷ 0 ∷ 2 ∷ 0 ∷ 1 ∷ 0 ∷ 2 ∷ 0 ∷ 1 ∷ 0 ∷ 1 ∷ 1 ∷ 5 ∷ 2 ∷ 5 ∷ 2 ∷ 0 ∷ 1 ∷ 4 ∷ 1 ∷ 4 ∷ 1 ∷ 1 ∷ 1 ∷ 0 ∷ 2 ∷ 1 ∷ 0 ∷ 4 ∷ 0 ∷ 1 ∷ 0 ∷ 2 ∷ 0 ∷ 1 ∷ 0 ∷ 2 ∷ 0 ∷ 5 ∷ 2 ∷ 5 ∷ 2 ∷ [], refl, (4 ∷ 1 ∷ 0 ∷ 2 ∷ 4 ∷ 0 ∷ 1 ∷ 0 ∷ 2 ∷ 0 ∷ 1 ∷ 0 ∷ 2 ∷ 0 ∷ 1 ∷ 0 ∷ 1 ∷ 1 ∷ 5 ∷ 2 ∷ 5 ∷ 2 ∷ 0 ∷ 1 ∷ 4 ∷ 1 ∷ 4 ∷ 1 ∷ 1 ∷ 1 ∷ 0 ∷ 2 ∷ 1 ∷ 0 ∷ 4 ∷ 0 ∷ 1 ∷ 0 ∷ 2 ∷ 0 ∷ 1 ∷ 0 ∷ 2 ∷ 0 ∷ 5 ∷ 2 ∷ 5 ∷ 2 ∷ [], inl (Outside 1, past_quay one_host (Lies 0 (record { rank = Left; moor = (Ship 2) }) ∷ Lies 1 (record { rank = Left; moor = Quay }) ∷ []) 1 0 refl (omega arith), refl), (0 ∷ 2 ∷ 4 ∷ 0 ∷ 1 ∷ 0 ∷ 2 ∷ 0 ∷ 1 ∷ 0 ∷ 2 ∷ 0 ∷ 1 ∷ 0 ∷ 1 ∷ 1 ∷ 5 ∷ 2 ∷ 5 ∷ 2 ∷ 0 ∷ 1 ∷ 4 ∷ 1 ∷ 4 ∷ 1 ∷ 1 ∷ 1 ∷ 0 ∷ 2 ∷ 1 ∷ 0 ∷ 4 ∷ 0 ∷ 1 ∷ 0 ∷ 2 ∷ 0 ∷ 1 ∷ 0 ∷ 2 ∷ 0 ∷ 5 ∷ 2 ∷ 5 ∷ 2 ∷ [], inl (Outside 1, below_quay one_host (Lies 0 (record { rank = Left; moor = (Ship 2) }) ∷ Lies 1 (record { rank = Right; moor = Quay }) ∷ []) 1 9 refl, refl), (1 ∷ 1 ∷ 5 ∷ 2 ∷ 5 ∷ 2 ∷ 0 ∷ 1 ∷ 4 ∷ 1 ∷ 4 ∷ 1 ∷ 1 ∷ 1 ∷ 0 ∷ 2 ∷ 1 ∷ 0 ∷ 4 ∷ 0 ∷ 1 ∷ 0 ∷ 2 ∷ 0 ∷ 1 ∷ 0 ∷ 2 ∷ 0 ∷ 5 ∷ 2 ∷ 5 ∷ 2 ∷ [], inr (OfBerth 2, (omega arith, refl), 4 ∷ 0 ∷ 1 ∷ 0 ∷ 2 ∷ 0 ∷ 1 ∷ 0 ∷ 2 ∷ 0 ∷ 1 ∷ 0 ∷ 1 ∷ 1 ∷ 5 ∷ 2 ∷ 5 ∷ 2 ∷ 0 ∷ 1 ∷ 4 ∷ 1 ∷ 4 ∷ 1 ∷ 1 ∷ 1 ∷ 0 ∷ 2 ∷ 1 ∷ 0 ∷ 4 ∷ 0 ∷ 1 ∷ 0 ∷ 2 ∷ 0 ∷ 1 ∷ 0 ∷ 2 ∷ 0 ∷ 5 ∷ 2 ∷ 5 ∷ 2 ∷ [], refl, (1 ∷ 0 ∷ 2 ∷ 0 ∷ 1 ∷ 0 ∷ 2 ∷ 0 ∷ 1 ∷ 0 ∷ 1 ∷ 1 ∷ 5 ∷ 2 ∷ 5 ∷ 2 ∷ 0 ∷ 1 ∷ 4 ∷ 1 ∷ 4 ∷ 1 ∷ 1 ∷ 1 ∷ 0 ∷ 2 ∷ 1 ∷ 0 ∷ 4 ∷ 0 ∷ 1 ∷ 0 ∷ 2 ∷ 0 ∷ 1 ∷ 0 ∷ 2 ∷ 0 ∷ 5 ∷ 2 ∷ 5 ∷ 2 ∷ [], (Outside 0, past_quay one_host (Lies 0 (record { rank = Left; moor = (Ship 2) }) ∷ Lies 1 (record { rank = Left; moor = (Ship 0) }) ∷ Lies 2 (record { rank = Left; moor = Quay }) ∷ []) 0 35 refl (omega arith), refl), (2 ∷ 0 ∷ 1 ∷ 0 ∷ 2 ∷ 0 ∷ 1 ∷ 0 ∷ 1 ∷ 1 ∷ 5 ∷ 2 ∷ 5 ∷ 2 ∷ 0 ∷ 1 ∷ 4 ∷ 1 ∷ 4 ∷ 1 ∷ 1 ∷ 1 ∷ 0 ∷ 2 ∷ 1 ∷ 0 ∷ 4 ∷ 0 ∷ 1 ∷ 0 ∷ 2 ∷ 0 ∷ 1 ∷ 0 ∷ 2 ∷ 0 ∷ 5 ∷ 2 ∷ 5 ∷ 2 ∷ [], (OtherRank 0, record { host = 2; own = Left; berth = record { rank = Right; moor = Quay }; lies = refl; decided = refl; differ = right-left }, refl), (1 ∷ 0 ∷ 2 ∷ 0 ∷ 1 ∷ 0 ∷ 1 ∷ 1 ∷ 5 ∷ 2 ∷ 5 ∷ 2 ∷ 0 ∷ 1 ∷ 4 ∷ 1 ∷ 4 ∷ 1 ∷ 1 ∷ 1 ∷ 0 ∷ 2 ∷ 1 ∷ 0 ∷ 4 ∷ 0 ∷ 1 ∷ 0 ∷ 2 ∷ 0 ∷ 1 ∷ 0 ∷ 2 ∷ 0 ∷ 5 ∷ 2 ∷ 5 ∷ 2 ∷ [], (LeadsBack 0, (1, omega arith, refl), refl), (2 ∷ 0 ∷ 1 ∷ 0 ∷ 1 ∷ 1 ∷ 5 ∷ 2 ∷ 5 ∷ 2 ∷ 0 ∷ 1 ∷ 4 ∷ 1 ∷ 4 ∷ 1 ∷ 1 ∷ 1 ∷ 0 ∷ 2 ∷ 1 ∷ 0 ∷ 4 ∷ 0 ∷ 1 ∷ 0 ∷ 2 ∷ 0 ∷ 1 ∷ 0 ∷ 2 ∷ 0 ∷ 5 ∷ 2 ∷ 5 ∷ 2 ∷ [], (OtherRank 0, record { host = 2; own = Left; berth = record { rank = Right; moor = Ship 0 }; lies = refl; decided = refl; differ = right-left }, refl), (1 ∷ 0 ∷ 1 ∷ 1 ∷ 5 ∷ 2 ∷ 5 ∷ 2 ∷ 0 ∷ 1 ∷ 4 ∷ 1 ∷ 4 ∷ 1 ∷ 1 ∷ 1 ∷ 0 ∷ 2 ∷ 1 ∷ 0 ∷ 4 ∷ 0 ∷ 1 ∷ 0 ∷ 2 ∷ 0 ∷ 1 ∷ 0 ∷ 2 ∷ 0 ∷ 5 ∷ 2 ∷ 5 ∷ 2 ∷ [], (LeadsBack 0, (2, omega arith, refl), refl), (1 ∷ 1 ∷ 5 ∷ 2 ∷ 5 ∷ 2 ∷ 0 ∷ 1 ∷ 4 ∷ 1 ∷ 4 ∷ 1 ∷ 1 ∷ 1 ∷ 0 ∷ 2 ∷ 1 ∷ 0 ∷ 4 ∷ 0 ∷ 1 ∷ 0 ∷ 2 ∷ 0 ∷ 1 ∷ 0 ∷ 2 ∷ 0 ∷ 5 ∷ 2 ∷ 5 ∷ 2 ∷ [], (OtherRank 0, record { host = 2; own = Left; berth = record { rank = Right; moor = Ship 1 }; lies = refl; decided = refl; differ = right-left }, refl), refl))))))), (5 ∷ 2 ∷ 5 ∷ 2 ∷ 0 ∷ 1 ∷ 4 ∷ 1 ∷ 4 ∷ 1 ∷ 1 ∷ 1 ∷ 0 ∷ 2 ∷ 1 ∷ 0 ∷ 4 ∷ 0 ∷ 1 ∷ 0 ∷ 2 ∷ 0 ∷ 1 ∷ 0 ∷ 2 ∷ 0 ∷ 5 ∷ 2 ∷ 5 ∷ 2 ∷ [], inl (OtherRank 1, record { host = 0; own = Right; berth = record { rank = Left; moor = Ship 2 }; lies = refl; decided = refl; differ = left-right }, refl), (5 ∷ 2 ∷ 0 ∷ 1 ∷ 4 ∷ 1 ∷ 4 ∷ 1 ∷ 1 ∷ 1 ∷ 0 ∷ 2 ∷ 1 ∷ 0 ∷ 4 ∷ 0 ∷ 1 ∷ 0 ∷ 2 ∷ 0 ∷ 1 ∷ 0 ∷ 2 ∷ 0 ∷ 5 ∷ 2 ∷ 5 ∷ 2 ∷ [], inl (Guests 2, record { known = omega arith; long = omega arith }, refl), (0 ∷ 1 ∷ 4 ∷ 1 ∷ 4 ∷ 1 ∷ 1 ∷ 1 ∷ 0 ∷ 2 ∷ 1 ∷ 0 ∷ 4 ∷ 0 ∷ 1 ∷ 0 ∷ 2 ∷ 0 ∷ 1 ∷ 0 ∷ 2 ∷ 0 ∷ 5 ∷ 2 ∷ 5 ∷ 2 ∷ [], inl (Guests 2, record { known = omega arith; long = omega arith }, refl), refl))))))), ([], inr (OfBerth 1, (omega arith, refl), 4 ∷ 1 ∷ 4 ∷ 1 ∷ 1 ∷ 1 ∷ 0 ∷ 2 ∷ 1 ∷ 0 ∷ 4 ∷ 0 ∷ 1 ∷ 0 ∷ 2 ∷ 0 ∷ 1 ∷ 0 ∷ 2 ∷ 0 ∷ 5 ∷ 2 ∷ 5 ∷ 2 ∷ [], refl, (4 ∷ 1 ∷ 1 ∷ 1 ∷ 0 ∷ 2 ∷ 1 ∷ 0 ∷ 4 ∷ 0 ∷ 1 ∷ 0 ∷ 2 ∷ 0 ∷ 1 ∷ 0 ∷ 2 ∷ 0 ∷ 5 ∷ 2 ∷ 5 ∷ 2 ∷ [], inl (Outside 1, past_quay one_host (Lies 0 (record { rank = Right; moor = (Ship 2) }) ∷ Lies 1 (record { rank = Left; moor = Quay }) ∷ []) 1 0 refl (omega arith), refl), (1 ∷ 1 ∷ 0 ∷ 2 ∷ 1 ∷ 0 ∷ 4 ∷ 0 ∷ 1 ∷ 0 ∷ 2 ∷ 0 ∷ 1 ∷ 0 ∷ 2 ∷ 0 ∷ 5 ∷ 2 ∷ 5 ∷ 2 ∷ [], inl (Outside 1, below_quay one_host (Lies 0 (record { rank = Right; moor = (Ship 2) }) ∷ Lies 1 (record { rank = Right; moor = Quay }) ∷ []) 1 9 refl, refl), (0 ∷ 2 ∷ 1 ∷ 0 ∷ 4 ∷ 0 ∷ 1 ∷ 0 ∷ 2 ∷ 0 ∷ 1 ∷ 0 ∷ 2 ∷ 0 ∷ 5 ∷ 2 ∷ 5 ∷ 2 ∷ [], inl (OtherRank 1, record { host = 0; own = Left; berth = record { rank = Right; moor = Ship 2 }; lies = refl; decided = refl; differ = right-left }, refl), (5 ∷ 2 ∷ 5 ∷ 2 ∷ [], inr (OfBerth 2, (omega arith, refl), 1 ∷ 0 ∷ 4 ∷ 0 ∷ 1 ∷ 0 ∷ 2 ∷ 0 ∷ 1 ∷ 0 ∷ 2 ∷ 0 ∷ 5 ∷ 2 ∷ 5 ∷ 2 ∷ [], refl, (4 ∷ 0 ∷ 1 ∷ 0 ∷ 2 ∷ 0 ∷ 1 ∷ 0 ∷ 2 ∷ 0 ∷ 5 ∷ 2 ∷ 5 ∷ 2 ∷ [], (OtherRank 0, record { host = 2; own = Right; berth = record { rank = Left; moor = Quay }; lies = refl; decided = refl; differ = left-right }, refl), (1 ∷ 0 ∷ 2 ∷ 0 ∷ 1 ∷ 0 ∷ 2 ∷ 0 ∷ 5 ∷ 2 ∷ 5 ∷ 2 ∷ [], (Outside 0, below_quay one_host (Lies 0 (record { rank = Right; moor = (Ship 2) }) ∷ Lies 1 (record { rank = Right; moor = (Ship 0) }) ∷ Lies 2 (record { rank = Right; moor = Quay }) ∷ []) 0 44 refl, refl), (2 ∷ 0 ∷ 1 ∷ 0 ∷ 2 ∷ 0 ∷ 5 ∷ 2 ∷ 5 ∷ 2 ∷ [], (OtherRank 0, record { host = 2; own = Right; berth = record { rank = Left; moor = Ship 0 }; lies = refl; decided = refl; differ = left-right }, refl), (1 ∷ 0 ∷ 2 ∷ 0 ∷ 5 ∷ 2 ∷ 5 ∷ 2 ∷ [], (LeadsBack 0, (1, omega arith, refl), refl), (2 ∷ 0 ∷ 5 ∷ 2 ∷ 5 ∷ 2 ∷ [], (OtherRank 0, record { host = 2; own = Right; berth = record { rank = Left; moor = Ship 1 }; lies = refl; decided = refl; differ = left-right }, refl), (5 ∷ 2 ∷ 5 ∷ 2 ∷ [], (LeadsBack 0, (2, omega arith, refl), refl), refl))))))), (5 ∷ 2 ∷ [], inl (Guests 2, record { known = omega arith; long = omega arith }, refl), ([], inl (Guests 2, record { known = omega arith; long = omega arith }, refl), refl))))))), refl))))))))

-- one decimetre wider: the ships lie side by side, so the deck has no berth tree at all
abbrev side_by_side : List Spot
side_by_side = record { x = 10; y = 0; rank = Left; moor = Quay } ∷ record { x = 10; y = 119; rank = Right; moor = Quay } ∷ []

lie_there : IsLegalPlacement wider side_by_side
lie_there = record { count = refl; inside = inside; apart = λ i h. record { later = apart i h }; berthed = berthed }
  where
    inside : (i : ℕ) → i < 2 → IsInside wider (size_at wider i) (spot_at side_by_side i)
    inside zero h = (omega arith, omega arith, omega arith)
    inside (suc zero) h = (omega arith, omega arith, omega arith)
    inside (suc (suc i)) h = absurd (omega (arith, h))

    apart : (i : ℕ) → i < 2 → (j : ℕ) → i < j → j < 2 → AreApart wider (size_at wider i) (spot_at side_by_side i) (size_at wider j) (spot_at side_by_side j)
    apart i h zero less known = absurd (omega (arith, less))
    apart zero h (suc zero) less known = let below : 0 + 114 + 5 ≤ 119 = omega arith in inr (inr (inl below))
    apart (suc i) h (suc zero) less known = absurd (omega (arith, less))
    apart i h (suc (suc j)) less known = absurd (omega (arith, known))

    berthed : (i : ℕ) → i < 2 → IsBerthed wider side_by_side i
    berthed zero h = refl
    berthed (suc zero) h = refl
    berthed (suc (suc i)) h = absurd (omega (arith, h))

row-no_tree : (marks : List ℕ) → IsDeck wider → IsBerthTree wider marks → ⊥
row-no_tree marks good tree = no_berth_tree wider marks good tree side_by_side lie_there
