-- Rows and columns of a deck are jams of its lanes.
use Rattle.std.proofs.Common.{◌≡◌, ℕ, ◌+◌, ◌*◌, ◌<◌, List, [], ◌∷◌, length, AllPairs, refl, sym, ap, ◌∙◌, subst, arith, sum_by, get_or}
use Rattle.std.proofs.lemmas.List.{length-map, get_or-map}
use Rattle.std.proofs.lemmas.List.Elements.{All-from_recursion, recursion_from_All}
use Rattle.std.proofs.lemmas.List.Kept.{AllPairs-cons}
use Rattle.std.specs.List.{AllByRecursion}
use Rattle.lock_model.specs.Deck.{Deck, no_size}
use Rattle.lock_model.specs.declared.deck.Size.{Size}
use Rattle.lock_rules.proofs.SplitLemmas.{RisesFrom-increasing}
use Rattle.lock_rules.proofs.NodeLemmas.{increasing-RisesFrom}
use Rattle.refute_rules.specs.Reasons.{length_at, width_at, IsRow, IsColumn, AreSome}
use Rattle.refute_rules.proofs.Packing.{Each, total}
use Rattle.refute_rules.proofs.ReasonLemmas.{each-from_pairs, total-sum}
use Rattle.ship_shapes.specs.declared.lane.Need.{Need}
use Rattle.ship_shapes.specs.Lanes.{Passage, row_lane, column_lane, need_at, along_at, AreCrowded, AreAllCrowded, along_of, IsJam}

-- a deck and one of its lanes, where each ship has its own measures across and along
module _ (d : Deck) (lane : Passage) (count : length lane.needs ≡ length d.ships) (R : ℕ → ℕ → Type 0) (m : ℕ → ℕ)
    (crowds : (i j : ℕ) → i < length d.ships → j < length d.ships → R i j → AreCrowded lane i j)
    (crowded : (i j : ℕ) → i < length d.ships → j < length d.ships → AreCrowded lane i j → R i j)
    (along : (i : ℕ) → i < length d.ships → along_at lane i ≡ m i) where
  abbrev IsShip : ℕ → Type 0
  IsShip i = i < length d.ships

  each-crowded : (S : List ℕ) → AllByRecursion IsShip S → Each R S → AreAllCrowded lane S
  each-crowded [] known h = tt
  each-crowded (i ∷ S) known h = (all S known.1 h.0, each-crowded S known.1 h.1)
    where
      all : (T : List ℕ) → AllByRecursion IsShip T → AllByRecursion (R i) T → AllByRecursion (AreCrowded lane i) T
      all [] k h = tt
      all (j ∷ T) k h = (crowds i j known.0 k.0 h.0, all T k.1 h.1)

  pairs-crowded : (S : List ℕ) → AllByRecursion IsShip S → AreAllCrowded lane S → AllPairs R S
  pairs-crowded [] known h = λ i j u less here. absurd (omega arith)
  pairs-crowded (i ∷ S) known h = AllPairs-cons R i S (All-from_recursion (R i) S (all S known.1 h.0)) (pairs-crowded S known.1 h.1)
    where
      all : (T : List ℕ) → AllByRecursion IsShip T → AllByRecursion (AreCrowded lane i) T → AllByRecursion (R i) T
      all [] k h = tt
      all (j ∷ T) k h = (crowded i j known.0 k.0 h.0, all T k.1 h.1)

  same-along : (S : List ℕ) → AllByRecursion IsShip S → along_of lane S ≡ total m S
  same-along [] known = refl
  same-along (i ∷ S) known = omega (arith, along i known.0, same-along S known.1)

  pub sum-along : (S : List ℕ) → AllByRecursion IsShip S → along_of lane S ≡ sum_by m S
  sum-along S known = same-along S known ∙ sym (total-sum m S)

  counted : (S : List ℕ) → AllByRecursion IsShip S → AllByRecursion (λ i. i < length lane.needs) S
  counted S known = subst (λ n. AllByRecursion (λ i. i < n) S) (sym count) known

  pub jam-from : (S : List ℕ) → AreSome d S → AllPairs R S → lane.reach < sum_by m S + lane.spare → IsJam lane S
  jam-from S ships pairs long =
      let known = recursion_from_All IsShip S ships.known in
      record {
        some = ships.some;
        rising = RisesFrom-increasing S ships.rising;
        known = counted S known;
        crowded = each-crowded S known (each-from_pairs R S pairs);
        long = omega (arith, long, sum-along S known);
      }

  pub known-of : (S : List ℕ) → IsJam lane S → AllByRecursion IsShip S
  known-of S jam = subst (λ n. AllByRecursion (λ i. i < n) S) count jam.known

  pub some-of : (S : List ℕ) → IsJam lane S → AreSome d S
  some-of S jam = record { some = jam.some; rising = increasing-RisesFrom 0 S jam.rising; known = All-from_recursion IsShip S (known-of S jam) }

  pub pairs-of : (S : List ℕ) → IsJam lane S → AllPairs R S
  pairs-of S jam = pairs-crowded S (known-of S jam) jam.crowded

  pub long-of : (S : List ℕ) → IsJam lane S → lane.reach < sum_by m S + lane.spare
  long-of S jam = omega (arith, jam.long, sum-along S (known-of S jam))

module _ (d : Deck) where
  abbrev pub row_need : Size → Need
  row_need s = record { across = s.width; along = s.length + d.gap }

  abbrev pub column_need : Size → Need
  column_need s = record { across = s.length; along = s.width + d.side }

  row-at : (i : ℕ) → i < length d.ships → need_at (row_lane d) i ≡ row_need (get_or d.ships i no_size)
  row-at i known = get_or-map row_need d.ships i no_size (record { across = 0; along = 0 }) known

  column-at : (i : ℕ) → i < length d.ships → need_at (column_lane d) i ≡ column_need (get_or d.ships i no_size)
  column-at i known = get_or-map column_need d.ships i no_size (record { across = 0; along = 0 }) known

  abbrev AreWide : ℕ → ℕ → Type 0
  AreWide i j = d.width < width_at d i + d.side + width_at d j

  abbrev AreLong : ℕ → ℕ → Type 0
  AreLong i j = d.length < length_at d i + d.gap + length_at d j + 2 * d.end

  row-crowds : (i j : ℕ) → i < length d.ships → j < length d.ships → AreWide i j → AreCrowded (row_lane d) i j
  row-crowds i j ki kj h = record { wide = let a = ap (λ (n : Need). n.across) (row-at i ki) in let b = ap (λ (n : Need). n.across) (row-at j kj) in omega (arith, a, b, h) }

  row-crowded : (i j : ℕ) → i < length d.ships → j < length d.ships → AreCrowded (row_lane d) i j → AreWide i j
  row-crowded i j ki kj h = let w = h.wide in let a = ap (λ (n : Need). n.across) (row-at i ki) in let b = ap (λ (n : Need). n.across) (row-at j kj) in omega (arith, a, b, w)

  row-along : (i : ℕ) → i < length d.ships → along_at (row_lane d) i ≡ length_at d i + d.gap
  row-along i known = ap (λ (n : Need). n.along) (row-at i known)

  column-crowds : (i j : ℕ) → i < length d.ships → j < length d.ships → AreLong i j → AreCrowded (column_lane d) i j
  column-crowds i j ki kj h = record { wide = let a = ap (λ (n : Need). n.across) (column-at i ki) in let b = ap (λ (n : Need). n.across) (column-at j kj) in omega (arith, a, b, h) }

  column-crowded : (i j : ℕ) → i < length d.ships → j < length d.ships → AreCrowded (column_lane d) i j → AreLong i j
  column-crowded i j ki kj h = let w = h.wide in let a = ap (λ (n : Need). n.across) (column-at i ki) in let b = ap (λ (n : Need). n.across) (column-at j kj) in omega (arith, a, b, w)

  column-along : (i : ℕ) → i < length d.ships → along_at (column_lane d) i ≡ width_at d i + d.side
  column-along i known = ap (λ (n : Need). n.along) (column-at i known)

  abbrev row_count : length (row_lane d).needs ≡ length d.ships
  row_count = length-map d.ships row_need

  abbrev column_count : length (column_lane d).needs ≡ length d.ships
  column_count = length-map d.ships column_need

  pub row_jam : (S : List ℕ) → IsRow d S → IsJam (row_lane d) S
  row_jam S row = jam-from d (row_lane d) row_count AreWide (λ i. length_at d i + d.gap) row-crowds row-crowded row-along S row.ships row.wide row.long

  pub jam_row : (S : List ℕ) → IsJam (row_lane d) S → IsRow d S
  jam_row S jam = record {
    ships = some-of d (row_lane d) row_count AreWide (λ i. length_at d i + d.gap) row-crowds row-crowded row-along S jam;
    wide = pairs-of d (row_lane d) row_count AreWide (λ i. length_at d i + d.gap) row-crowds row-crowded row-along S jam;
    long = long-of d (row_lane d) row_count AreWide (λ i. length_at d i + d.gap) row-crowds row-crowded row-along S jam;
  }

  pub column_jam : (S : List ℕ) → IsColumn d S → IsJam (column_lane d) S
  column_jam S column = jam-from d (column_lane d) column_count AreLong (λ i. width_at d i + d.side) column-crowds column-crowded column-along S column.ships column.long (let wide = column.wide in omega (arith, wide))

  pub jam_column : (S : List ℕ) → IsJam (column_lane d) S → IsColumn d S
  jam_column S jam = record {
    ships = some-of d (column_lane d) column_count AreLong (λ i. width_at d i + d.side) column-crowds column-crowded column-along S jam;
    long = pairs-of d (column_lane d) column_count AreLong (λ i. width_at d i + d.side) column-crowds column-crowded column-along S jam;
    wide = let long = long-of d (column_lane d) column_count AreLong (λ i. width_at d i + d.side) column-crowds column-crowded column-along S jam in omega (arith, long);
  }
