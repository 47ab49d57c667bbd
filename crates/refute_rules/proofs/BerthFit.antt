-- A berth case with all berths, whose places obey it and in which all that overlap are apart along, gives a legal placement.
use Rattle.std.proofs.Common.{◌≡◌, ◌≢◌, ℕ, zero, suc, ◌+◌, ◌<◌, ◌≤◌, ℤ, pos, List, length, ◌⊎◌, inl, inr, refl, sym, ap, ◌∙◌, arith, Some, None, option_map}
use Rattle.std.proofs.lemmas.Option.{none-some, same_Some}
use Rattle.std.specs.declared.option.Option.{Option}
use Rattle.std.proofs.lemmas.Int.{ints}
use Rattle.std.proofs.lemmas.Bool.Decides.{leb_tells}
use Rattle.lock_model.specs.Deck.{Deck, size_at}
use Rattle.lock_model.specs.Placement.{IsLegalPlacement, IsInside, IsMoored, IsAtQuay, IsAtSide, AreApart, spot_at}
use Rattle.lock_model.specs.declared.placement.Spot.{Spot}
use Rattle.lock_model.specs.declared.placement.Rank.{Rank}
use Rattle.lock_model.specs.declared.placement.Rank.TheVariants.{Left, Right}
use Rattle.lock_model.specs.declared.placement.Moor.{Moor}
use Rattle.lock_model.specs.declared.placement.Moor.TheVariants.{Quay, Ship}
use Rattle.refute_rules.specs.Reasons.{length_at, width_at}
use Rattle.refute_rules.specs.declared.choices.Berth.{Berth}
use Rattle.refute_rules.specs.declared.choices.Choice.{Choice}
use Rattle.refute_rules.specs.Decided.{berth_in, HasOtherRank}
use Rattle.refute_rules.specs.Known.{host_of, quay_y, guest_y, moored_y, berth_y, y_within, y_in}
use Rattle.refute_rules.specs.SpotFaults.{IsOutsideAcross}
use Rattle.refute_rules.proofs.FitLemmas.{rank-tells}
use Rattle.refute_rules.specs.BerthCases.{DoOverlap, ObeyAlong}

module _ (d : Deck) (case : List Choice) where
  moored-more : (i : ℕ) (r : Rank) (m : Moor) (told more : ℕ → Option ℤ) → ((k : ℕ) (z : ℤ) → told k ≡ Some z → more k ≡ Some z) → (z : ℤ) → moored_y d i r m told ≡ Some z → moored_y d i r m more ≡ Some z
  moored-more i r Quay told more f z e = e
  moored-more i r (Ship k) told more f z e = at (told k) refl e
    where
      at : (o : Option ℤ) → told k ≡ o → option_map (guest_y d i k r) o ≡ Some z → option_map (guest_y d i k r) (more k) ≡ Some z
      at None g h = absurd (none-some z h)
      at (Some u) g h = ap (option_map (guest_y d i k r)) (f k u g) ∙ h

  berth-more : (i : ℕ) (o : Option Berth) (told more : ℕ → Option ℤ) → ((k : ℕ) (z : ℤ) → told k ≡ Some z → more k ≡ Some z) → (z : ℤ) → berth_y d i o told ≡ Some z → berth_y d i o more ≡ Some z
  berth-more i None told more f z e = absurd (none-some z e)
  berth-more i (Some b) told more f z e = moored-more i b.rank b.moor told more f z e

  -- y that is known by some ships is known by one more
  y-more : (steps i : ℕ) (z : ℤ) → y_within d case steps i ≡ Some z → y_within d case (suc steps) i ≡ Some z
  y-more zero i z e = absurd (none-some z e)
  y-more (suc steps) i z e = berth-more i (berth_in case i) (y_within d case steps) (y_within d case (suc steps)) (λ k u h. y-more steps k u h) z e

  -- known y of a guest is at its host's
  host-y : (steps i k : ℕ) (r : Rank) (z : ℤ) → berth_in case i ≡ Some (record { rank = r; moor = Ship k }) → y_within d case steps i ≡ Some z → (u : ℤ) × (y_within d case steps k ≡ Some u) × (guest_y d i k r u ≡ z)
  host-y zero i k r z b e = absurd (none-some z e)
  host-y (suc steps) i k r z b e = at (y_within d case steps k) refl (ap (λ o. berth_y d i o (y_within d case steps)) (sym b) ∙ e)
    where
      at : (o : Option ℤ) → y_within d case steps k ≡ o → option_map (guest_y d i k r) o ≡ Some z → (u : ℤ) × (y_within d case (suc steps) k ≡ Some u) × (guest_y d i k r u ≡ z)
      at None g h = absurd (none-some z h)
      at (Some u) g h = (u, y-more steps k u g, same_Some (guest_y d i k r u) z h)

  quay-known : (steps i : ℕ) (r : Rank) (z : ℤ) → berth_in case i ≡ Some (record { rank = r; moor = Quay }) → y_within d case steps i ≡ Some z → quay_y d i r ≡ z
  quay-known zero i r z b e = absurd (none-some z e)
  quay-known (suc steps) i r z b e = same_Some (quay_y d i r) z (ap (λ o. berth_y d i o (y_within d case steps)) (sym b) ∙ e)

-- the spots are those of a whole berth case
pub record AreBerthSpots (d : Deck) (case : List Choice) (spots : List Spot) : Type 0 where
  pub count : length spots ≡ length d.ships
  pub berth : (i : ℕ) → i < length d.ships → berth_in case i ≡ Some (record { rank = (spot_at spots i).rank; moor = (spot_at spots i).moor })
  pub y : (i : ℕ) → i < length d.ships → y_in d case i ≡ Some (pos (spot_at spots i).y)
  pub host : (i k : ℕ) → i < length d.ships → (spot_at spots i).moor ≡ Ship k → (k < length d.ships) × (k ≢ i)
  pub along : ObeyAlong d case (λ i. (spot_at spots i).x)
  pub apart : (i j : ℕ) → i < j → j < length d.ships → DoOverlap d case i j → ((spot_at spots i).x + length_at d i + d.gap ≤ (spot_at spots j).x) ⊎ ((spot_at spots j).x + length_at d j + d.gap ≤ (spot_at spots i).x)

module _ (d : Deck) (case : List Choice) (spots : List Spot) (are : AreBerthSpots d case spots) (ranks : (i : ℕ) → HasOtherRank case i → ⊥) (across : (i : ℕ) → IsOutsideAcross d case i → ⊥) where
  inside : (i : ℕ) → i < length d.ships → IsInside d (size_at d i) (spot_at spots i)
  inside i known =
      let x = are.along.inside i known in
      elim (leb_tells ((spot_at spots i).y + width_at d i) d.width) [
        | inl t ↦ (x.0, x.1, t.1)
        | inr n ↦ absurd (across i (record { y = pos (spot_at spots i).y; known = are.y i known; outside = λ h. let far = h.1 in let wide = n.1 in omega (arith, ints, far, wide) }))
      ]

  apart-two : (i j : ℕ) → i < j → j < length d.ships → AreApart d (size_at d i) (spot_at spots i) (size_at d j) (spot_at spots j)
  apart-two i j less known =
      elim (leb_tells ((spot_at spots i).y + width_at d i + d.side) (spot_at spots j).y) [
        | inl a ↦ inr (inr (inl a.1))
        | inr a ↦ elim (leb_tells ((spot_at spots j).y + width_at d j + d.side) (spot_at spots i).y) [
          | inl b ↦ inr (inr (inr b.1))
          | inr b ↦
              let over : DoOverlap d case i j = record {
                yi = pos (spot_at spots i).y;
                yj = pos (spot_at spots j).y;
                known_i = are.y i (omega (arith, less, known));
                known_j = are.y j known;
                not_below = λ h. let n = a.1 in omega (arith, ints, n, h);
                not_above = λ h. let n = b.1 in omega (arith, ints, n, h);
              } in
              elim (are.apart i j less known over) [ inl u ↦ inl u | inr u ↦ inr (inl u) ]
        ]
      ]

  at-quay : (i : ℕ) (r : Rank) → quay_y d i r ≡ pos (spot_at spots i).y → IsAtQuay d (size_at d i) (spot_at spots i) r
  at-quay i Left e = omega (arith, ints, e)
  at-quay i Right e = omega (arith, ints, e)

  at-side : (i k : ℕ) (r : Rank) → guest_y d i k r (pos (spot_at spots k).y) ≡ pos (spot_at spots i).y → IsAtSide d (size_at d i) (spot_at spots i) (size_at d k) (spot_at spots k) r
  at-side i k Left e = omega (arith, ints, e)
  at-side i k Right e = omega (arith, ints, e)

  moored : (i : ℕ) (m : Moor) → i < length d.ships → (spot_at spots i).moor ≡ m → IsMoored d spots i m
  moored i Quay known e =
      let r = (spot_at spots i).rank in
      let b : berth_in case i ≡ Some (record { rank = r; moor = Quay }) = are.berth i known ∙ ap (λ m. Some (record { rank = r; moor = m })) e in
      at-quay i r (quay-known d case (length d.ships) i r (pos (spot_at spots i).y) b (are.y i known))
  moored i (Ship k) known e =
      let r = (spot_at spots i).rank in
      let host = are.host i k known e in
      let b : berth_in case i ≡ Some (record { rank = r; moor = Ship k }) = are.berth i known ∙ ap (λ m. Some (record { rank = r; moor = m })) e in
      let y = host-y d case (length d.ships) i k r (pos (spot_at spots i).y) b (are.y i known) in
      let same : y.0 ≡ pos (spot_at spots k).y = same_Some y.0 (pos (spot_at spots k).y) (sym y.1 ∙ are.y k host.0) in
      let within = are.along.within i k (ap host_of b) in
      let rank : (spot_at spots k).rank ≡ r =
      elim (rank-tells (spot_at spots k).rank r) [
        | inl t ↦ t
        | inr n ↦ absurd (ranks i (record { host = k; own = r; berth = record { rank = (spot_at spots k).rank; moor = (spot_at spots k).moor }; lies = b; decided = are.berth k host.0; differ = n }))
      ] in
      (host.0, host.1, record { rank = rank; near = within.0; far = within.1; beside = at-side i k r (ap (guest_y d i k r) (sym same) ∙ y.2) })

  -- a whole berth case gives a legal placement
  pub berths-legal : IsLegalPlacement d spots
  berths-legal = record {
    count = are.count;
    inside = inside;
    apart = λ i known. record { later = λ j less below. apart-two i j less below };
    berthed = λ i known. moored i (spot_at spots i).moor known refl;
  }
