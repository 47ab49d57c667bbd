-- The spots of a whole spot case are a legal placement.
use Rattle.std.proofs.Common.{◌≡◌, ◌≢◌, ℕ, suc, ◌+◌, ◌<◌, ◌≤◌, ℤ, pos, ◌+ℤ◌, ◌≤ℤ◌, List, length, ◌⊎◌, inl, inr, refl, sym, ap, ◌∙◌, subst, arith, Some, Contains}
use Rattle.std.proofs.lemmas.Int.{ints, by_lt_z}
use Rattle.std.proofs.lemmas.Bool.Decides.{leb_tells}
use Rattle.std.proofs.lemmas.Option.{same_Some}
use Rattle.lock_model.specs.Deck.{Deck, size_at}
use Rattle.lock_model.specs.Placement.{IsLegalPlacement, IsInside, spot_at, IsMoored, IsAtQuay, IsAtSide, AreApart}
use Rattle.lock_model.specs.declared.placement.Spot.{Spot}
use Rattle.lock_model.specs.declared.placement.Rank.{Rank}
use Rattle.lock_model.specs.declared.placement.Rank.TheVariants.{Left, Right}
use Rattle.lock_model.specs.declared.placement.Moor.{Moor}
use Rattle.lock_model.specs.declared.placement.Moor.TheVariants.{Quay, Ship}
use Rattle.refute_rules.specs.Reasons.{length_at, width_at}
use Rattle.refute_rules.specs.declared.choices.Choice.{Choice}
use Rattle.refute_rules.specs.Decided.{berth_in}
use Rattle.refute_rules.specs.Known.{moor_host, host_of, host_and_more, hosts_within, quay_y, guest_y, moored_y, berth_y, y_within, HasKnownHosts}
use Rattle.refute_rules.specs.SpotFaults.{IsInsideAlong, IsInsideAcross, AreApartAt, OtherRank, LeadsBack, Outside, PastHost, Touching, IsFaultless}
use Rattle.refute_rules.specs.Spots.{AreSpotsOfCase}
use Rattle.refute_rules.proofs.KnownLemmas.{map-some, positive, y-more}

le_or_not : (a b : ℕ) → (a ≤ b) ⊎ (a ≤ b → ⊥)
le_or_not a b = elim (leb_tells a b) [ inl y ↦ inl y.1 | inr n ↦ inr (λ h. omega (arith, h, n.1)) ]

le_z_or_not : (a b : ℤ) → (a ≤ℤ b) ⊎ (a ≤ℤ b → ⊥)
le_z_or_not a b = by_lt_z b a (λ l. inr (λ h. omega (arith, ints, l, h))) (λ g. inl g)

both_or_not : (A B : Type 0) → A ⊎ (A → ⊥) → B ⊎ (B → ⊥) → (A × B) ⊎ (A × B → ⊥)
both_or_not A B (inl a) (inl b) = inl (a, b)
both_or_not A B (inl a) (inr n) = inr (λ h. n h.1)
both_or_not A B (inr n) s = inr (λ h. n h.0)

either_or_not : (A B : Type 0) → A ⊎ (A → ⊥) → B ⊎ (B → ⊥) → (A ⊎ B) ⊎ (A ⊎ B → ⊥)
either_or_not A B (inl a) s = inl (inl a)
either_or_not A B (inr n) (inl b) = inl (inr b)
either_or_not A B (inr n) (inr m) = inr (λ h. elim h [ inl a ↦ n a | inr b ↦ m b ])

apart_or_not : (d : Deck) (i xi : ℕ) (yi : ℤ) (j xj : ℕ) (yj : ℤ) → AreApartAt d i xi yi j xj yj ⊎ (AreApartAt d i xi yi j xj yj → ⊥)
apart_or_not d i xi yi j xj yj =
    either_or_not _ _ (le_or_not _ _) (either_or_not _ _ (le_or_not _ _) (either_or_not _ _ (le_z_or_not _ _) (le_z_or_not _ _)))

rank_or_not : (r s : Rank) → (r ≡ s) ⊎ (r ≢ s)
rank_or_not Left Left = inl refl
rank_or_not Left Right = inr (λ e. cc)
rank_or_not Right Left = inr (λ e. cc)
rank_or_not Right Right = inl refl

module _ (d : Deck) (case : List Choice) (faultless : IsFaultless d case) (hosts : HasKnownHosts d case) (spots : List Spot) (are : AreSpotsOfCase d case spots) where
  is-along : (i : ℕ) → i < length d.ships → IsInsideAlong d i (spot_at spots i).x
  is-along i known =
      elim (both_or_not (d.end ≤ (spot_at spots i).x) ((spot_at spots i).x + length_at d i + d.end ≤ d.length) (le_or_not _ _) (le_or_not _ _)) [
        | inl h ↦ h
        | inr n ↦ absurd (faultless (Outside i) (inl (record { x = (spot_at spots i).x; decided = are.x i known; outside = n })))
      ]

  is-across : (i : ℕ) → i < length d.ships → IsInsideAcross d i (pos (spot_at spots i).y)
  is-across i known =
      elim (both_or_not (pos 0 ≤ℤ pos (spot_at spots i).y) ((pos (spot_at spots i).y +ℤ pos (width_at d i)) ≤ℤ pos d.width) (le_z_or_not _ _) (le_z_or_not _ _)) [
        | inl h ↦ h
        | inr n ↦ absurd (faultless (Outside i) (inr (record { y = pos (spot_at spots i).y; known = are.y i known; outside = n })))
      ]

  is-inside : (i : ℕ) → i < length d.ships → IsInside d (size_at d i) (spot_at spots i)
  is-inside i known =
      let along = is-along i known in
      let across = (is-across i known).1 in
      (along.0, along.1, omega (arith, ints, across))

  -- apart, with y from 0 on
  apart-natural : (i j : ℕ) → AreApartAt d i (spot_at spots i).x (pos (spot_at spots i).y) j (spot_at spots j).x (pos (spot_at spots j).y) → AreApart d (size_at d i) (spot_at spots i) (size_at d j) (spot_at spots j)
  apart-natural i j (inl h) = inl h
  apart-natural i j (inr (inl h)) = inr (inl h)
  apart-natural i j (inr (inr (inl h))) = inr (inr (inl (omega (arith, ints, h))))
  apart-natural i j (inr (inr (inr h))) = inr (inr (inr (omega (arith, ints, h))))

  is-apart : (i j : ℕ) → i < j → i < length d.ships → j < length d.ships → AreApart d (size_at d i) (spot_at spots i) (size_at d j) (spot_at spots j)
  is-apart i j less ki kj =
      elim (apart_or_not d i (spot_at spots i).x (pos (spot_at spots i).y) j (spot_at spots j).x (pos (spot_at spots j).y)) [
        | inl h ↦ apart-natural i j h
        | inr n ↦ absurd (faultless (Touching i j) (record {
          different = λ e. omega (arith, e, less);
          xi = (spot_at spots i).x;
          yi = pos (spot_at spots i).y;
          xj = (spot_at spots j).x;
          yj = pos (spot_at spots j).y;
          decided_i = are.x i ki;
          known_i = are.y i ki;
          decided_j = are.x j kj;
          known_j = are.y j kj;
          touching = n;
        }))
      ]

  -- y by the berth of the ship
  y-moored : (m : ℕ) (i : ℕ) → i < length d.ships → length d.ships ≡ suc m → moored_y d i (spot_at spots i).rank (spot_at spots i).moor (y_within d case m) ≡ Some (pos (spot_at spots i).y)
  y-moored m i known e =
      sym (ap (λ o. berth_y d i o (y_within d case m)) (are.berth i known))
      ∙ sym (ap (λ n. y_within d case n i) e)
      ∙ are.y i known

  at-quay : (i : ℕ) (r : Rank) → i < length d.ships → quay_y d i r ≡ pos (spot_at spots i).y → IsAtQuay d (size_at d i) (spot_at spots i) r
  at-quay i Left known e = omega (arith, ints, e)
  at-quay i Right known e = omega (arith, ints, e)

  at-side : (i k : ℕ) (r : Rank) → guest_y d i k r (pos (spot_at spots k).y) ≡ pos (spot_at spots i).y → IsAtSide d (size_at d i) (spot_at spots i) (size_at d k) (spot_at spots k) r
  at-side i k Left e = omega (arith, ints, e)
  at-side i k Right e = omega (arith, ints, e)

  -- the y that a host is told to have is its own
  host-y : (m k : ℕ) (z : ℤ) → k < length d.ships → length d.ships ≡ suc m → y_within d case m k ≡ Some z → z ≡ pos (spot_at spots k).y
  host-y m k z known e h = same_Some z (pos (spot_at spots k).y) (sym (ap (λ n. y_within d case n k) e ∙ y-more d case m k z h) ∙ are.y k known)

  not-self : (i k : ℕ) → i < length d.ships → host_of (berth_in case i) ≡ Some k → k ≢ i
  not-self i k known host e =
      let n = positive (length d.ships) i known in
      faultless (LeadsBack i) (subst (λ n. Contains (hosts_within case n i) i) (sym n.1) (subst (λ o. Contains (host_and_more o (hosts_within case n.0)) i) (sym host) (0, omega arith, e)))

  same-rank : (i k : ℕ) → i < length d.ships → k < length d.ships → (spot_at spots i).moor ≡ Ship k → (spot_at spots k).rank ≡ (spot_at spots i).rank
  same-rank i k ki kk e =
      elim (rank_or_not (spot_at spots k).rank (spot_at spots i).rank) [
        | inl same ↦ same
        | inr differ ↦ absurd (faultless (OtherRank i) (record {
          host = k;
          own = (spot_at spots i).rank;
          berth = record { rank = (spot_at spots k).rank; moor = (spot_at spots k).moor };
          lies = are.berth i ki ∙ ap (λ m. Some (record { rank = (spot_at spots i).rank; moor = m })) e;
          decided = are.berth k kk;
          differ = differ;
        }))
      ]

  near-host : (i k : ℕ) → i < length d.ships → k < length d.ships → host_of (berth_in case i) ≡ Some k → ((spot_at spots k).x ≤ (spot_at spots i).x) × ((spot_at spots i).x + length_at d i ≤ (spot_at spots k).x + length_at d k)
  near-host i k ki kk host =
      elim (both_or_not ((spot_at spots k).x ≤ (spot_at spots i).x) ((spot_at spots i).x + length_at d i ≤ (spot_at spots k).x + length_at d k) (le_or_not _ _) (le_or_not _ _)) [
        | inl h ↦ h
        | inr n ↦ absurd (faultless (PastHost i) (record { host = k; x = (spot_at spots i).x; host_x = (spot_at spots k).x; lies = host; own = are.x i ki; other = are.x k kk; past = n }))
      ]

  moored : (i : ℕ) (m : Moor) → i < length d.ships → (spot_at spots i).moor ≡ m → IsMoored d spots i m
  moored i Quay known e =
      let n = positive (length d.ships) i known in
      at-quay i (spot_at spots i).rank known (same_Some _ _ (sym (ap (λ m. moored_y d i (spot_at spots i).rank m (y_within d case n.0)) e) ∙ y-moored n.0 i known n.1))
  moored i (Ship k) known e =
      let n = positive (length d.ships) i known in
      let host : host_of (berth_in case i) ≡ Some k = ap host_of (are.berth i known) ∙ ap moor_host e in
      let kk = hosts.each i k known host in
      let from = map-some (guest_y d i k (spot_at spots i).rank) (y_within d case n.0 k) (pos (spot_at spots i).y) (sym (ap (λ m. moored_y d i (spot_at spots i).rank m (y_within d case n.0)) e) ∙ y-moored n.0 i known n.1) in
      let near = near-host i k known kk host in
      let side = ap (guest_y d i k (spot_at spots i).rank) (sym (host-y n.0 k from.0 kk n.1 from.1)) ∙ from.2 in
      (kk, not-self i k known host, record { rank = same-rank i k known kk e; near = near.0; far = near.1; beside = at-side i k (spot_at spots i).rank side })

  -- the spots of a whole spot case are legal
  pub whole-legal : IsLegalPlacement d spots
  whole-legal = record {
    count = are.count;
    inside = is-inside;
    apart = λ i known. record { later = λ j less here. is-apart i j less known here };
    berthed = λ i known. moored i (spot_at spots i).moor known refl;
  }
