-- What a legal placement says of the ships of one rank, by their depth.
use Rattle.std.proofs.Common.{◌≡◌, ◌≢◌, ℕ, suc, ◌+◌, ◌-◌, ◌<◌, ◌≤◌, List, length, ◌⊎◌, inl, inr, ◌∙◌, subst, arith}
use Rattle.std.proofs.lemmas.Bool.Decides.{leb_tells}
use Rattle.lock_model.specs.Deck.{Deck, IsDeck, size_at, no_size}
use Rattle.lock_model.specs.Placement.{IsLegalPlacement, IsMoored, IsAtQuay, IsAtSide, AreApart, IsInside, spot_at}
use Rattle.lock_model.specs.declared.placement.Spot.{Spot}
use Rattle.lock_model.specs.declared.deck.Size.{Size}
use Rattle.lock_model.specs.declared.placement.Rank.{Rank}
use Rattle.lock_model.specs.declared.placement.Rank.TheVariants.{Left, Right}
use Rattle.lock_model.specs.declared.placement.Moor.{Moor}
use Rattle.lock_model.specs.declared.placement.Moor.TheVariants.{Quay, Ship}
use Rattle.deck_laws.proofs.HostLemmas.{under-host, host-below}

module _ (d : Deck) (spots : List Spot) (legal : IsLegalPlacement d spots) (limits : IsDeck d) where
  abbrev pub length_of : ℕ → ℕ
  length_of i = (size_at d i).length

  abbrev pub width_of : ℕ → ℕ
  width_of i = (size_at d i).width

  abbrev pub x_at : ℕ → ℕ
  x_at i = (spot_at spots i).x

  abbrev pub y_at : ℕ → ℕ
  y_at i = (spot_at spots i).y

  abbrev pub rank_at : ℕ → Rank
  rank_at i = (spot_at spots i).rank

  abbrev pub moor_at : ℕ → Moor
  moor_at i = (spot_at spots i).moor

  -- how far a ship lies from the quay of a rank
  abbrev pub depth_of : Rank → ℕ → ℕ
  depth_of Left i = y_at i
  depth_of Right i = d.width - (y_at i + width_of i)

  pub is-wide : (i : ℕ) → i < length d.ships → 1 ≤ width_of i
  is-wide i known = (limits.sizes i no_size known).wide.0

  pub is-inside : (i : ℕ) → i < length d.ships → IsInside d (size_at d i) (spot_at spots i)
  is-inside i known = legal.inside i known

  pub is-moored : (i : ℕ) (m : Moor) → i < length d.ships → moor_at i ≡ m → IsMoored d spots i m
  is-moored i m known e = subst (IsMoored d spots i) e (legal.berthed i known)

  turned : (s t : Size) (p q : Spot) → AreApart d s p t q → AreApart d t q s p
  turned s t p q (inl a) = inr (inl a)
  turned s t p q (inr (inl a)) = inl a
  turned s t p q (inr (inr (inl a))) = inr (inr (inr a))
  turned s t p q (inr (inr (inr a))) = inr (inr (inl a))

  pub are-apart : (i j : ℕ) → i < length d.ships → j < length d.ships → i ≢ j → AreApart d (size_at d i) (spot_at spots i) (size_at d j) (spot_at spots j)
  are-apart i j ki kj differ =
      elim (leb_tells (suc i) j) [
        | inl y ↦ (legal.apart i ki).later j y.1 kj
        | inr n ↦ turned (size_at d j) (size_at d i) (spot_at spots j) (spot_at spots i) ((legal.apart j kj).later i (omega (arith, n.1, differ)) ki)
      ]

  abbrev pub AreApartBy : Rank → ℕ → ℕ → Type 0
  AreApartBy r i j = (x_at i + length_of i + d.gap ≤ x_at j) ⊎ ((x_at j + length_of j + d.gap ≤ x_at i) ⊎ ((depth_of r i + width_of i + d.side ≤ depth_of r j) ⊎ (depth_of r j + width_of j + d.side ≤ depth_of r i)))

  pub apart-by : (r : Rank) (i j : ℕ) → i < length d.ships → j < length d.ships → i ≢ j → AreApartBy r i j
  apart-by Left i j ki kj differ = are-apart i j ki kj differ
  apart-by Right i j ki kj differ = go (are-apart i j ki kj differ)
    where
      go : AreApart d (size_at d i) (spot_at spots i) (size_at d j) (spot_at spots j) → AreApartBy Right i j
      go (inl a) = inl a
      go (inr (inl a)) = inr (inl a)
      go (inr (inr (inl a))) = let here = (is-inside i ki).2 in let there = (is-inside j kj).2 in inr (inr (inr (omega (arith, a, here, there))))
      go (inr (inr (inr a))) = let here = (is-inside i ki).2 in let there = (is-inside j kj).2 in inr (inr (inl (omega (arith, a, here, there))))

  quay-depth : (r : Rank) (i : ℕ) → IsAtQuay d (size_at d i) (spot_at spots i) r → depth_of r i ≡ 0
  quay-depth Left i h = h
  quay-depth Right i h = omega (arith, h)

  pub quay-by : (r : Rank) (i : ℕ) → i < length d.ships → rank_at i ≡ r → moor_at i ≡ Quay → depth_of r i ≡ 0
  quay-by r i ki mine e = quay-depth r i (subst (IsAtQuay d (size_at d i) (spot_at spots i)) mine (is-moored i Quay ki e))

  side-depth : (r : Rank) (i k : ℕ) → i < length d.ships → k < length d.ships → IsAtSide d (size_at d i) (spot_at spots i) (size_at d k) (spot_at spots k) r → depth_of r i ≡ depth_of r k + width_of k + d.side
  side-depth Left i k ki kk h = h
  side-depth Right i k ki kk h = let here = (is-inside i ki).2 in let there = (is-inside k kk).2 in omega (arith, h, here, there)

  pub host-by : (r : Rank) (i k : ℕ) → i < length d.ships → rank_at i ≡ r → moor_at i ≡ Ship k → (k < length d.ships) × (rank_at k ≡ r) × (x_at k ≤ x_at i) × (x_at i + length_of i ≤ x_at k + length_of k) × (depth_of r i ≡ depth_of r k + width_of k + d.side)
  host-by r i k ki mine e =
      let at = is-moored i (Ship k) ki e in
      let on = at.2 in
      (at.0, on.rank ∙ mine, on.near, on.far, side-depth r i k ki at.0 (subst (IsAtSide d (size_at d i) (spot_at spots i) (size_at d k) (spot_at spots k)) mine on.beside))

  -- what is below a ship of rank r (nearer to its quay), and not separated from it along the chamber, is of rank r
  pub under-rank : (r : Rank) (i u : ℕ) → i < length d.ships → rank_at i ≡ r → u < length d.ships → depth_of r u + width_of u + d.side ≤ depth_of r i → (x_at u + length_of u + d.gap ≤ x_at i → ⊥) → (x_at i + length_of i + d.gap ≤ x_at u → ⊥) → rank_at u ≡ r
  under-rank r i u ki mine ku below before behind =
      let found = under-host (length d.ships) length_of width_of x_at (depth_of r) rank_at r moor_at d.gap d.side is-wide (apart-by r) (quay-by r) (host-by r) i u ki mine ku (record { below = below; before = before; behind = behind }) in
      (host-below (length d.ships) length_of width_of x_at (depth_of r) rank_at r moor_at d.gap d.side is-wide (apart-by r) (quay-by r) (host-by r) found.0 i u ki mine found.1).1
