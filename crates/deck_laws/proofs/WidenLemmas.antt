-- A placement stays legal in a longer or wider deck.
use Rattle.std.proofs.Common.{◌≡◌, ◌≢◌, ℕ, ◌+◌, ◌-◌, ◌<◌, ◌≤◌, List, length, map, ◌⊎◌, inl, inr, refl, sym, ap, ◌∙◌, subst, arith}
use Rattle.std.proofs.lemmas.Bool.Decides.{leb_tells}
use Rattle.std.proofs.lemmas.List.{get_or-map, length-map}
use Rattle.lock_model.specs.Deck.{Deck, IsDeck, size_at}
use Rattle.lock_model.specs.Placement.{IsLegalPlacement, IsMoored, IsAtQuay, IsAtSide, IsAtHost, AreApart, IsInside, spot_at}
use Rattle.lock_model.specs.declared.placement.Spot.{Spot}
use Rattle.lock_model.specs.declared.placement.Rank.{Rank}
use Rattle.lock_model.specs.declared.placement.Rank.TheVariants.{Left, Right}
use Rattle.lock_model.specs.declared.placement.Moor.{Moor}
use Rattle.lock_model.specs.declared.placement.Moor.TheVariants.{Quay, Ship}
use Rattle.deck_laws.specs.Widen.{IsRoomier, wide_y, wide_spot, wide_spots}
use Rattle.deck_laws.proofs.PlacementLemmas.{is-moored, are-apart, under-rank}

-- the deck e is of the ships and gaps of d
module _ (d : Deck) (spots : List Spot) (legal : IsLegalPlacement d spots) (limits : IsDeck d) (long wide : ℕ) (longer : d.length ≤ long) (wider : d.width ≤ wide) where
  abbrev pub roomy : Deck
  roomy = record { length = long; width = wide; end = d.end; gap = d.gap; side = d.side; ships = d.ships }

  abbrev pub moved : ℕ → Spot
  moved i = wide_spot (wide - d.width) (spot_at spots i)

  left-y : (i : ℕ) → (spot_at spots i).rank ≡ Left → (moved i).y ≡ (spot_at spots i).y
  left-y i e = ap (λ r. wide_y r (spot_at spots i).y (wide - d.width)) e

  right-y : (i : ℕ) → (spot_at spots i).rank ≡ Right → (moved i).y ≡ (spot_at spots i).y + (wide - d.width)
  right-y i e = ap (λ r. wide_y r (spot_at spots i).y (wide - d.width)) e

  inside-at : (r : Rank) (i : ℕ) → i < length d.ships → (spot_at spots i).rank ≡ r → IsInside roomy (size_at d i) (moved i)
  inside-at Left i ki e =
      let old = legal.inside i ki in
      let y = left-y i e in
      (old.0, omega (arith, old.1, longer), omega (arith, old.2, wider, y))
  inside-at Right i ki e =
      let old = legal.inside i ki in
      let y = right-y i e in
      (old.0, omega (arith, old.1, longer), omega (arith, old.2, wider, y))

  left-right : Left ≡ Right → ⊥
  left-right e = cc

  -- a right-rank ship i below a left-rank ship j is separated from it along the chamber
  crossed : (i j : ℕ) → i < length d.ships → j < length d.ships → (spot_at spots i).rank ≡ Right → (spot_at spots j).rank ≡ Left → (spot_at spots i).y + (size_at d i).width + d.side ≤ (spot_at spots j).y
      → ((spot_at spots i).x + (size_at d i).length + d.gap ≤ (spot_at spots j).x) ⊎ ((spot_at spots j).x + (size_at d j).length + d.gap ≤ (spot_at spots i).x)
  crossed i j ki kj right left below =
      elim (leb_tells ((spot_at spots i).x + (size_at d i).length + d.gap) (spot_at spots j).x) [
        | inl y ↦ inl y.1
        | inr before ↦ elim (leb_tells ((spot_at spots j).x + (size_at d j).length + d.gap) (spot_at spots i).x) [
          | inl y ↦ inr y.1
          | inr behind ↦ absurd (left-right (sym (under-rank d spots legal limits Left j i kj left ki below (λ c. omega (arith, c, before.1)) (λ c. omega (arith, c, behind.1))) ∙ right))
        ]
      ]

  abbrev IsApart : ℕ → ℕ → Type 0
  IsApart i j = AreApart roomy (size_at d i) (moved i) (size_at d j) (moved j)

  turned : (i j : ℕ) → IsApart i j → IsApart j i
  turned i j (inl a) = inr (inl a)
  turned i j (inr (inl a)) = inl a
  turned i j (inr (inr (inl a))) = inr (inr (inr a))
  turned i j (inr (inr (inr a))) = inr (inr (inl a))

  -- both by the same amount
  alike : (i j e : ℕ) → i < length d.ships → j < length d.ships → i ≢ j → (moved i).y ≡ (spot_at spots i).y + e → (moved j).y ≡ (spot_at spots j).y + e → IsApart i j
  alike i j e ki kj differ yi yj = go (are-apart d spots legal limits i j ki kj differ)
    where
      go : AreApart d (size_at d i) (spot_at spots i) (size_at d j) (spot_at spots j) → IsApart i j
      go (inl a) = inl a
      go (inr (inl a)) = inr (inl a)
      go (inr (inr (inl a))) = inr (inr (inl (omega (arith, a, yi, yj))))
      go (inr (inr (inr a))) = inr (inr (inr (omega (arith, a, yi, yj))))

  -- i of the right rank, j of the left
  across : (i j : ℕ) → i < length d.ships → j < length d.ships → i ≢ j → (spot_at spots i).rank ≡ Right → (spot_at spots j).rank ≡ Left → IsApart i j
  across i j ki kj differ right left = go (are-apart d spots legal limits i j ki kj differ)
    where
      go : AreApart d (size_at d i) (spot_at spots i) (size_at d j) (spot_at spots j) → IsApart i j
      go (inl a) = inl a
      go (inr (inl a)) = inr (inl a)
      go (inr (inr (inl a))) = elim (crossed i j ki kj right left a) [ inl c ↦ inl c | inr c ↦ inr (inl c) ]
      go (inr (inr (inr a))) = let yi = right-y i right in let yj = left-y j left in inr (inr (inr (omega (arith, a, yi, yj))))

  apart-at : (r s : Rank) (i j : ℕ) → i < length d.ships → j < length d.ships → i ≢ j → (spot_at spots i).rank ≡ r → (spot_at spots j).rank ≡ s → IsApart i j
  apart-at Left Left i j ki kj differ ei ej = let yi = left-y i ei in let yj = left-y j ej in alike i j 0 ki kj differ (omega (arith, yi)) (omega (arith, yj))
  apart-at Left Right i j ki kj differ ei ej = turned j i (across j i kj ki (λ s. differ (sym s)) ej ei)
  apart-at Right Left i j ki kj differ ei ej = across i j ki kj differ ei ej
  apart-at Right Right i j ki kj differ ei ej = alike i j (wide - d.width) ki kj differ (right-y i ei) (right-y j ej)

  quay-at : (r : Rank) (i : ℕ) → (spot_at spots i).rank ≡ r → IsAtQuay d (size_at d i) (spot_at spots i) r → IsAtQuay roomy (size_at d i) (moved i) r
  quay-at Left i e h = let y = left-y i e in omega (arith, h, y)
  quay-at Right i e h = let y = right-y i e in omega (arith, h, y, wider)

  side-at : (r : Rank) (i k : ℕ) → (spot_at spots i).rank ≡ r → (spot_at spots k).rank ≡ r → IsAtSide d (size_at d i) (spot_at spots i) (size_at d k) (spot_at spots k) r → IsAtSide roomy (size_at d i) (moved i) (size_at d k) (moved k) r
  side-at Left i k ei ek h = let yi = left-y i ei in let yk = left-y k ek in omega (arith, h, yi, yk)
  side-at Right i k ei ek h = let yi = right-y i ei in let yk = right-y k ek in omega (arith, h, yi, yk)

  abbrev after : List Spot
  after = map (wide_spot (wide - d.width)) spots

  at : (i : ℕ) → i < length d.ships → spot_at after i ≡ moved i
  at i ki = get_or-map (wide_spot (wide - d.width)) spots i (record { x = 0; y = 0; rank = Left; moor = Quay }) (record { x = 0; y = 0; rank = Left; moor = Quay }) (omega (arith, ki, legal.count))

  moored-at : (i : ℕ) (m : Moor) → i < length d.ships → (spot_at spots i).moor ≡ m → IsMoored roomy after i m
  moored-at i Quay ki e =
      subst (λ p. IsAtQuay roomy (size_at d i) p p.rank) (sym (at i ki))
      (quay-at (spot_at spots i).rank i refl (is-moored d spots legal limits i Quay ki e))
  moored-at i (Ship k) ki e =
      let old = is-moored d spots legal limits i (Ship k) ki e in (
        old.0,
        old.1,
        subst (λ p. IsAtHost roomy (size_at d i) p (size_at d k) (spot_at after k)) (sym (at i ki))
            (subst (λ q. IsAtHost roomy (size_at d i) (moved i) (size_at d k) q) (sym (at k old.0))
            (record { rank = old.2.rank; near = old.2.near; far = old.2.far; beside = side-at (spot_at spots i).rank i k refl old.2.rank old.2.beside })),
      )

  -- THE PLACEMENT IS LEGAL in the roomier deck
  pub roomy-legal : IsLegalPlacement roomy after
  roomy-legal = record {
    count = length-map spots (wide_spot (wide - d.width)) ∙ legal.count;
    inside = λ i ki. subst (IsInside roomy (size_at d i)) (sym (at i ki)) (inside-at (spot_at spots i).rank i ki refl);
    apart = λ i ki. record {
      later = λ j less kj.
          subst (λ p. AreApart roomy (size_at d i) p (size_at d j) (spot_at after j)) (sym (at i ki))
          (subst (λ q. AreApart roomy (size_at d i) (moved i) (size_at d j) q) (sym (at j kj))
          (apart-at (spot_at spots i).rank (spot_at spots j).rank i j ki kj (λ s. omega (arith, s, less)) refl refl));
    };
    berthed = λ i ki. subst (λ p. IsMoored roomy after i p.moor) (sym (at i ki)) (moored-at i (spot_at spots i).moor ki refl);
  }

pub widen-legal : (d e : Deck) (spots : List Spot) → IsDeck d → IsRoomier d e → IsLegalPlacement d spots → IsLegalPlacement e (wide_spots d e spots)
widen-legal d e spots limits more legal =
    let same : roomy d spots legal limits e.length e.width more.long more.wide ≡ e = λ t. record { length = e.length; width = e.width; end = more.end t; gap = more.gap t; side = more.side t; ships = more.ships t } in
    subst (λ f. IsLegalPlacement f (wide_spots d e spots)) same (roomy-legal d spots legal limits e.length e.width more.long more.wide)
