-- A placement without one of its ships is legal.
use Rattle.std.proofs.Common.{◌≡◌, ◌≢◌, ℕ, zero, suc, ◌+◌, ◌-◌, ◌<◌, ◌≤◌, List, length, cond, Bool, true, false, ◌||◌, ◌⊎◌, inl, inr, refl, sym, ap, ◌∙◌, subst, arith, nat_eq, nat_lt, slice_index_or, eqb-true, true≢false}
use Rattle.std.specs.List.{remove}
use Rattle.std.proofs.lemmas.Bool.Decides.{eqb_tells, leb_tells}
use Rattle.std.proofs.lemmas.Bool.{lt-ltb, ltb-true, or_parts, or_cases, false≢true}
use Rattle.std.proofs.lemmas.List.{get_or-map, length-map}
use Rattle.std.proofs.lemmas.List.Edits.{length-remove, get_or-remove_below, get_or-remove_above}
use Rattle.lock_model.specs.Deck.{Deck, IsDeck, size_at, no_size}
use Rattle.lock_model.specs.Placement.{IsLegalPlacement, IsMoored, IsAtQuay, IsAtSide, IsAtHost, AreApart, IsInside, spot_at}
use Rattle.lock_model.specs.declared.placement.Spot.{Spot}
use Rattle.lock_model.specs.declared.placement.Rank.{Rank}
use Rattle.lock_model.specs.declared.placement.Rank.TheVariants.{Left, Right}
use Rattle.lock_model.specs.declared.placement.Moor.{Moor}
use Rattle.lock_model.specs.declared.placement.Moor.TheVariants.{Quay, Ship}
use Rattle.refute_rules.proofs.FitLemmas.{rank-tells}
use Rattle.deck_laws.specs.Thin.{fallen, fallen_moor, moor_without, leads_to, nearer, thin_spot, thin_deck, thin_spots}
use Rattle.deck_laws.proofs.HostLemmas.{above, thin-apart, thin-host, thin-guest, host-stays}
use Rattle.deck_laws.proofs.PlacementLemmas.{length_of, width_of, x_at, rank_at, moor_at, depth_of, is-wide, is-moored, apart-by, quay-by, host-by}

eq-false : (a c : ℕ) → nat_eq a c ≡ false → a ≢ c
eq-false a c e = elim (eqb_tells a c) [ inl y ↦ absurd (true≢false (sym y.0 ∙ e)) | inr n ↦ n.1 ]

pub ltb_tells : (a c : ℕ) → ((nat_lt a c ≡ true) × (a < c)) ⊎ ((nat_lt a c ≡ false) × (c ≤ a))
ltb_tells a c = go (nat_lt a c) refl
  where
    go : (t : Bool) → nat_lt a c ≡ t → ((nat_lt a c ≡ true) × (a < c)) ⊎ ((nat_lt a c ≡ false) × (c ≤ a))
    go true e = inl (e, ltb-true a c e)
    go false e = elim (leb_tells c a) [ inl y ↦ inr (e, y.1) | inr n ↦ absurd (true≢false (sym (lt-ltb a c n.1) ∙ e)) ]

-- the place of ship i of the thinner deck in the deck
abbrev pub raised : ℕ → ℕ → ℕ
raised b i = cond (nat_lt i b) i (suc i)

pub raised-other : (b i : ℕ) → raised b i ≢ b
raised-other b i = elim (ltb_tells i b) [
  | inl y ↦ λ e. let at = ap (λ c. cond c i (suc i)) y.0 in let less = y.1 in omega (arith, e, at, less)
  | inr n ↦ λ e. let at = ap (λ c. cond c i (suc i)) n.0 in let more = n.1 in omega (arith, e, at, more)
]

raised-same : (b i j : ℕ) → raised b i ≡ raised b j → i ≡ j
raised-same b i j e =
    elim (ltb_tells i b) [
      | inl y ↦ elim (ltb_tells j b) [
        | inl z ↦ let f = ap (λ c. cond c i (suc i)) y.0 in let g = ap (λ c. cond c j (suc j)) z.0 in omega (arith, e, f, g)
        | inr z ↦ let f = ap (λ c. cond c i (suc i)) y.0 in let g = ap (λ c. cond c j (suc j)) z.0 in omega (arith, e, f, g, y.1, z.1)
      ]
      | inr y ↦ elim (ltb_tells j b) [
        | inl z ↦ let f = ap (λ c. cond c i (suc i)) y.0 in let g = ap (λ c. cond c j (suc j)) z.0 in omega (arith, e, f, g, y.1, z.1)
        | inr z ↦ let f = ap (λ c. cond c i (suc i)) y.0 in let g = ap (λ c. cond c j (suc j)) z.0 in omega (arith, e, f, g)
      ]
    ]

pub raised-known : (b i n : ℕ) → b < n → i + 1 < n → raised b i < n
raised-known b i n kb ki =
    elim (ltb_tells i b) [
      | inl y ↦ let f = ap (λ c. cond c i (suc i)) y.0 in omega (arith, f, ki)
      | inr y ↦ let f = ap (λ c. cond c i (suc i)) y.0 in omega (arith, f, ki)
    ]

pub raised-fallen : (b k : ℕ) → k ≢ b → raised b (fallen b k) ≡ k
raised-fallen b k other =
    elim (ltb_tells b k) [
      | inl y ↦
          let f : fallen b k ≡ k - 1 = ap (λ c. cond c (k - 1) k) y.0 in
          elim (ltb_tells (fallen b k) b) [
            | inl z ↦ absurd (omega (arith, f, y.1, z.1))
            | inr z ↦ let g = ap (λ c. cond c (fallen b k) (suc (fallen b k))) z.0 in omega (arith, f, g, y.1)
          ]
      | inr y ↦
          let f : fallen b k ≡ k = ap (λ c. cond c (k - 1) k) y.0 in
          elim (ltb_tells (fallen b k) b) [
            | inl z ↦ let g = ap (λ c. cond c (fallen b k) (suc (fallen b k))) z.0 in omega (arith, f, g)
            | inr z ↦ absurd (omega (arith, f, y.1, z.1, other))
          ]
    ]

fallen-known : (b k n : ℕ) → k < n → k ≢ b → b < n → fallen b k + 1 < n
fallen-known b k n kk other kb =
    elim (ltb_tells b k) [
      | inl y ↦ let f : fallen b k ≡ k - 1 = ap (λ c. cond c (k - 1) k) y.0 in omega (arith, f, kk, y.1)
      | inr y ↦ let f : fallen b k ≡ k = ap (λ c. cond c (k - 1) k) y.0 in omega (arith, f, kb, y.1, other)
    ]

-- what stands at i when b is left out
pub removed-at : {X : Type 0} (xs : List X) (b i : ℕ) (z : X) → b < length xs → slice_index_or (remove xs b) i z ≡ slice_index_or xs (raised b i) z
removed-at xs b i z kb =
    elim (ltb_tells i b) [
      | inl y ↦
          get_or-remove_below xs b z i y.1 kb ∙ sym (ap (λ c. slice_index_or xs (cond c i (suc i)) z) y.0)
      | inr n ↦
          let e : i + 1 ≡ suc i = omega arith in
          get_or-remove_above xs b z i (omega (arith, n.1)) kb ∙ ap (λ j. slice_index_or xs j z) e ∙ sym (ap (λ c. slice_index_or xs (cond c i (suc i)) z) n.0)
    ]

module _ (d : Deck) (spots : List Spot) (legal : IsLegalPlacement d spots) (limits : IsDeck d) (b : ℕ) (kb : b < length d.ships) where
  abbrev moor : ℕ → Moor
  moor i = (spot_at spots i).moor

  abbrev rank : ℕ → Rank
  rank i = (spot_at spots i).rank

  abbrev pub moves : ℕ → Bool
  moves i = leads_to spots b (moor i) d.width

  -- the depth from the quay of the ship's own rank falls along hosts
  abbrev low : ℕ → ℕ
  low i = depth_of d spots legal limits (rank i) i

  low-host : (i k : ℕ) → i < length d.ships → moor i ≡ Ship k → (k < length d.ships) × (low k < low i)
  low-host i k ki m =
      let at = host-by d spots legal limits (rank i) i k ki refl m in
      let w = is-wide d spots legal limits k at.0 in
      let e : low k ≡ depth_of d spots legal limits (rank i) k = ap (λ r. depth_of d spots legal limits r k) at.1 in
      (at.0, omega (arith, e, at.4, w))

  -- more steps than the depth lead no further
  enough : (f i : ℕ) → i < length d.ships → low i ≤ f → leads_to spots b (moor i) f ≡ leads_to spots b (moor i) (suc f)
  enough zero i ki small = go (moor i) refl
    where
      go : (m : Moor) → moor i ≡ m → leads_to spots b m 0 ≡ leads_to spots b m 1
      go Quay e = refl
      go (Ship k) e = absurd (omega (arith, (low-host i k ki e).1, small))
  enough (suc f) i ki small = go (enough f) (moor i) refl
    where
      go : ((j : ℕ) → j < length d.ships → low j ≤ f → leads_to spots b (moor j) f ≡ leads_to spots b (moor j) (suc f)) → (m : Moor) → moor i ≡ m → leads_to spots b m (suc f) ≡ leads_to spots b m (suc (suc f))
      go more Quay e = refl
      go more (Ship k) e = let at = low-host i k ki e in ap (λ c. nat_eq k b || c) (more k at.0 (omega (arith, at.1, small)))

  low-width : (r : Rank) (i : ℕ) → i < length d.ships → depth_of d spots legal limits r i ≤ d.width
  low-width Left i ki = let old = (legal.inside i ki).2 in omega (arith, old)
  low-width Right i ki = omega arith

  -- a guest moves if its host is b or moves
  moves-step : (i k : ℕ) → i < length d.ships → moor i ≡ Ship k → moves i ≡ (nat_eq k b || moves k)
  moves-step i k ki e = go d.width (enough (d.width - 1) k (low-host i k ki e).0 below) (low-host i k ki e).1 some
    where
      some : 1 ≤ d.width
      some = limits.wide.0

      below : low k ≤ d.width - 1
      below = let a = (low-host i k ki e).1 in let c = low-width (rank i) i ki in omega (arith, a, c)

      go : (w : ℕ) → leads_to spots b (moor k) (d.width - 1) ≡ leads_to spots b (moor k) (suc (d.width - 1)) → low k < low i → 1 ≤ d.width → moves i ≡ (nat_eq k b || moves k)
      go w same less some =
          let up : suc (d.width - 1) ≡ d.width = omega (arith, some) in
          ap (λ m. leads_to spots b m d.width) e
          ∙ ap (leads_to spots b (Ship k)) (sym up)
          ∙ ap (λ c. nat_eq k b || c) same
          ∙ ap (λ f. nat_eq k b || leads_to spots b (moor k) f) up

  moves-host : (i : ℕ) → i < length d.ships → moves i ≡ true → (k : ℕ) × (moor i ≡ Ship k) × ((k ≡ b) ⊎ (moves k ≡ true))
  moves-host i ki goes = go (moor i) refl
    where
      go : (m : Moor) → moor i ≡ m → (k : ℕ) × (moor i ≡ Ship k) × ((k ≡ b) ⊎ (moves k ≡ true))
      go Quay e = absurd (false≢true (sym (ap (λ m. leads_to spots b m d.width) e) ∙ goes))
      go (Ship k) e = (k, e, elim (or_cases (nat_eq k b) (moves k) (sym (moves-step i k ki e) ∙ goes)) [ inl t ↦ inl (eqb-true k b t) | inr t ↦ inr t ])

  moves-rank : (f i : ℕ) → i < length d.ships → low i < f → moves i ≡ true → rank i ≡ rank b
  moves-rank zero i ki small goes = absurd (omega (arith, small))
  moves-rank (suc f) i ki small goes =
      let on = moves-host i ki goes in
      let at = low-host i on.0 ki on.1 in
      let same = (host-by d spots legal limits (rank i) i on.0 ki refl on.1).1 in
      elim on.2 [
        | inl is ↦ sym same ∙ ap rank is
        | inr g ↦ sym same ∙ moves-rank f on.0 at.0 (omega (arith, at.1, small)) g
      ]

  moved : (i : ℕ) → i < length d.ships → moves i ≡ true → (rank i ≡ rank b) × ((k : ℕ) × (moor i ≡ Ship k) × ((k ≡ b) ⊎ (moves k ≡ true)))
  moved i ki goes = (moves-rank (suc (low i)) i ki (omega arith) goes, moves-host i ki goes)

  stays : (i k : ℕ) → i < length d.ships → moves i ≡ false → moor i ≡ Ship k → (k ≢ b) × (moves k ≡ false)
  stays i k ki still e = let parts = or_parts (nat_eq k b) (moves k) (sym (moves-step i k ki e) ∙ still) in (eq-false k b parts.0, parts.1)

  abbrev pub put : ℕ → Spot
  put i = thin_spot d spots b (spot_at spots i)

  abbrev by : ℕ
  by = (size_at d b).width + d.side

  -- ---- the depth of a ship after the move, from the quay of rank b
  abbrev depth : Rank → ℕ → ℕ
  depth r i = depth_of d spots legal limits r i - cond (moves i) (width_of d spots legal limits b + d.side) 0

  still-y : (i : ℕ) → moves i ≡ false → (put i).y ≡ (spot_at spots i).y
  still-y i still = go (rank i) (ap (λ c. nearer (rank i) (spot_at spots i).y (cond c by 0)) still)
    where
      go : (r : Rank) → (put i).y ≡ nearer r (spot_at spots i).y 0 → (put i).y ≡ (spot_at spots i).y
      go Left e = omega (arith, e)
      go Right e = omega (arith, e)

  go-y : (r : Rank) (i : ℕ) → rank i ≡ r → moves i ≡ true → (put i).y ≡ nearer r (spot_at spots i).y by
  go-y r i e goes = ap (λ c. nearer (rank i) (spot_at spots i).y (cond c by 0)) goes ∙ ap (λ r. nearer r (spot_at spots i).y by) e

  module _ (own : Rank) (bare : rank b ≡ own) where
    moved-by : (i : ℕ) → i < length d.ships → moves i ≡ true → (rank i ≡ own) × ((k : ℕ) × (moor i ≡ Ship k) × ((k ≡ b) ⊎ (moves k ≡ true)))
    moved-by i ki goes = let m = moved i ki goes in (m.0 ∙ bare, m.1)

    high : (i : ℕ) → i < length d.ships → moves i ≡ true → depth_of d spots legal limits own b + (size_at d b).width + d.side ≤ depth_of d spots legal limits own i
    high i ki goes = above (length d.ships) (length_of d spots legal limits) (width_of d spots legal limits) (x_at d spots legal limits) (depth_of d spots legal limits own) (rank_at d spots legal limits) own (moor_at d spots legal limits) d.gap d.side (is-wide d spots legal limits) (apart-by d spots legal limits own) (quay-by d spots legal limits own) (host-by d spots legal limits own) b kb bare moves moved-by stays i ki goes

    abbrev IsApartDeep : ℕ → ℕ → Type 0
    IsApartDeep i j = ((spot_at spots i).x + (size_at d i).length + d.gap ≤ (spot_at spots j).x) ⊎ (((spot_at spots j).x + (size_at d j).length + d.gap ≤ (spot_at spots i).x) ⊎ ((depth own i + (size_at d i).width + d.side ≤ depth own j) ⊎ (depth own j + (size_at d j).width + d.side ≤ depth own i)))

    apart-deep : (i j : ℕ) → i < length d.ships → j < length d.ships → i ≢ j → i ≢ b → j ≢ b → IsApartDeep i j
    apart-deep = thin-apart (length d.ships) (length_of d spots legal limits) (width_of d spots legal limits) (x_at d spots legal limits) (depth_of d spots legal limits own) (rank_at d spots legal limits) own (moor_at d spots legal limits) d.gap d.side (is-wide d spots legal limits) (apart-by d spots legal limits own) (quay-by d spots legal limits own) (host-by d spots legal limits own) b kb bare moves moved-by stays

    host-deep : (i k : ℕ) → i < length d.ships → rank i ≡ own → moor i ≡ Ship k → k ≢ b → depth own i ≡ depth own k + (size_at d k).width + d.side
    host-deep = thin-host (length d.ships) (length_of d spots legal limits) (width_of d spots legal limits) (x_at d spots legal limits) (depth_of d spots legal limits own) (rank_at d spots legal limits) own (moor_at d spots legal limits) d.gap d.side (is-wide d spots legal limits) (apart-by d spots legal limits own) (quay-by d spots legal limits own) (host-by d spots legal limits own) b kb bare moves moved-by stays

    guest-deep : (i : ℕ) → i < length d.ships → rank i ≡ own → moor i ≡ Ship b → (depth own i ≡ depth_of d spots legal limits own b) × (moves i ≡ true)
    guest-deep = thin-guest (length d.ships) (length_of d spots legal limits) (width_of d spots legal limits) (x_at d spots legal limits) (depth_of d spots legal limits own) (rank_at d spots legal limits) own (moor_at d spots legal limits) d.gap d.side (is-wide d spots legal limits) (apart-by d spots legal limits own) (quay-by d spots legal limits own) (host-by d spots legal limits own) b kb bare moves moved-by stays

    host-of-b : (k : ℕ) → moor b ≡ Ship k → (k ≢ b) × (depth own k + (size_at d k).width + d.side ≡ depth_of d spots legal limits own b)
    host-of-b = host-stays (length d.ships) (length_of d spots legal limits) (width_of d spots legal limits) (x_at d spots legal limits) (depth_of d spots legal limits own) (rank_at d spots legal limits) own (moor_at d spots legal limits) d.gap d.side (is-wide d spots legal limits) (apart-by d spots legal limits own) (quay-by d spots legal limits own) (host-by d spots legal limits own) b kb bare moves moved-by stays

  -- y after the move, by the depth
  left-depth : (i : ℕ) → rank b ≡ Left → i < length d.ships → (put i).y ≡ depth Left i
  left-depth i bare ki = go (moves i) refl
    where
      go : (c : Bool) → moves i ≡ c → (put i).y ≡ depth Left i
      go true goes =
          let y = go-y Left i ((moved i ki goes).0 ∙ bare) goes in
          let e = ap (λ c. (spot_at spots i).y - cond c by 0) goes in
          omega (arith, y, e)
      go false goes =
          let y = still-y i goes in
          let e = ap (λ c. (spot_at spots i).y - cond c by 0) goes in
          omega (arith, y, e)

  right-depth : (i : ℕ) → rank b ≡ Right → i < length d.ships → (put i).y + (size_at d i).width + depth Right i ≡ d.width
  right-depth i bare ki = go (moves i) refl
    where
      go : (c : Bool) → moves i ≡ c → (put i).y + (size_at d i).width + depth Right i ≡ d.width
      go true goes =
          let y = go-y Right i ((moved i ki goes).0 ∙ bare) goes in
          let e = ap (λ c. (d.width - ((spot_at spots i).y + (size_at d i).width)) - cond c by 0) goes in
          let up = high Right bare i ki goes in
          let inside = (legal.inside i ki).2 in
          omega (arith, y, e, up, inside)
      go false goes =
          let y = still-y i goes in
          let e = ap (λ c. (d.width - ((spot_at spots i).y + (size_at d i).width)) - cond c by 0) goes in
          let inside = (legal.inside i ki).2 in
          omega (arith, y, e, inside)

  abbrev IsApart : ℕ → ℕ → Type 0
  IsApart i j = AreApart (thin_deck d b) (size_at d i) (put i) (size_at d j) (put j)

  apart-put : (r : Rank) (i j : ℕ) → rank b ≡ r → i < length d.ships → j < length d.ships → i ≢ j → i ≢ b → j ≢ b → IsApart i j
  apart-put Left i j bare ki kj differ ib jb = go (apart-deep Left bare i j ki kj differ ib jb)
    where
      go : IsApartDeep Left bare i j → IsApart i j
      go (inl a) = inl a
      go (inr (inl a)) = inr (inl a)
      go (inr (inr (inl a))) = let yi = left-depth i bare ki in let yj = left-depth j bare kj in inr (inr (inl (omega (arith, a, yi, yj))))
      go (inr (inr (inr a))) = let yi = left-depth i bare ki in let yj = left-depth j bare kj in inr (inr (inr (omega (arith, a, yi, yj))))
  apart-put Right i j bare ki kj differ ib jb = go (apart-deep Right bare i j ki kj differ ib jb)
    where
      go : IsApartDeep Right bare i j → IsApart i j
      go (inl a) = inl a
      go (inr (inl a)) = inr (inl a)
      go (inr (inr (inl a))) = let yi = right-depth i bare ki in let yj = right-depth j bare kj in inr (inr (inr (omega (arith, a, yi, yj))))
      go (inr (inr (inr a))) = let yi = right-depth i bare ki in let yj = right-depth j bare kj in inr (inr (inl (omega (arith, a, yi, yj))))

  inside-put : (r : Rank) (i : ℕ) → rank b ≡ r → i < length d.ships → IsInside (thin_deck d b) (size_at d i) (put i)
  inside-put Left i bare ki =
      let old = legal.inside i ki in
      let y = left-depth i bare ki in
      (old.0, old.1, omega (arith, old.2, y))
  inside-put Right i bare ki =
      let old = legal.inside i ki in
      let y = right-depth i bare ki in
      (old.0, old.1, omega (arith, y))

  -- ---- moorings

  still-quay : (i : ℕ) → moor i ≡ Quay → moves i ≡ false
  still-quay i e = ap (λ m. leads_to spots b m d.width) e

  same-quay : (r : Rank) (i : ℕ) → (put i).y ≡ (spot_at spots i).y → IsAtQuay d (size_at d i) (spot_at spots i) r → IsAtQuay (thin_deck d b) (size_at d i) (put i) r
  same-quay Left i y h = omega (arith, y, h)
  same-quay Right i y h = omega (arith, y, h)

  same-side : (r : Rank) (i k : ℕ) → (put i).y ≡ (spot_at spots i).y → (put k).y ≡ (spot_at spots k).y → IsAtSide d (size_at d i) (spot_at spots i) (size_at d k) (spot_at spots k) r → IsAtSide (thin_deck d b) (size_at d i) (put i) (size_at d k) (put k) r
  same-side Left i k yi yk h = omega (arith, yi, yk, h)
  same-side Right i k yi yk h = omega (arith, yi, yk, h)

  deep-quay : (r : Rank) (i : ℕ) → rank b ≡ r → i < length d.ships → depth r i ≡ 0 → IsAtQuay (thin_deck d b) (size_at d i) (put i) r
  deep-quay Left i bare ki h = let y = left-depth i bare ki in omega (arith, y, h)
  deep-quay Right i bare ki h = let y = right-depth i bare ki in omega (arith, y, h)

  deep-side : (r : Rank) (i k : ℕ) → rank b ≡ r → i < length d.ships → k < length d.ships → depth r i ≡ depth r k + (size_at d k).width + d.side → IsAtSide (thin_deck d b) (size_at d i) (put i) (size_at d k) (put k) r
  deep-side Left i k bare ki kk h = let yi = left-depth i bare ki in let yk = left-depth k bare kk in omega (arith, yi, yk, h)
  deep-side Right i k bare ki kk h = let yi = right-depth i bare ki in let yk = right-depth k bare kk in omega (arith, yi, yk, h)

  still-other : (i : ℕ) → i < length d.ships → rank i ≢ rank b → moves i ≡ false
  still-other i ki other = go (moves i) refl
    where
      go : (c : Bool) → moves i ≡ c → c ≡ false
      go true goes = absurd (other (moved i ki goes).0)
      go false goes = refl

  -- a guest whose host isn't b keeps it
  kept-host : (i k : ℕ) → i < length d.ships → moor i ≡ Ship k → k ≢ b → IsAtHost (thin_deck d b) (size_at d i) (put i) (size_at d k) (put k)
  kept-host i k ki e other =
      let old = is-moored d spots legal limits i (Ship k) ki e in
      record {
        rank = old.2.rank;
        near = old.2.near;
        far = old.2.far;
        beside = elim (rank-tells (rank i) (rank b)) [
          | inl same ↦ deep-side (rank i) i k (sym same) ki old.0 (host-deep (rank i) (sym same) i k ki refl e other)
          | inr differ ↦ same-side (rank i) i k (still-y i (still-other i ki differ)) (still-y k (still-other k old.0 (λ s. differ (sym old.2.rank ∙ s)))) old.2.beside
        ];
      }

  -- a guest of b takes the host of b
  next-host : (i k : ℕ) → i < length d.ships → moor i ≡ Ship b → moor b ≡ Ship k → (k < length d.ships) × (k ≢ b) × (k ≢ i) × IsAtHost (thin_deck d b) (size_at d i) (put i) (size_at d k) (put k)
  next-host i k ki e f =
      let old = is-moored d spots legal limits i (Ship b) ki e in
      let on = is-moored d spots legal limits b (Ship k) kb f in
      let near = old.2.near in
      let far = old.2.far in
      let near' = on.2.near in
      let far' = on.2.far in
      let guest = guest-deep (rank i) old.2.rank i ki refl e in
      let below = host-of-b (rank i) old.2.rank k f in
      let less = (low-host i b ki e).1 in
      let less' = (low-host b k kb f).1 in (
        on.0,
        on.1,
        (λ s. let same = ap low s in omega (arith, same, less, less')),
        record { rank = on.2.rank ∙ old.2.rank; near = omega (arith, near, near'); far = omega (arith, far, far'); beside = deep-side (rank i) i k old.2.rank ki on.0 (let g = guest.0 in let h = below.1 in omega (arith, g, h)) },
      )

  -- or lies at the quay where b lay there
  next-quay : (i : ℕ) → i < length d.ships → moor i ≡ Ship b → moor b ≡ Quay → IsAtQuay (thin_deck d b) (size_at d i) (put i) (rank i)
  next-quay i ki e f =
      let old = is-moored d spots legal limits i (Ship b) ki e in
      let guest = (guest-deep (rank i) old.2.rank i ki refl e).0 in
      let at = quay-by d spots legal limits (rank i) b kb old.2.rank f in
      deep-quay (rank i) i old.2.rank ki (omega (arith, guest, at))

  kept-quay : (i : ℕ) → i < length d.ships → moor i ≡ Quay → IsAtQuay (thin_deck d b) (size_at d i) (put i) (rank i)
  kept-quay i ki e = same-quay (rank i) i (still-y i (still-quay i e)) (is-moored d spots legal limits i Quay ki e)

  -- ---- the lists
  abbrev after : List Spot
  after = thin_spots d spots b

  fewer : length (remove d.ships b) + 1 ≡ length d.ships
  fewer = length-remove d.ships b kb

  size-after : (j : ℕ) → size_at (thin_deck d b) j ≡ size_at d (raised b j)
  size-after j = removed-at d.ships b j no_size kb

  spot-after : (j : ℕ) → j < length (remove d.ships b) → spot_at after j ≡ put (raised b j)
  spot-after j kj =
      let counts = legal.count in
      let count = length-remove spots b (omega (arith, kb, counts)) in
      let less = fewer in
      get_or-map (thin_spot d spots b) (remove spots b) j (record { x = 0; y = 0; rank = Left; moor = Quay }) (record { x = 0; y = 0; rank = Left; moor = Quay }) (omega (arith, kj, count, less, counts))
      ∙ ap (thin_spot d spots b) (removed-at spots b j (record { x = 0; y = 0; rank = Left; moor = Quay }) (omega (arith, kb, counts)))

  known-after : (j : ℕ) → j < length (remove d.ships b) → raised b j < length d.ships
  known-after j kj = let less = fewer in raised-known b j (length d.ships) kb (omega (arith, kj, less))

  quay-after : (j : ℕ) → j < length (remove d.ships b) → IsAtQuay (thin_deck d b) (size_at d (raised b j)) (put (raised b j)) (rank (raised b j)) → IsMoored (thin_deck d b) after j Quay
  quay-after j kj h =
      subst (λ s. IsAtQuay (thin_deck d b) s (spot_at after j) (spot_at after j).rank) (sym (size-after j))
      (subst (λ p. IsAtQuay (thin_deck d b) (size_at d (raised b j)) p p.rank) (sym (spot-after j kj)) h)

  host-after : (j k : ℕ) → j < length (remove d.ships b) → k < length d.ships → k ≢ b → k ≢ raised b j → IsAtHost (thin_deck d b) (size_at d (raised b j)) (put (raised b j)) (size_at d k) (put k) → IsMoored (thin_deck d b) after j (Ship (fallen b k))
  host-after j k kj kk other differ h =
      let less = fewer in
      let small = fallen-known b k (length d.ships) kk other kb in
      let kf : fallen b k < length (remove d.ships b) = omega (arith, small, less) in
      let back = raised-fallen b k other in (
        kf,
        (λ s. differ (sym back ∙ ap (raised b) s)),
        subst (λ s. IsAtHost (thin_deck d b) s (spot_at after j) (size_at (thin_deck d b) (fallen b k)) (spot_at after (fallen b k))) (sym (size-after j))
            (subst (λ p. IsAtHost (thin_deck d b) (size_at d (raised b j)) p (size_at (thin_deck d b) (fallen b k)) (spot_at after (fallen b k))) (sym (spot-after j kj))
            (subst (λ s. IsAtHost (thin_deck d b) (size_at d (raised b j)) (put (raised b j)) s (spot_at after (fallen b k))) (sym (size-after (fallen b k) ∙ ap (size_at d) back))
            (subst (λ q. IsAtHost (thin_deck d b) (size_at d (raised b j)) (put (raised b j)) (size_at d k) q) (sym (spot-after (fallen b k) kf ∙ ap put back)) h))),
      )

  guest-after : (j : ℕ) (m : Moor) → j < length (remove d.ships b) → moor (raised b j) ≡ Ship b → moor b ≡ m → IsMoored (thin_deck d b) after j (fallen_moor b m)
  guest-after j Quay kj e f = quay-after j kj (next-quay (raised b j) (known-after j kj) e f)
  guest-after j (Ship k) kj e f = let next = next-host (raised b j) k (known-after j kj) e f in host-after j k kj next.0 next.1 next.2 next.3

  moored-after : (j : ℕ) (m : Moor) → j < length (remove d.ships b) → moor (raised b j) ≡ m → IsMoored (thin_deck d b) after j (moor_without spots b m)
  moored-after j Quay kj e = quay-after j kj (kept-quay (raised b j) (known-after j kj) e)
  moored-after j (Ship k) kj e =
      elim (eqb_tells k b) [
        | inl y ↦ subst (λ c. IsMoored (thin_deck d b) after j (cond c (fallen_moor b (moor b)) (Ship (fallen b k)))) (sym y.0) (guest-after j (moor b) kj (e ∙ ap Ship y.1) refl)
        | inr n ↦
            let old = is-moored d spots legal limits (raised b j) (Ship k) (known-after j kj) e in
            subst (λ c. IsMoored (thin_deck d b) after j (cond c (fallen_moor b (moor b)) (Ship (fallen b k)))) (sym n.0)
            (host-after j k kj old.0 n.1 old.1 (kept-host (raised b j) k (known-after j kj) e n.1))
      ]

  -- THE PLACEMENT IS LEGAL without ship b
  pub thin-legal : IsLegalPlacement (thin_deck d b) (thin_spots d spots b)
  thin-legal = record {
    count = (let counts = legal.count in let count = length-remove spots b (omega (arith, kb, counts)) in let less = fewer in let same = length-map (remove spots b) (thin_spot d spots b) in omega (arith, counts, count, less, same));
    inside = λ j kj.
        subst (λ s. IsInside (thin_deck d b) s (spot_at after j)) (sym (size-after j))
        (subst (λ p. IsInside (thin_deck d b) (size_at d (raised b j)) p) (sym (spot-after j kj)) (inside-put (rank b) (raised b j) refl (known-after j kj)));
    apart = λ j kj. record {
      later = λ k less kk.
          subst (λ s. AreApart (thin_deck d b) s (spot_at after j) (size_at (thin_deck d b) k) (spot_at after k)) (sym (size-after j))
          (subst (λ p. AreApart (thin_deck d b) (size_at d (raised b j)) p (size_at (thin_deck d b) k) (spot_at after k)) (sym (spot-after j kj))
          (subst (λ s. AreApart (thin_deck d b) (size_at d (raised b j)) (put (raised b j)) s (spot_at after k)) (sym (size-after k))
          (subst (λ q. AreApart (thin_deck d b) (size_at d (raised b j)) (put (raised b j)) (size_at d (raised b k)) q) (sym (spot-after k kk))
          (apart-put (rank b) (raised b j) (raised b k) refl (known-after j kj) (known-after k kk) (λ s. let same = raised-same b j k s in omega (arith, same, less)) (raised-other b j) (raised-other b k)))));
    };
    berthed = λ j kj. subst (λ p. IsMoored (thin_deck d b) after j p.moor) (sym (spot-after j kj)) (moored-after j (moor (raised b j)) kj refl);
  }
