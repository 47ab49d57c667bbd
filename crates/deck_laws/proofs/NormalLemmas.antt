-- Every legal placement gives a normal one: the ships that aren't known to be anchored move together, by the least slack.
use Rattle.std.proofs.Common.{◌≡◌, ◌≢◌, ℕ, zero, suc, ◌+◌, ◌-◌, ◌<◌, ◌≤◌, List, [], ◌∷◌, length, cond, Bool, true, false, ◌||◌, ◌⊎◌, inl, inr, refl, sym, ap, ◌∙◌, subst, arith, nat_eq, true≢false}
use Rattle.std.proofs.lemmas.Bool.{cases_Bool}
use Rattle.std.proofs.lemmas.Bool.Decides.{eqb_tells, leb_tells}
use Rattle.lock_model.specs.Deck.{Deck, IsDeck, size_at}
use Rattle.lock_model.specs.Placement.{IsLegalPlacement, IsMoored, IsAtQuay, IsAtSide, AreApart, IsInside, spot_at}
use Rattle.lock_model.specs.Normal.{IsHeldBy, IsAnchoredIn, IsNormal}
use Rattle.lock_model.specs.declared.placement.Spot.{Spot}
use Rattle.lock_model.specs.declared.placement.Rank.{Rank}
use Rattle.lock_model.specs.declared.placement.Rank.TheVariants.{Left, Right}
use Rattle.lock_model.specs.declared.placement.Moor.{Moor}
use Rattle.lock_model.specs.declared.placement.Moor.TheVariants.{Quay, Ship}
use Rattle.deck_laws.specs.Slack.{Keeps, HasRoom, IsTightBy, IsTight, IsLeastSlack}
use Rattle.deck_laws.specs.Shift.{shifted, shift_from, IsNoFarther, AreNoFarther}
use Rattle.deck_laws.specs.Rounds.{IsRootedIn, IsRooted, AreRooted, with_done, free_count}
use Rattle.lock_model.specs.Normal.{HasNormal}
use Rattle.deck_laws.proofs.PlacementLemmas.{is-moored, are-apart}

-- each below n has P, or one has Q
pub all-or : (P Q : ℕ → Type 0) (n : ℕ) → ((i : ℕ) → i < n → P i ⊎ Q i) → ((i : ℕ) → i < n → P i) ⊎ ((i : ℕ) × (i < n) × Q i)
all-or P Q zero f = inl (λ i h. absurd (omega (arith, h)))
all-or P Q (suc n) f =
    elim (all-or P Q n (λ i h. f i (omega (arith, h)))) [
      | inr found ↦ inr (found.0, omega (arith, found.1), found.2)
      | inl all ↦ elim (f n (omega arith)) [
        | inr q ↦ inr (n, omega arith, q)
        | inl p ↦ inl (λ i h. elim (eqb_tells i n) [ inl y ↦ subst P (sym y.1) p | inr d ↦ all i (omega (arith, h, d.1)) ])
      ]
    ]

-- the spot of ship i after the move
shift-at : (done : ℕ → Bool) (s k i : ℕ) (spots : List Spot) → i < length spots → spot_at (shift_from done s k spots) i ≡ shifted (done (k + i)) s (spot_at spots i)
shift-at done s k i [] h = absurd (omega (arith, h))
shift-at done s k zero (p ∷ ps) h = let e : k ≡ k + 0 = omega arith in ap (λ j. shifted (done j) s p) e
shift-at done s k (suc i) (p ∷ ps) h =
    let e : suc k + i ≡ k + suc i = omega arith in
    shift-at done s (suc k) i ps (omega (arith, h)) ∙ ap (λ j. shifted (done j) s (spot_at ps i)) e

pub shift-length : (done : ℕ → Bool) (s k : ℕ) (spots : List Spot) → length (shift_from done s k spots) ≡ length spots
shift-length done s k [] = refl
shift-length done s k (p ∷ ps) = let rest = shift-length done s (suc k) ps in omega (arith, rest)

-- ---- one move
module _ (d : Deck) (spots : List Spot) (legal : IsLegalPlacement d spots) (limits : IsDeck d) (done : ℕ → Bool) (ship s : ℕ) (least : IsLeastSlack d spots done ship s) where
  abbrev pub after : List Spot
  after = shift_from done s 0 spots

  abbrev length_of : ℕ → ℕ
  length_of i = (size_at d i).length

  pub at : (i : ℕ) → i < length d.ships → spot_at after i ≡ shifted (done i) s (spot_at spots i)
  at i ki = let counts = legal.count in let e : 0 + i ≡ i = omega arith in shift-at done s 0 i spots (omega (arith, ki, counts)) ∙ ap (λ j. shifted (done j) s (spot_at spots i)) e

  same-y : (i : ℕ) → i < length d.ships → (spot_at after i).y ≡ (spot_at spots i).y
  same-y i ki = ap (λ (p : Spot). p.y) (at i ki)

  same-rank : (i : ℕ) → i < length d.ships → (spot_at after i).rank ≡ (spot_at spots i).rank
  same-rank i ki = ap (λ (p : Spot). p.rank) (at i ki)

  same-moor : (i : ℕ) → i < length d.ships → (spot_at after i).moor ≡ (spot_at spots i).moor
  same-moor i ki = ap (λ (p : Spot). p.moor) (at i ki)

  done-x : (i : ℕ) → i < length d.ships → done i ≡ true → (spot_at after i).x ≡ (spot_at spots i).x
  done-x i ki e = ap (λ (p : Spot). p.x) (at i ki) ∙ ap (λ c. cond c (spot_at spots i).x ((spot_at spots i).x - s)) e

  free-x : (i : ℕ) → i < length d.ships → done i ≡ false → (spot_at after i).x + s ≡ (spot_at spots i).x
  free-x i ki e =
      let x = ap (λ (p : Spot). p.x) (at i ki) ∙ ap (λ c. cond c (spot_at spots i).x ((spot_at spots i).x - s)) e in
      let room = (least.room i ki e).end in
      omega (arith, x, room)

  -- a ship is done, or it moves
  abbrev IsSettled : ℕ → Type 0
  IsSettled i = ((done i ≡ true) × ((spot_at after i).x ≡ (spot_at spots i).x)) ⊎ ((done i ≡ false) × ((spot_at after i).x + s ≡ (spot_at spots i).x))

  settled : (i : ℕ) → i < length d.ships → IsSettled i
  settled i ki = go (done i) refl
    where
      go : (c : Bool) → done i ≡ c → IsSettled i
      go true e = inl (e, done-x i ki e)
      go false e = inr (e, free-x i ki e)

  inside-after : (i : ℕ) → i < length d.ships → IsInside d (size_at d i) (spot_at after i)
  inside-after i ki =
      let old = legal.inside i ki in
      let y = same-y i ki in
      elim (settled i ki) [
        | inl h ↦ (omega (arith, h.1, old.0), omega (arith, h.1, old.1), omega (arith, y, old.2))
        | inr h ↦ let room = (least.room i ki h.0).end in (omega (arith, h.1, room), omega (arith, h.1, old.1), omega (arith, y, old.2))
      ]

  abbrev IsApart : ℕ → ℕ → Type 0
  IsApart i j = AreApart d (size_at d i) (spot_at after i) (size_at d j) (spot_at after j)

  turned : (i j : ℕ) → IsApart i j → IsApart j i
  turned i j (inl a) = inr (inl a)
  turned i j (inr (inl a)) = inl a
  turned i j (inr (inr (inl a))) = inr (inr (inr a))
  turned i j (inr (inr (inr a))) = inr (inr (inl a))

  -- both stay or both move
  alike : (i j e : ℕ) → i < length d.ships → j < length d.ships → i ≢ j → (spot_at after i).x + e ≡ (spot_at spots i).x → (spot_at after j).x + e ≡ (spot_at spots j).x → IsApart i j
  alike i j e ki kj differ xi xj = go (are-apart d spots legal limits i j ki kj differ)
    where
      go : AreApart d (size_at d i) (spot_at spots i) (size_at d j) (spot_at spots j) → IsApart i j
      go (inl a) = inl (omega (arith, a, xi, xj))
      go (inr (inl a)) = inr (inl (omega (arith, a, xi, xj)))
      go (inr (inr (inl a))) = let yi = same-y i ki in let yj = same-y j kj in inr (inr (inl (omega (arith, a, yi, yj))))
      go (inr (inr (inr a))) = let yi = same-y i ki in let yj = same-y j kj in inr (inr (inr (omega (arith, a, yi, yj))))

  -- i moves, j stays
  mixed : (i j : ℕ) → i < length d.ships → j < length d.ships → i ≢ j → done i ≡ false → done j ≡ true → IsApart i j
  mixed i j ki kj differ fi dj = go (are-apart d spots legal limits i j ki kj differ)
    where
      go : AreApart d (size_at d i) (spot_at spots i) (size_at d j) (spot_at spots j) → IsApart i j
      go (inl a) = let xi = free-x i ki fi in let xj = done-x j kj dj in inl (omega (arith, a, xi, xj))
      go (inr (inl a)) =
          let xi = free-x i ki fi in
          let xj = done-x j kj dj in
          let room = ((least.room i ki fi).others j kj dj).behind a in
          inr (inl (omega (arith, room, xi, xj)))
      go (inr (inr (inl a))) = let yi = same-y i ki in let yj = same-y j kj in inr (inr (inl (omega (arith, a, yi, yj))))
      go (inr (inr (inr a))) = let yi = same-y i ki in let yj = same-y j kj in inr (inr (inr (omega (arith, a, yi, yj))))

  apart-after : (i j : ℕ) → i < length d.ships → j < length d.ships → i ≢ j → IsApart i j
  apart-after i j ki kj differ =
      elim (settled i ki) [
        | inl h ↦ elim (settled j kj) [
          | inl g ↦ alike i j 0 ki kj differ (omega (arith, h.1)) (omega (arith, g.1))
          | inr g ↦ turned j i (mixed j i kj ki (λ t. differ (sym t)) g.0 h.0)
        ]
        | inr h ↦ elim (settled j kj) [
          | inl g ↦ mixed i j ki kj differ h.0 g.0
          | inr g ↦ alike i j s ki kj differ h.1 g.1
        ]
      ]

  quay-after : (r : Rank) (i : ℕ) → i < length d.ships → IsAtQuay d (size_at d i) (spot_at spots i) r → IsAtQuay d (size_at d i) (spot_at after i) r
  quay-after Left i ki h = let y = same-y i ki in omega (arith, y, h)
  quay-after Right i ki h = let y = same-y i ki in omega (arith, y, h)

  side-after : (r : Rank) (i k : ℕ) → i < length d.ships → k < length d.ships → IsAtSide d (size_at d i) (spot_at spots i) (size_at d k) (spot_at spots k) r → IsAtSide d (size_at d i) (spot_at after i) (size_at d k) (spot_at after k) r
  side-after Left i k ki kk h = let yi = same-y i ki in let yk = same-y k kk in omega (arith, yi, yk, h)
  side-after Right i k ki kk h = let yi = same-y i ki in let yk = same-y k kk in omega (arith, yi, yk, h)

  -- along the chamber a guest stays within its host
  within : (i k : ℕ) → i < length d.ships → k < length d.ships → (spot_at spots i).moor ≡ Ship k → (spot_at spots k).x ≤ (spot_at spots i).x → (spot_at spots i).x + length_of i ≤ (spot_at spots k).x + length_of k → ((spot_at after k).x ≤ (spot_at after i).x) × ((spot_at after i).x + length_of i ≤ (spot_at after k).x + length_of k)
  within i k ki kk e near far =
      elim (settled i ki) [
        | inl h ↦ elim (settled k kk) [
          | inl g ↦ (omega (arith, near, h.1, g.1), omega (arith, far, h.1, g.1))
          | inr g ↦ let room = ((least.room k kk g.0).others i ki h.0).guest e in (omega (arith, near, h.1, g.1), omega (arith, room, h.1, g.1))
        ]
        | inr h ↦ elim (settled k kk) [
          | inl g ↦ let room = ((least.room i ki h.0).others k kk g.0).host e in (omega (arith, room, h.1, g.1), omega (arith, far, h.1, g.1))
          | inr g ↦ (omega (arith, near, h.1, g.1), omega (arith, far, h.1, g.1))
        ]
      ]

  moored-after : (i : ℕ) (m : Moor) → i < length d.ships → (spot_at spots i).moor ≡ m → IsMoored d after i m
  moored-after i Quay ki e = subst (IsAtQuay d (size_at d i) (spot_at after i)) (sym (same-rank i ki)) (quay-after (spot_at spots i).rank i ki (is-moored d spots legal limits i Quay ki e))
  moored-after i (Ship k) ki e =
      let old = is-moored d spots legal limits i (Ship k) ki e in
      let along = within i k ki old.0 e old.2.near old.2.far in (
        old.0,
        old.1,
        record {
          rank = same-rank k old.0 ∙ old.2.rank ∙ sym (same-rank i ki);
          near = along.0;
          far = along.1;
          beside = subst (IsAtSide d (size_at d i) (spot_at after i) (size_at d k) (spot_at after k)) (sym (same-rank i ki)) (side-after (spot_at spots i).rank i k ki old.0 old.2.beside);
        },
      )

  -- THE MOVE KEEPS THE PLACEMENT LEGAL
  pub move-legal : IsLegalPlacement d after
  move-legal = record {
    count = shift-length done s 0 spots ∙ legal.count;
    inside = inside-after;
    apart = λ i ki. record { later = λ j less kj. apart-after i j ki kj (λ t. omega (arith, t, less)) };
    berthed = λ i ki. subst (IsMoored d after i) (sym (same-moor i ki)) (moored-after i (spot_at spots i).moor ki refl);
  }

  pub move-back : AreNoFarther spots after
  move-back = record {
    count = shift-length done s 0 spots;
    each = λ i here.
        let counts = legal.count in
        let ki : i < length d.ships = omega (arith, here, counts) in
        record {
          x = elim (settled i ki) [ inl h ↦ omega (arith, h.1) | inr h ↦ omega (arith, h.1) ];
          y = same-y i ki;
          rank = same-rank i ki;
          moor = same-moor i ki;
        };
  }

  -- ---- anchors after the move
  abbrev more : ℕ → Bool
  more = with_done ship done

  still-done : (i : ℕ) → done i ≡ true → more i ≡ true
  still-done i e = go (nat_eq i ship)
    where
      go : (c : Bool) → (c || done i) ≡ true
      go true = refl
      go false = e

  ship-done : more ship ≡ true
  ship-done = elim (eqb_tells ship ship) [ inl y ↦ ap (λ c. c || done ship) y.0 | inr n ↦ absurd (n.1 refl) ]

  rooted-done : (k i : ℕ) → IsRootedIn d spots done k i → done i ≡ true
  rooted-done zero i h = h.0
  rooted-done (suc k) i h = h.0

  held-after : (i j : ℕ) → i < length d.ships → j < length d.ships → done i ≡ true → done j ≡ true → IsHeldBy d spots i j → IsHeldBy d after i j
  held-after i j ki kj di dj (inl e) = let xi = done-x i ki di in let xj = done-x j kj dj in inl (omega (arith, e, xi, xj))
  held-after i j ki kj di dj (inr (inl e)) = let xi = done-x i ki di in let xj = done-x j kj dj in let x = e.1 in inr (inl (same-moor i ki ∙ e.0, omega (arith, x, xi, xj)))
  held-after i j ki kj di dj (inr (inr e)) = let xi = done-x i ki di in let xj = done-x j kj dj in let x = e.1 in inr (inr (same-moor j kj ∙ e.0, omega (arith, x, xi, xj)))

  rooted-after : (k i : ℕ) → i < length d.ships → IsRootedIn d spots done k i → IsRootedIn d after more k i
  rooted-after zero i ki h = let x = done-x i ki h.0 in let e = h.1 in (still-done i h.0, omega (arith, x, e))
  rooted-after (suc k) i ki h =
      (still-done i h.0, (h.1.0, h.1.1, rooted-after k h.1.0 h.1.1 h.1.2, held-after i h.1.0 ki h.1.1 h.0 (rooted-done k h.1.0 h.1.2) h.1.3))

  tight-held : (j : ℕ) → j < length d.ships → done j ≡ true → IsTightBy d spots ship j s → IsHeldBy d after ship j
  tight-held j kj dj (inl e) = let xi = free-x ship least.known least.free in let xj = done-x j kj dj in inl (omega (arith, e, xi, xj))
  tight-held j kj dj (inr (inl e)) = let xi = free-x ship least.known least.free in let xj = done-x j kj dj in let x = e.1 in inr (inl (same-moor ship least.known ∙ e.0, omega (arith, x, xi, xj)))
  tight-held j kj dj (inr (inr e)) = let xi = free-x ship least.known least.free in let xj = done-x j kj dj in let x = e.1 in inr (inr (same-moor j kj ∙ e.0, omega (arith, x, xi, xj)))

  -- the ship with the least slack is anchored by the move
  ship-rooted : AreRooted d spots done → IsRooted d after more ship
  ship-rooted old = go least.tight
    where
      go : IsTight d spots done ship s → IsRooted d after more ship
      go (inl e) = let x = free-x ship least.known least.free in (0, (ship-done, omega (arith, e, x)))
      go (inr h) =
          let root = old.rooted h.0 h.1 h.2 in
          (suc root.0, (ship-done, (h.0, h.1, rooted-after root.0 h.0 h.1 root.1, tight-held h.0 h.1 h.2 h.3)))

  -- THE MOVE ANCHORS ONE SHIP MORE, and those that were stay so
  pub move-rooted : AreRooted d spots done → AreRooted d after more
  move-rooted old = record {
    rooted = λ i ki e.
        elim (eqb_tells i ship) [
          | inl y ↦ subst (IsRooted d after more) (sym y.1) (ship-rooted old)
          | inr n ↦ let root = old.rooted i ki (sym (ap (λ c. c || done i) n.0) ∙ e) in (root.0, rooted-after root.0 i ki root.1)
        ];
  }

-- ---- the least slack
moor-tells : (m : Moor) (j : ℕ) → (m ≡ Ship j) ⊎ (m ≢ Ship j)
moor-tells Quay j = inr quay-ship
  where
    quay-ship : Quay ≡ Ship j → ⊥
    quay-ship e = cc
moor-tells (Ship k) j = elim (eqb_tells k j) [ inl y ↦ inl (ap Ship y.1) | inr n ↦ inr (λ e. n.1 (ship-same k j e)) ]
  where
    ship-same : (k j : ℕ) → Ship k ≡ Ship j → k ≡ j
    ship-same k j e = cc

module _ (d : Deck) (spots : List Spot) (legal : IsLegalPlacement d spots) (limits : IsDeck d) (done : ℕ → Bool) where
  abbrev long : ℕ → ℕ
  long i = (size_at d i).length

  -- a slack below s against j
  abbrev IsLessBy : ℕ → ℕ → ℕ → Type 0
  IsLessBy i j s = (t : ℕ) × (t < s) × IsTightBy d spots i j t

  behind-or : (i j s : ℕ) → ((spot_at spots j).x + long j + d.gap ≤ (spot_at spots i).x → (spot_at spots j).x + long j + d.gap + s ≤ (spot_at spots i).x) ⊎ IsLessBy i j s
  behind-or i j s =
      elim (leb_tells ((spot_at spots j).x + long j + d.gap) (spot_at spots i).x) [
        | inr n ↦ inl (λ h. absurd (omega (arith, h, n.1)))
        | inl y ↦ elim (leb_tells ((spot_at spots j).x + long j + d.gap + s) (spot_at spots i).x) [
          | inl z ↦ inl (λ h. z.1)
          | inr m ↦ inr ((spot_at spots i).x - ((spot_at spots j).x + long j + d.gap), omega (arith, y.1, m.1), inl (omega (arith, y.1)))
        ]
      ]

  host-or : (i j s : ℕ) → i < length d.ships → ((spot_at spots i).moor ≡ Ship j → (spot_at spots j).x + s ≤ (spot_at spots i).x) ⊎ IsLessBy i j s
  host-or i j s ki =
      elim (moor-tells (spot_at spots i).moor j) [
        | inr n ↦ inl (λ e. absurd (n e))
        | inl e ↦
            let near = (is-moored d spots legal limits i (Ship j) ki e).2.near in
            elim (leb_tells ((spot_at spots j).x + s) (spot_at spots i).x) [
              | inl z ↦ inl (λ h. z.1)
              | inr m ↦ inr ((spot_at spots i).x - (spot_at spots j).x, omega (arith, near, m.1), inr (inl (e, omega (arith, near))))
            ]
      ]

  guest-or : (i j s : ℕ) → j < length d.ships → ((spot_at spots j).moor ≡ Ship i → (spot_at spots j).x + long j + s ≤ (spot_at spots i).x + long i) ⊎ IsLessBy i j s
  guest-or i j s kj =
      elim (moor-tells (spot_at spots j).moor i) [
        | inr n ↦ inl (λ e. absurd (n e))
        | inl e ↦
            let far = (is-moored d spots legal limits j (Ship i) kj e).2.far in
            elim (leb_tells ((spot_at spots j).x + long j + s) ((spot_at spots i).x + long i)) [
              | inl z ↦ inl (λ h. z.1)
              | inr m ↦ inr (((spot_at spots i).x + long i) - ((spot_at spots j).x + long j), omega (arith, far, m.1), inr (inr (e, omega (arith, far))))
            ]
      ]

  keeps-or : (i j s : ℕ) → i < length d.ships → j < length d.ships → Keeps d spots i j s ⊎ IsLessBy i j s
  keeps-or i j s ki kj =
      elim (behind-or i j s) [
        | inr less ↦ inr less
        | inl behind ↦ elim (host-or i j s ki) [
          | inr less ↦ inr less
          | inl host ↦ elim (guest-or i j s kj) [ inr less ↦ inr less | inl guest ↦ inl (record { behind = behind; host = host; guest = guest }) ]
        ]
      ]

  abbrev IsLess : ℕ → ℕ → Type 0
  IsLess i s = (t : ℕ) × (t < s) × IsTight d spots done i t

  other-or : (i s j : ℕ) → i < length d.ships → j < length d.ships → (done j ≡ true → Keeps d spots i j s) ⊎ ((done j ≡ true) × IsLessBy i j s)
  other-or i s j ki kj =
      elim (cases_Bool (done j)) [
        | inr f ↦ inl (λ e. absurd (true≢false (sym e ∙ f)))
        | inl e ↦ elim (keeps-or i j s ki kj) [ inl k ↦ inl (λ h. k) | inr less ↦ inr (e, less) ]
      ]

  room-or : (i s : ℕ) → i < length d.ships → HasRoom d spots done i s ⊎ IsLess i s
  room-or i s ki =
      let inside = (legal.inside i ki).0 in
      elim (leb_tells (d.end + s) (spot_at spots i).x) [
        | inr n ↦ inr ((spot_at spots i).x - d.end, omega (arith, inside, n.1), inl (omega (arith, inside)))
        | inl y ↦ elim (all-or (λ j. done j ≡ true → Keeps d spots i j s) (λ j. (done j ≡ true) × IsLessBy i j s) (length d.ships) (λ j kj. other-or i s j ki kj)) [
          | inl all ↦ inl (record { end = y.1; others = all })
          | inr found ↦ inr (found.2.1.0, found.2.1.1, inr (found.0, found.1, found.2.0, found.2.1.2))
        ]
      ]

  free-or : (i s : ℕ) → i < length d.ships → (done i ≡ false → HasRoom d spots done i s) ⊎ ((done i ≡ false) × IsLess i s)
  free-or i s ki =
      elim (cases_Bool (done i)) [
        | inl e ↦ inl (λ f. absurd (true≢false (sym e ∙ f)))
        | inr f ↦ elim (room-or i s ki) [ inl r ↦ inl (λ h. r) | inr less ↦ inr (f, less) ]
      ]

  abbrev HasLeast : Type 0
  HasLeast = (ship : ℕ) × (s : ℕ) × IsLeastSlack d spots done ship s

  least-below : (fuel ship s : ℕ) → s < fuel → ship < length d.ships → done ship ≡ false → IsTight d spots done ship s → HasLeast
  least-below zero ship s small known free tight = absurd (omega (arith, small))
  least-below (suc fuel) ship s small known free tight =
      elim (all-or (λ i. done i ≡ false → HasRoom d spots done i s) (λ i. (done i ≡ false) × IsLess i s) (length d.ships) (λ i ki. free-or i s ki)) [
        | inl room ↦ (ship, s, record { room = room; known = known; free = free; tight = tight })
        | inr found ↦ let less = found.2.1.1 in least-below fuel found.0 found.2.1.0 (omega (arith, small, less)) found.1 found.2.0 found.2.1.2
      ]

  -- where a ship isn't done, there is a least slack
  pub least-slack : (i : ℕ) → i < length d.ships → done i ≡ false → HasLeast
  least-slack i ki free =
      let inside = (legal.inside i ki).0 in
      least-below (suc ((spot_at spots i).x - d.end)) i ((spot_at spots i).x - d.end) (omega arith) ki free (inl (omega (arith, inside)))

-- ---- rounds
abbrev free_one : Bool → ℕ
free_one c = cond c 0 1

free-same : (done : ℕ → Bool) (ship n : ℕ) → n ≤ ship → free_count (with_done ship done) n ≡ free_count done n
free-same done ship zero h = refl
free-same done ship (suc n) h =
    elim (eqb_tells n ship) [
      | inl y ↦ absurd (omega (arith, y.1, h))
      | inr m ↦
          let own = ap (λ c. free_one (c || done n)) m.0 in
          let rest = free-same done ship n (omega (arith, h)) in
          omega (arith, own, rest)
    ]

pub free-less : (done : ℕ → Bool) (ship n : ℕ) → ship < n → done ship ≡ false → free_count (with_done ship done) n + 1 ≡ free_count done n
free-less done ship zero h free = absurd (omega (arith, h))
free-less done ship (suc n) h free =
    elim (eqb_tells n ship) [
      | inl y ↦
          let own = ap (λ c. free_one (c || done n)) y.0 in
          let old = ap free_one (ap done y.1 ∙ free) in
          let rest = free-same done ship n (omega (arith, y.1)) in
          omega (arith, own, old, rest)
      | inr m ↦
          let own = ap (λ c. free_one (c || done n)) m.0 in
          let rest = free-less done ship n (omega (arith, h, m.1)) free in
          omega (arith, own, rest)
    ]

no-farther : (a b c : Spot) → IsNoFarther a b → IsNoFarther b c → IsNoFarther a c
no-farther a b c h g = let x = h.x in let z = g.x in record { x = omega (arith, x, z); y = g.y ∙ h.y; rank = g.rank ∙ h.rank; moor = g.moor ∙ h.moor }

pub are-no-farther : (a b c : List Spot) → AreNoFarther a b → AreNoFarther b c → AreNoFarther a c
are-no-farther a b c h g = record { count = g.count ∙ h.count; each = λ i ki. no-farther (spot_at a i) (spot_at b i) (spot_at c i) (h.each i ki) (g.each i (let e = h.count in omega (arith, ki, e))) }

pub same-no-farther : (a : List Spot) → AreNoFarther a a
same-no-farther a = record { count = refl; each = λ i ki. record { x = omega arith; y = refl; rank = refl; moor = refl } }

rooted-anchored : (d : Deck) (spots : List Spot) (done : ℕ → Bool) (k i : ℕ) → IsRootedIn d spots done k i → IsAnchoredIn d spots k i
rooted-anchored d spots done zero i h = h.1
rooted-anchored d spots done (suc k) i h = (h.1.0, h.1.1, rooted-anchored d spots done k h.1.0 h.1.2, h.1.3)

-- where all ships are done, the placement is normal
pub all-done : (d : Deck) (spots : List Spot) (done : ℕ → Bool) → IsLegalPlacement d spots → AreRooted d spots done → ((i : ℕ) → i < length d.ships → done i ≡ true) → IsNormal d spots
all-done d spots done legal rooted all = record { legal = legal; anchored = λ i ki. let root = rooted.rooted i ki (all i ki) in (root.0, rooted-anchored d spots done root.0 i root.1) }

abbrev HasNormalBy : Deck → List Spot → Type 0
HasNormalBy d spots = (normal : List Spot) × IsNormal d normal × AreNoFarther spots normal

rounds : (d : Deck) → IsDeck d → (fuel : ℕ) (spots : List Spot) (done : ℕ → Bool) → IsLegalPlacement d spots → AreRooted d spots done → free_count done (length d.ships) < fuel → HasNormalBy d spots
rounds d limits zero spots done legal rooted few = absurd (omega (arith, few))
rounds d limits (suc fuel) spots done legal rooted few =
    elim (all-or (λ i. done i ≡ true) (λ i. done i ≡ false) (length d.ships) (λ i ki. cases_Bool (done i))) [
      | inl all ↦ (spots, all-done d spots done legal rooted all, same-no-farther spots)
      | inr found ↦
          let least = least-slack d spots legal limits done found.0 found.1 found.2 in
          let fewer = free-less done least.0 (length d.ships) least.2.known least.2.free in
          let rest = rounds d limits fuel (shift_from done least.1 0 spots) (with_done least.0 done) (move-legal d spots legal limits done least.0 least.1 least.2) (move-rooted d spots legal limits done least.0 least.1 least.2 rooted) (omega (arith, fewer, few)) in
          (rest.0, rest.1, are-no-farther spots (shift_from done least.1 0 spots) rest.0 (move-back d spots legal limits done least.0 least.1 least.2) rest.2)
    ]

-- EVERY LEGAL PLACEMENT GIVES A NORMAL ONE with the same y, ranks and moorings, and no greater x.
pub normal-exists : (d : Deck) (spots : List Spot) → IsDeck d → IsLegalPlacement d spots → HasNormalBy d spots
normal-exists d spots limits legal =
    rounds d limits (suc (free_count (λ i. false) (length d.ships))) spots (λ i. false) legal (record { rooted = λ i ki e. absurd (true≢false (sym e)) }) (omega arith)

pub has-normal : (d : Deck) → IsDeck d → HasNormal d
has-normal d limits spots legal = let found = normal-exists d spots limits legal in (found.0, found.1)
