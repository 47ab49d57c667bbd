-- What a chamber does in its own order: the beats of each lockage of a legal plan are lawful there.
use Rattle.std.proofs.Common.{◌≡◌, ◌≢◌, ℕ, zero, suc, ◌+◌, ◌*◌, ◌-◌, ◌<◌, ◌≤◌, List, [], ◌∷◌, ◌++◌, length, map, All, ◌⊎◌, inl, inr, refl, ap, sym, subst, ◌∙◌, arith, slice_index_or}
use Rattle.std.proofs.lemmas.Bool.Decides.{leb_tells}
use Rattle.std.proofs.lemmas.List.{length-map, append_assoc}
use Rattle.std.proofs.lemmas.List.Elements.{All-cons, All-nil}
use Rattle.lock_model.specs.Fleet.{ship_at, chamber_at, no_ship}
use Rattle.lock_model.specs.Deck.{Deck, size_at, no_size}
use Rattle.lock_model.specs.Fitting.{size_of, deck_of}
use Rattle.lock_model.specs.Placement.{AreApart, IsAtSide, IsMoored, spot_at}
use Rattle.lock_model.specs.Cargo.{GoTogether}
use Rattle.lock_model.specs.declared.deck.Size.{Size}
use Rattle.lock_model.specs.declared.instance.Instance.{Instance}
use Rattle.lock_model.specs.declared.placement.Spot.{Spot}
use Rattle.lock_model.specs.declared.placement.Rank.{Rank}
use Rattle.lock_model.specs.declared.placement.Rank.TheVariants.{Left, Right}
use Rattle.lock_model.specs.declared.placement.Moor.TheVariants.{Ship}
use Rattle.lock_model.specs.declared.plan.Lockage.{Lockage}
use Rattle.lock_model.specs.declared.plan.Plan.{Plan}
use Rattle.lock_model.specs.declared.way.Stand.{Stand}
use Rattle.lock_model.specs.declared.way.Stand.TheVariants.{Low, High}
use Rattle.lock_model.specs.declared.way.Way.{Way}
use Rattle.lock_model.specs.declared.way.Way.TheVariants.{Up, Down}
use Rattle.lock_rules.proofs.AmongLemmas.{among-numbers}
use Rattle.lock_rules.specs.Lawful.{IsFree, HasTurned, IsLawfulStart, AreLawfulFrom, duration_of, stand_after, stand_before}
use Rattle.lock_rules.specs.Timetable.{first_free}
use Rattle.lock_rules.specs.Lines.{lockage_at, group_of}
use Rattle.lock_rules.specs.Plan.{IsLegalLockage}
use Rattle.lock_rules.proofs.FreeLemmas.{first_free-from, first_free-free}
use Rattle.lock_rules.proofs.TimetableLemmas.{turned_at-least, closures_kept}
use Rattle.chamber_times.specs.Walk.{lockages_at}
use Rattle.day_play.specs.Order.{put_each, IsOrdered}
use Rattle.list_laws.specs.Among.{IsAmong}
use Rattle.day_play.specs.State.{Moored, Idle, ChamberState, other_side, chamber_after}
use Rattle.day_play.specs.Lawful.{IsOf, HasMoored, MayMoor, MayTurn, ship_of}
use Rattle.day_play.specs.ComingIn.{Respects, IsGuest, LiesBefore, Blocks, CanComeIn}
use Rattle.day_play.specs.Playing.{moor_beats, moor_order, turn_beats, go_beat, done_beat, lockage_beats, line_beats}
use Rattle.day_play.specs.declared.beat.Act.TheVariants.{Moor}
use Rattle.day_play.specs.declared.beat.Beat.{Beat}
use Rattle.lock_rules.specs.Arrival.{numbers_from}
use Rattle.lock_rules.proofs.BoundLemmas.{IsAmong-numbers}
use Rattle.lock_rules.proofs.LineLemmas.{length-numbers}
use Rattle.std.proofs.Math.Nat.{suc-mul, mul-le-mul_right}
use Rattle.day_play.proofs.OrderLemmas.{length-put_each, put_each-ordered, put_each-among, put_each-from}
use Rattle.day_play.proofs.InTurnLemmas.{respects-ordered}
use Rattle.day_play.proofs.ComingLemmas.{order-from, order-comes}
use Rattle.day_play.proofs.RunLemmas.{RunsHere}

pub apart-swap : (d : Deck) (s : Size) (p : Spot) (t : Size) (q : Spot) → AreApart d s p t q → AreApart d t q s p
apart-swap d s p t q (inl a) = inr (inl a)
apart-swap d s p t q (inr (inl b)) = inl b
apart-swap d s p t q (inr (inr (inl a))) = inr (inr (inr a))
apart-swap d s p t q (inr (inr (inr b))) = inr (inr (inl b))

pub together-swap : (s t : Size) → GoTogether s t → GoTogether t s
together-swap s t go = record { peace = λ clash. go.peace (record { differ = λ e. clash.differ (sym e); first = clash.second; second = clash.first }) }

size_at-of : (f : ℕ → Size) (ships : List ℕ) (k : ℕ) → k < length ships → slice_index_or (map f ships) k no_size ≡ f (slice_index_or ships k 0)
size_at-of f [] k within = absurd (omega arith)
size_at-of f (s ∷ ships) zero within = refl
size_at-of f (s ∷ ships) (suc k) within = size_at-of f ships k (omega arith)

-- across the chamber, from the quay of the rank to a ship
abbrev gap_to : Rank → ℕ → ℕ → ℕ → ℕ
gap_to Left y width across = y
gap_to Right y width across = across - (y + width)

-- from its quay to the ship at place k of the lockage
abbrev quay_distance : Instance → Lockage → ℕ → ℕ
quay_distance I l k = gap_to (spot_at l.spots k).rank (spot_at l.spots k).y (ship_at I (ship_of l k)).width (chamber_at I l.chamber).width

gap-within : (rank : Rank) (y width across : ℕ) → y + width ≤ across → gap_to rank y width across ≤ across
gap-within Left y width across inside = omega (arith, inside)
gap-within Right y width across inside = omega arith

-- along the chamber, from a ship's end that came in first to the end across from the gate
abbrev far_gap : Instance → Lockage → Way → ℕ → ℕ
far_gap I l Up k = (chamber_at I l.chamber).length - ((spot_at l.spots k).x + (ship_at I (ship_of l k)).length)
far_gap I l Down k = (spot_at l.spots k).x

-- numbers of two digits, by the first digit and then by the second
deeper : (m a b x y : ℕ) → x < m → a < b → a * m + x < b * m + y
deeper m a b x y small less = omega (arith, small, suc-mul a m, mul-le-mul_right m less)

no-less : (m a b x y : ℕ) → a ≤ b → x < y → a * m + x < b * m + y
no-less m a b x y less more = omega (arith, more, mul-le-mul_right m less)

-- across the chamber a host lies nearer to their quay than its guest
nearer : (d : Deck) (s : Size) (p : Spot) (t : Size) (q : Spot) (rank : Rank) (across : ℕ) → 1 ≤ t.width → q.y + t.width ≤ across → IsAtSide d s p t q rank → gap_to rank q.y t.width across < gap_to rank p.y s.width across
nearer d s p t q Left across wide inside beside = omega (arith, beside, wide)
nearer d s p t q Right across wide inside beside = omega (arith, beside, wide, inside)

pub other_before : (way : Way) → other_side (stand_before way) ≡ stand_after way
other_before Up = refl
other_before Down = refl

module _ (I : Instance) (P : Plan) (p : ℕ) (known : p < length P.lockages) (legal : IsLegalLockage I (lockage_at P p)) where
  abbrev l : Lockage
  l = lockage_at P p

  abbrev d : Deck
  d = deck_of I l.chamber l.ships

  long : length d.ships ≡ length l.ships
  long = length-map l.ships (λ s. size_of (ship_at I s))

  of : IsOf I P l.chamber p
  of = record { known = known; chamber = refl; whole = record { chamber = legal.chamber; ships = legal.known; spots = legal.placed.count ∙ long } }

  size : (k : ℕ) → k < length l.ships → size_at d k ≡ size_of (ship_at I (ship_of l k))
  size k within = size_at-of (λ s. size_of (ship_at I s)) l.ships k within

  in_deck : (k : ℕ) → k < length l.ships → k < length d.ships
  in_deck k within = omega (arith, long, within)

  apart : (k j : ℕ) → k < length l.ships → j < length l.ships → j ≢ k → AreApart d (size_at d k) (spot_at l.spots k) (size_at d j) (spot_at l.spots j)
  apart k j within inside other =
      elim (leb_tells k j) [
        | inl less ↦ (legal.placed.apart k (in_deck k within)).later j (above k j less.1 other) (in_deck j inside)
        | inr more ↦ apart-swap d (size_at d j) (spot_at l.spots j) (size_at d k) (spot_at l.spots k) ((legal.placed.apart j (in_deck j inside)).later k more.1 (in_deck k within))
      ]
    where
      above : (k j : ℕ) → k ≤ j → j ≢ k → k < j
      above k j less other = elim (leb_tells j k) [ inl same ↦ absurd (other (omega (arith, same.1, less))) | inr more ↦ more.1 ]

  together : (k j : ℕ) → k < length l.ships → j < length l.ships → j ≢ k → GoTogether (size_at d k) (size_at d j)
  together k j within inside other =
      elim (leb_tells k j) [
        | inl less ↦ (legal.clear.clear k (in_deck k within)).later j (above k j less.1 other) (in_deck j inside)
        | inr more ↦ together-swap (size_at d j) (size_at d k) ((legal.clear.clear j (in_deck j inside)).later k more.1 (in_deck k within))
      ]
    where
      above : (k j : ℕ) → k ≤ j → j ≢ k → k < j
      above k j less other = elim (leb_tells j k) [ inl same ↦ absurd (other (omega (arith, same.1, less))) | inr more ↦ more.1 ]

  -- the host of a ship is a ship of the deck that lies nearer to their quay
  host : (k h : ℕ) → k < length l.ships → (spot_at l.spots k).moor ≡ Ship h → (h < length l.ships) × (quay_distance I l h < quay_distance I l k)
  host k h within moored =
      let at : IsMoored d l.spots k (Ship h) = subst (IsMoored d l.spots k) moored (legal.placed.berthed k (in_deck k within)) in
      let inside : h < length l.ships = omega (arith, long, at.0) in
      let wide : 1 ≤ (size_at d h).width = subst (λ (s : Size). 1 ≤ s.width) (sym (size h inside)) (I.limits.ship (ship_of l h) no_ship (legal.known h 0 inside)).width.0 in
      let less = nearer d (size_at d k) (spot_at l.spots k) (size_at d h) (spot_at l.spots h) (spot_at l.spots k).rank (chamber_at I l.chamber).width wide (legal.placed.inside h at.0).2 at.2.beside in
      let mine : gap_to (spot_at l.spots k).rank (spot_at l.spots k).y (size_at d k).width (chamber_at I l.chamber).width ≡ quay_distance I l k =
      ap (λ (s : Size). gap_to (spot_at l.spots k).rank (spot_at l.spots k).y s.width (chamber_at I l.chamber).width) (size k within) in
      let its : gap_to (spot_at l.spots k).rank (spot_at l.spots h).y (size_at d h).width (chamber_at I l.chamber).width ≡ quay_distance I l h =
      ap (λ (s : Size). gap_to (spot_at l.spots k).rank (spot_at l.spots h).y s.width (chamber_at I l.chamber).width) (size h inside)
      ∙ ap (λ rank. gap_to rank (spot_at l.spots h).y (ship_at I (ship_of l h)).width (chamber_at I l.chamber).width) (sym at.2.rank) in
      (inside, omega (arith, less, mine, its))

  -- a host lies no less deep than its guest
  host-deeper : (way : Way) (k h : ℕ) → k < length l.ships → IsGuest l k h → far_gap I l way h ≤ far_gap I l way k
  host-deeper way k h within guest =
      let at : IsMoored d l.spots k (Ship h) = subst (IsMoored d l.spots k) guest (legal.placed.berthed k (in_deck k within)) in
      let mine : (size_at d k).length ≡ (ship_at I (ship_of l k)).length = ap (λ (s : Size). s.length) (size k within) in
      let its : (size_at d h).length ≡ (ship_at I (ship_of l h)).length = ap (λ (s : Size). s.length) (size h (host k h within guest).0) in
      elim way as (λ way. far_gap I l way h ≤ far_gap I l way k) [
        | Up ↦ omega (arith, at.2.far, mine, its)
        | Down ↦ at.2.near
      ]

  -- whom a ship would block lies deeper
  blocked-deeper : (way : Way) (k j : ℕ) → j < length l.ships → LiesBefore I l way k j → far_gap I l way j < far_gap I l way k
  blocked-deeper Up k j inside before =
      let its : (size_at d j).length ≡ (ship_at I (ship_of l j)).length = ap (λ (s : Size). s.length) (size j inside) in
      omega (arith, before, its, (I.limits.ship (ship_of l j) no_ship (legal.known j 0 inside)).length.0, (legal.placed.inside j (in_deck j inside)).1)
  blocked-deeper Down k j inside before = omega (arith, before, (I.limits.ship (ship_of l j) no_ship (legal.known j 0 inside)).length.0)

  quay-within : (k : ℕ) → k < length l.ships → quay_distance I l k < suc (chamber_at I l.chamber).width
  quay-within k inside =
      let its : (size_at d k).width ≡ (ship_at I (ship_of l k)).width = ap (λ (s : Size). s.width) (size k inside) in
      omega (arith, gap-within (spot_at l.spots k).rank (spot_at l.spots k).y (ship_at I (ship_of l k)).width (chamber_at I l.chamber).width (omega (arith, its, (legal.placed.inside k (in_deck k inside)).2)))

  -- by depth, and of equally deep ones by distance from the quay
  abbrev place_key : ℕ → ℕ
  place_key k = far_gap I l l.way k * suc (chamber_at I l.chamber).width + quay_distance I l k

  abbrev by_place : List ℕ
  by_place = put_each place_key [] (numbers_from 0 (length l.ships))

  place-within : (k : ℕ) → IsAmong by_place k → k < length l.ships
  place-within k among =
      elim (put_each-from place_key [] (numbers_from 0 (length l.ships)) k among) [
        | inl none ↦ absurd none
        | inr number ↦ omega (arith, (among-numbers 0 (length l.ships) k number).1)
      ]

  place-ordered : IsOrdered place_key 0 by_place
  place-ordered = put_each-ordered place_key [] (numbers_from 0 (length l.ships)) tt

  -- in that order all ships can come in
  by_place-comes : CanComeIn I l by_place
  by_place-comes = record {
    count = omega (arith, length-put_each place_key [] (numbers_from 0 (length l.ships)), length-numbers 0 (length l.ships));
    all = λ k inside. put_each-among place_key [] (numbers_from 0 (length l.ships)) k (IsAmong-numbers 0 (length l.ships) k (omega arith) (omega (arith, inside)));
    hosts = respects-ordered (IsGuest l) place_key 0 by_place place-ordered (λ k h first second guest.
        let within = place-within k first in
        no-less (suc (chamber_at I l.chamber).width) (far_gap I l l.way h) (far_gap I l l.way k) (quay_distance I l h) (quay_distance I l k) (host-deeper l.way k h within guest) (host k h within guest).1);
    room = respects-ordered (Blocks I l) place_key 0 by_place place-ordered (λ k j first second blocked.
        let inside = place-within j second in
        deeper (suc (chamber_at I l.chamber).width) (far_gap I l l.way j) (far_gap I l l.way k) (quay_distance I l j) (quay_distance I l k) (quay-within j inside) (blocked-deeper l.way k j inside blocked.before));
  }

  -- ALL SHIPS CAN COME IN in the order in which they moor.
  pub order-can : CanComeIn I l (moor_order I l)
  order-can = order-comes I l by_place by_place-comes

  module _ (arrived : All (λ s. (ship_at I s).arrival ≤ l.start) l.ships) where
    -- the next ship may be moored where its host doesn't come later
    may : (k : ℕ) (ks : List ℕ) (s : ChamberState) → s.going ≡ Idle → All (λ (m : Moored). m.lockage ≡ p) s.moored → length s.moored + length (k ∷ ks) ≡ length l.ships
        → k < length l.ships → Respects (IsGuest l) (k ∷ ks) → ((j : ℕ) → j < length l.ships → HasMoored s p l j ⊎ IsAmong (k ∷ ks) j)
        → MayMoor I P l.start l.chamber p (ship_of l k) s
    may k ks s idle same count within order ahead = record {
      lockage = of;
      start = refl;
      idle = idle;
      same = same;
      room = omega (arith, count, legal.count.1);
      arrived = arrived k 0 within;
      way = legal.way k 0 within;
      place = k;
      within = within;
      ship = refl;
      lies = record {
        inside = legal.placed.inside k (in_deck k within);
        apart = λ j inside other moored. apart k j within inside other;
        berthed = legal.placed.berthed k (in_deck k within);
        host = λ h guest. before h guest;
        clear = λ j inside other moored. together k j within inside other;
      };
    }
      where
        before : (h : ℕ) → IsGuest l k h → HasMoored s p l h
        before h guest =
            elim (ahead h (host k h within guest).0) [
              | inl moored ↦ moored
              | inr later ↦ absurd (order.0 h later guest)
            ]

    moors-run : (ks : List ℕ) (s : ChamberState) (rest : List Beat) → s.going ≡ Idle → All (λ (m : Moored). m.lockage ≡ p) s.moored
        → length s.moored + length ks ≡ length l.ships → ((k : ℕ) → IsAmong ks k → k < length l.ships) → Respects (IsGuest l) ks
        → ((j : ℕ) → j < length l.ships → HasMoored s p l j ⊎ IsAmong ks j)
        → ((t : ChamberState) → t.side ≡ s.side → t.free ≡ s.free → t.going ≡ Idle → ((j : ℕ) → j < length l.ships → HasMoored t p l j) → RunsHere I P t rest)
        → RunsHere I P s (moor_beats p l ks ++ rest)
    moors-run [] s rest idle same count within order ahead next = next s refl refl idle (λ j inside. elim (ahead j inside) [ inl moored ↦ moored | inr none ↦ absurd none ])
    moors-run (k ∷ ks) s rest idle same count within order ahead next = (
      may k ks s idle same count (within k (inl refl)) order ahead,
      moors-run ks (chamber_after I P l.start l.chamber p (Moor (ship_of l k)) s) rest idle
          (All-cons (λ (m : Moored). m.lockage ≡ p) (record { ship = ship_of l k; lockage = p }) s.moored refl same)
          (omega (arith, count))
          (λ j among. within j (inr among))
          order.1
          (λ j inside. elim (ahead j inside) [
            | inl moored ↦ inl (inr moored)
            | inr later ↦ elim later [
              | inl here ↦ inl (inl (ap (λ j. record { ship = ship_of l j; lockage = p }) here))
              | inr after ↦ inr after
            ]
          ])
          next,
    )

    may_turn : (stand : Stand) (from : ℕ) → MayTurn I P (first_free (chamber_at I l.chamber).closures (chamber_at I l.chamber).turn from) l.chamber (record { side = stand; free = from; moored = []; going = Idle })
    may_turn stand from = record {
      in_lock = legal.chamber;
      still = record { empty = refl; idle = refl };
      later = first_free-from (chamber_at I l.chamber).closures (chamber_at I l.chamber).turn from;
      free = first_free-free 0 (chamber_at I l.chamber).closures (chamber_at I l.chamber).turn from (closures_kept I l.chamber legal.chamber);
    }

    -- all ships are moored: the lockage begins and ends
    goes-run : (s : ChamberState) (rest : List Beat) → s.going ≡ Idle → ((j : ℕ) → j < length l.ships → HasMoored s p l j) → s.side ≡ stand_before l.way → s.free ≤ l.start
        → IsFree (chamber_at I l.chamber).closures l.start (l.start + duration_of I l.chamber l.ships)
        → RunsHere I P (record { side = stand_after l.way; free = l.start + duration_of I l.chamber l.ships; moored = []; going = Idle }) rest
        → RunsHere I P s (go_beat p l ∷ done_beat I p l ∷ rest)
    goes-run s rest idle all side free clear next = (
      record { lockage = of; start = refl; idle = idle; some = legal.count.0; all = all; later = free; side = side; free = clear },
      (
        record { lockage = of; going = refl; over = refl },
        subst (λ side. RunsHere I P (record { side = side; free = l.start + duration_of I l.chamber l.ships; moored = []; going = Idle }) rest) (sym (ap other_side side ∙ other_before l.way)) next,
      ),
    )

    -- the turn, where one is needed
    turn-run : (stand : Stand) (from : ℕ) (way : Way) (rest : List Beat) → HasTurned (chamber_at I l.chamber) stand way from l.start → from ≤ l.start
        → ((s : ChamberState) → s.moored ≡ [] → s.going ≡ Idle → s.side ≡ stand_before way → s.free ≤ l.start → RunsHere I P s rest)
        → RunsHere I P (record { side = stand; free = from; moored = []; going = Idle }) (turn_beats I p l from stand way ++ rest)
    turn-run Low from Up rest turned later next = next (record { side = Low; free = from; moored = []; going = Idle }) refl refl refl later
    turn-run Low from Down rest turned later next = (
      may_turn Low from,
      next (record { side = High; free = first_free (chamber_at I l.chamber).closures (chamber_at I l.chamber).turn from + (chamber_at I l.chamber).turn; moored = []; going = Idle }) refl refl refl
          (turned_at-least (chamber_at I l.chamber) from l.start turned),
    )
    turn-run High from Up rest turned later next = (
      may_turn High from,
      next (record { side = Low; free = first_free (chamber_at I l.chamber).closures (chamber_at I l.chamber).turn from + (chamber_at I l.chamber).turn; moored = []; going = Idle }) refl refl refl
          (turned_at-least (chamber_at I l.chamber) from l.start turned),
    )
    turn-run High from Down rest turned later next = next (record { side = High; free = from; moored = []; going = Idle }) refl refl refl later

    -- all beats of the lockage
    pub lockage-run : (stand : Stand) (from : ℕ) (rest : List Beat) → IsLawfulStart I l.chamber stand from (group_of l) l.start
        → RunsHere I P (record { side = stand_after l.way; free = l.start + duration_of I l.chamber l.ships; moored = []; going = Idle }) rest
        → RunsHere I P (record { side = stand; free = from; moored = []; going = Idle }) (lockage_beats I p l stand from ++ rest)
    lockage-run stand from rest lawful next =
        let ts = turn_beats I p l from stand l.way in
        let ms = moor_beats p l (moor_order I l) in
        let ends = go_beat p l ∷ done_beat I p l ∷ [] in
        let all : (ts ++ (ms ++ ends)) ++ rest ≡ ts ++ (ms ++ (ends ++ rest)) = append_assoc ts (ms ++ ends) rest ∙ ap (λ xs. ts ++ xs) (append_assoc ms ends rest) in
        subst (RunsHere I P (record { side = stand; free = from; moored = []; going = Idle })) (sym all)
        (turn-run stand from l.way (ms ++ (ends ++ rest)) lawful.turned lawful.later (λ s empty idle side free. moors-run (moor_order I l) s (ends ++ rest) idle
        (subst (All (λ (m : Moored). m.lockage ≡ p)) (sym empty) (All-nil (λ (m : Moored). m.lockage ≡ p)))
        (omega (arith, ap length empty, order-can.count))
        (order-from I l)
        order-can.hosts
        (λ j inside. inr (order-can.all j inside))
        (λ t tside tfree tidle moored. goes-run t rest tidle moored (tside ∙ side) (omega (arith, tfree, free)) lawful.free next)))

-- lockage q of the plan is legal, and of chamber c
pub record IsGood (I : Instance) (P : Plan) (c q : ℕ) : Type 0 where
  pub known : q < length P.lockages
  pub legal : IsLegalLockage I (lockage_at P q)
  pub own : (lockage_at P q).chamber ≡ c

module _ (I : Instance) (P : Plan) (c : ℕ) where
  -- A LINE WITH LAWFUL STARTS may be played in its chamber.
  pub line-run : (stand : Stand) (from : ℕ) (ps : List ℕ) → ((q : ℕ) → IsAmong ps q → IsGood I P c q)
      → AreLawfulFrom I c stand from (map group_of (lockages_at P ps)) (map (λ l. l.start) (lockages_at P ps))
      → RunsHere I P (record { side = stand; free = from; moored = []; going = Idle }) (line_beats I P stand from ps)
  line-run stand from [] good lawful = record { empty = refl; idle = refl }
  line-run stand from (q ∷ ps) good lawful =
      let here = good q (inl refl) in
      let l = lockage_at P q in
      let first : IsLawfulStart I l.chamber stand from (group_of l) l.start = subst (λ c. IsLawfulStart I c stand from (group_of l) l.start) (sym here.own) lawful.0 in
      lockage-run I P q here.known here.legal first.arrived stand from (line_beats I P (stand_after l.way) (l.start + duration_of I l.chamber l.ships) ps) first
      (line-run (stand_after l.way) (l.start + duration_of I l.chamber l.ships) ps (λ r among. good r (inr among))
      (subst (λ d. AreLawfulFrom I c (stand_after l.way) (l.start + duration_of I d l.ships) (map group_of (lockages_at P ps)) (map (λ l. l.start) (lockages_at P ps))) (sym here.own) lawful.1))
