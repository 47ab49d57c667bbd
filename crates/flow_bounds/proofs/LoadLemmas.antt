-- A group is served as its load is.
use Rattle.std.proofs.Common.{◌≡◌, ℕ, suc, ◌+◌, ◌-◌, ◌*◌, ◌<◌, ◌≤◌, max, List, [], ◌∷◌, ◌++◌, length, All, sum_by, cond, true, false, nat_lt, refl, arith, ap, ◌∙◌, sym, subst, inl, inr, slice_set, get_or-set_same, get_or-set_other}
use Rattle.std.proofs.Math.Seq.{get_or-append_seam}
use Rattle.std.proofs.lemmas.Bool.Decides.{leb_tells}
use Rattle.std.proofs.lemmas.List.{length-append, length-set, get_or_append_left}
use Rattle.std.proofs.lemmas.List.Elements.{All-head, All-tail}
use Rattle.std.proofs.lemmas.List.Sums.{sum_by-cons}
use Rattle.lock_model.specs.Fleet.{ship_at, chamber_at}
use Rattle.lock_model.specs.declared.chamber.Chamber.{Chamber}
use Rattle.lock_model.specs.declared.closure.Closure.{Closure}
use Rattle.lock_model.specs.declared.instance.Instance.{Instance}
use Rattle.lock_model.specs.declared.group.Group.{Group}
use Rattle.lock_model.specs.declared.way.Way.{Way}
use Rattle.lock_model.specs.declared.way.Way.TheVariants.{Up, Down}
use Rattle.lock_model.specs.declared.way.Stand.{Stand}
use Rattle.lock_model.specs.declared.way.Stand.TheVariants.{Low, High}
use Rattle.lock_rules.specs.Lawful.{duration_of}
use Rattle.lock_rules.specs.Timetable.{first_free, ready_at, last_arrival}
use Rattle.lock_rules.specs.Children.{insert_number, with_ship}
use Rattle.lock_rules.proofs.TreeLemmas.{length-insert_number}
use Rattle.lock_rules.proofs.TimetableLemmas.{last_arrival-max}
use Rattle.master_branch.specs.Steps.{group_in}
use Rattle.flow_bounds.specs.declared.load.Load.{Load}
use Rattle.flow_bounds.specs.declared.walk.Walk.{Walk}
use Rattle.flow_bounds.specs.Load.{no_load, with_one, load_at, IsLoad, IsLoadOf, AreLoads}
use Rattle.flow_bounds.specs.Walk.{flow_until, serve, turn_for, end_with}

-- a sum over rising numbers into which one more is put
pub sum-insert : (f : ℕ → ℕ) (s : ℕ) (xs : List ℕ) → sum_by f (insert_number s xs) ≡ f s + sum_by f xs
sum-insert f s [] = omega (arith, sum_by-cons f s [])
sum-insert f s (x ∷ xs) =
    elim (nat_lt s x) as (λ b. sum_by f (cond b (s ∷ x ∷ xs) (x ∷ insert_number s xs)) ≡ f s + sum_by f (x ∷ xs)) [
      | true ↦ omega (arith, sum_by-cons f s (x ∷ xs))
      | false ↦ omega (arith, sum_by-cons f x xs, sum_by-cons f x (insert_number s xs), sum-insert f s xs)
    ]

-- no minutes are free at once
first_free-none : (ks : List Closure) (from : ℕ) → first_free ks 0 from ≡ from
first_free-none [] from = refl
first_free-none (k ∷ ks) from = refl

-- a way waits for its empty turn, of no minutes where it needs none
pub ready-turned : (lock : Chamber) (stand : Stand) (from : ℕ) (way : Way) → first_free lock.closures (turn_for lock stand way) from + turn_for lock stand way ≡ ready_at lock stand from way
ready-turned lock Low from Up = omega (arith, first_free-none lock.closures from)
ready-turned lock Low from Down = refl
ready-turned lock High from Up = refl
ready-turned lock High from Down = omega (arith, first_free-none lock.closures from)

module _ (I : Instance) where
  -- the low minute may be taken in at the end
  last-max : (low a : ℕ) (xs : List ℕ) → last_arrival I (max low a) xs ≡ max (last_arrival I low xs) a
  last-max low a [] = refl
  last-max low a (x ∷ xs) =
      let turned : max (max low a) (ship_at I x).arrival ≡ max (max low (ship_at I x).arrival) a = omega arith in
      ap (λ n. last_arrival I n xs) turned ∙ last-max (max low (ship_at I x).arrival) a xs

  last-insert : (low s : ℕ) (xs : List ℕ) → last_arrival I low (insert_number s xs) ≡ max (last_arrival I low xs) (ship_at I s).arrival
  last-insert low s [] = refl
  last-insert low s (x ∷ xs) =
      elim (nat_lt s x) as (λ b. last_arrival I low (cond b (s ∷ x ∷ xs) (x ∷ insert_number s xs)) ≡ max (last_arrival I low (x ∷ xs)) (ship_at I s).arrival) [
        | true ↦ last-max low (ship_at I s).arrival (x ∷ xs)
        | false ↦ last-insert (max low (ship_at I x).arrival) s xs
      ]

  -- a ship that joins the group
  pub load-joined : (g : Group) (load own : Load) (s : ℕ) → IsLoadOf I g load → own ≡ with_one load (ship_at I s) → IsLoadOf I (with_ship s g) own
  load-joined g load own s is same = record {
    way = ap (λ l. l.way) same ∙ is.way;
    count = omega (arith, ap (λ l. l.count) same, is.count, length-insert_number s g.ships);
    handling = omega (arith, ap (λ l. l.handling) same, is.handling, sum-insert (λ s. (ship_at I s).handling) s g.ships);
    latest = omega (arith, ap (λ l. l.latest) same, is.latest, last-insert 0 s g.ships);
    arrivals = omega (arith, ap (λ l. l.arrivals) same, is.arrivals, sum-insert (λ s. (ship_at I s).arrival) s g.ships);
  }

  -- all ships of a group end at one minute
  ends-apart : (end : ℕ) (xs : List ℕ) → All (λ s. (ship_at I s).arrival ≤ end) xs → flow_until I end xs + sum_by (λ s. (ship_at I s).arrival) xs ≡ length xs * end
  ends-apart end [] arrived = omega arith
  ends-apart end (x ∷ xs) arrived =
      let here : (ship_at I x).arrival ≤ end = All-head (λ s. (ship_at I s).arrival ≤ end) x xs arrived in
      omega (
        arith,
        here,
        sum_by-cons (λ s. end - (ship_at I s).arrival) x xs,
        sum_by-cons (λ s. (ship_at I s).arrival) x xs,
        ends-apart end xs (All-tail (λ s. (ship_at I s).arrival ≤ end) x xs arrived),
      )

  pub flow-load : (end : ℕ) (g : Group) (load : Load) → IsLoadOf I g load → All (λ s. (ship_at I s).arrival ≤ end) g.ships → load.count * end - load.arrivals ≡ flow_until I end g.ships
  flow-load end g load is arrived = omega (arith, ends-apart end g.ships arrived, ap (λ n. n * end) is.count, is.arrivals)

  pub end-load : (c : ℕ) (w : Walk) (g : Group) (load : Load) → IsLoadOf I g load → end_with (chamber_at I c) w load ≡ (serve I c w g).done
  end-load c w g load is =
      let lock = chamber_at I c in
      let long : lock.pass + load.handling ≡ duration_of I c g.ships = ap (λ n. lock.pass + n) is.handling in
      let ready : ready_at lock w.stand w.done load.way ≡ ready_at lock w.stand w.done g.way = ap (ready_at lock w.stand w.done) is.way in
      let low : max (ready_at lock w.stand w.done load.way) load.latest ≡ last_arrival I (ready_at lock w.stand w.done g.way) g.ships = omega (arith, ready, is.latest, last_arrival-max I (ready_at lock w.stand w.done g.way) g.ships) in
      λ i. first_free lock.closures (long i) (low i) + long i

-- one group more, and its load
pub loads-more : (I : Instance) (gs : List Group) (loads : List Load) (g : Group) (own : Load) → AreLoads I gs loads → length gs < length loads → IsLoadOf I g own → IsLoad own
    → AreLoads I (gs ++ g ∷ []) (slice_set loads (length gs) own)
loads-more I gs loads g own are room is kept = record {
  room = omega (arith, length-append gs (g ∷ []), length-set loads (length gs) own);
  each = λ i within. elim (leb_tells (suc i) (length gs)) [
    | inl old ↦ subst (λ g. IsLoadOf I g (load_at (slice_set loads (length gs) own) i)) (sym (group_old i old.1)) (subst (IsLoadOf I (group_in gs i)) (sym (at_old i old.1)) (are.each i old.1))
    | inr new ↦
        let last = at_new i within new.1 in
        subst (λ k. IsLoadOf I (group_in (gs ++ g ∷ []) k) (load_at (slice_set loads (length gs) own) k)) (sym last) (subst (λ g. IsLoadOf I g (load_at (slice_set loads (length gs) own) (length gs))) (sym group_new) (subst (IsLoadOf I g) (sym own_is) is))
  ];
  kept = λ i within. elim (leb_tells (suc i) (length gs)) [
    | inl old ↦ subst IsLoad (sym (at_old i old.1)) (are.kept i old.1)
    | inr new ↦ subst (λ k. IsLoad (load_at (slice_set loads (length gs) own) k)) (sym (at_new i within new.1)) (subst IsLoad (sym own_is) kept)
  ];
}
  where
    group_old : (i : ℕ) → i < length gs → group_in (gs ++ g ∷ []) i ≡ group_in gs i
    group_old i old = get_or_append_left gs (g ∷ []) (record { way = Up; ships = [] }) i old

    group_new : group_in (gs ++ g ∷ []) (length gs) ≡ g
    group_new = get_or-append_seam gs g [] (record { way = Up; ships = [] })

    at_old : (i : ℕ) → i < length gs → load_at (slice_set loads (length gs) own) i ≡ load_at loads i
    at_old i old = get_or-set_other loads (length gs) i own (no_load Up) (λ e. omega (arith, e, old))

    at_new : (i : ℕ) → i < length (gs ++ g ∷ []) → length gs < suc i → i ≡ length gs
    at_new i within new = omega (arith, length-append gs (g ∷ []))

    own_is : load_at (slice_set loads (length gs) own) (length gs) ≡ own
    own_is = get_or-set_same loads (length gs) own (no_load Up) room
