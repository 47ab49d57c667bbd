-- The edges of a berth case along the chamber: a system, whose solutions are the places that obey the case.
use Rattle.std.proofs.Common.{◌≡◌, ℕ, zero, suc, ◌+◌, ◌-◌, ◌<◌, ◌≤◌, ℤ, pos, negsuc, ◌≤ℤ◌, List, [], ◌∷◌, ◌++◌, length, map, flat_map, get_or, Contains, refl, sym, ap, ◌∙◌, subst, arith, inl, inr, Some, None, append_assoc, append-nil}
use Rattle.std.proofs.lemmas.List.Concat.{flat_map-append}
use Rattle.std.specs.declared.option.Option.{Option}
use Rattle.std.specs.List.{AllByRecursion}
use Rattle.std.proofs.lemmas.Int.{ints}
use Rattle.std.proofs.lemmas.List.Elements.{All-from_recursion, All-contains}
use Rattle.list_laws.proofs.ByRecursion.{all-append}
use Rattle.lock_model.specs.Deck.{Deck, IsDeck, no_size}
use Rattle.lock_rules.specs.Arrival.{numbers_from}
use Rattle.list_laws.specs.Among.{IsAmong}
use Rattle.lock_rules.proofs.LineLemmas.{numbers_more}
use Rattle.lock_rules.proofs.TreeLemmas.{contains-among}
use Rattle.diff_rules.specs.declared.edges.Edge.{Edge}
use Rattle.diff_rules.specs.Differences.{value_at, Obeys, AreSolution, IsPositiveCycle, IsSystem}
use Rattle.diff_rules.proofs.CycleLemmas.{no_values}
use Rattle.refute_rules.specs.declared.choices.Choice.{Choice}
use Rattle.refute_rules.specs.declared.choices.Choice.TheVariants.{Lies, Before, Below, LiesAt}
use Rattle.refute_rules.specs.Edges.{edge}
use Rattle.refute_rules.proofs.Among.{IsAmong-left, IsAmong-right, IsAmong-flat_map, IsAmong-numbers, all-flat_map, all-weaker, all-numbers}
use Rattle.case_search.proofs.ListLemmas.{flat_map-one}
use Rattle.refute_rules.specs.BerthCases.{host_in, HasOrder, ObeyAlong}
use Rattle.berth_check.specs.Raises.{IsKnownChoice, AreKnown}
use Rattle.berth_check.proofs.RaiseLemmas.{host-known}
use Rattle.berth_place.specs.Along.{place_var, place_count, inside_edges, host_edges, berth_edges, order_edge, order_edges, first_edges, along_edges, AreValuesOf}
use Rattle.berth_place.specs.Known.{IsBerth, AreBerths}
use Rattle.berth_place.proofs.WholeLemmas.{host_same}

module _ (d : Deck) (case : List Choice) where
  pub edges_begun : (edges : List Edge) → edges ≡ [] → edges ≡ first_edges d case 0
  edges_begun edges e = e

  pub edges_more : (n : ℕ) (old new : List Edge) → old ≡ first_edges d case n → new ≡ old ++ berth_edges d case n → new ≡ first_edges d case (n + 1)
  edges_more n old new e more =
      let zero-plus : 0 + n ≡ n = omega arith in
      let last : flat_map (berth_edges d case) (n ∷ []) ≡ berth_edges d case n = flat_map-one (berth_edges d case) n in
      more ∙ ap (λ es. es ++ berth_edges d case n) e ∙ ap (λ es. first_edges d case n ++ es) (sym last) ∙ sym (flat_map-append (berth_edges d case) (numbers_from 0 n) (n ∷ []))
      ∙ ap (flat_map (berth_edges d case)) (sym (numbers_more 0 n ∙ ap (λ k. numbers_from 0 n ++ k ∷ []) zero-plus))

-- the ends of an edge are variables, and its weight is within the limits
record IsGoodEdge (vars : ℕ) (e : Edge) : Type 0 where
  pub from : e.from < vars
  pub to : e.to < vars
  pub low : negsuc 999999 ≤ℤ e.weight
  pub high : e.weight ≤ℤ pos 1000000

module _ (d : Deck) (case : List Choice) (known : AreKnown d case) where
  abbrev Good : Edge → Type 0
  Good = IsGoodEdge (place_count d)

  inside-good : IsDeck d → (i : ℕ) → i < length d.ships → AllByRecursion Good (inside_edges d i)
  inside-good limits i h =
      let long = (limits.sizes i no_size h).long in
      let far = limits.long in
      let clear = limits.clear in (
        record { from = omega (arith, h); to = omega (arith, h); low = omega (arith, ints, clear.0); high = omega (arith, ints, clear.0) },
        (record { from = omega (arith, h); to = omega (arith, h); low = omega (arith, ints, clear.0, long.1, far.1); high = omega (arith, ints, clear.0, long.1, far.1) }, tt),
      )

  host-good : IsDeck d → (i : ℕ) → i < length d.ships → (o : Option ℕ) → host_in case i ≡ o → AllByRecursion Good (host_edges d i o)
  host-good limits i h None e = tt
  host-good limits i h (Some k) e =
      let there = (host-known d case known i k e).1 in
      let own = (limits.sizes i no_size h).long in
      let other = (limits.sizes k no_size there).long in (
        record { from = omega (arith, there); to = omega (arith, h); low = omega (arith, ints); high = omega (arith, ints) },
        (record { from = omega (arith, h); to = omega (arith, there); low = omega (arith, ints, own.1, other.1); high = omega (arith, ints, own.1, other.1) }, tt),
      )

  berth-good : IsDeck d → (i : ℕ) → i < length d.ships → AllByRecursion Good (berth_edges d case i)
  berth-good limits i h = all-append Good (inside_edges d i) (host_edges d i (host_in case i)) (inside-good limits i h) (host-good limits i h (host_in case i) refl)

  orders-good : IsDeck d → (cs : List Choice) → AllByRecursion (IsKnownChoice d) cs → AllByRecursion Good (order_edges d cs)
  orders-good limits [] all = tt
  orders-good limits (Lies i b ∷ cs) all = orders-good limits cs all.1
  orders-good limits (Before i j ∷ cs) all =
      let long = (limits.sizes i no_size all.0.0).long in
      let gap = limits.clear.1 in
      let first = all.0.0 in
      let second = all.0.1 in
      (record { from = omega (arith, first); to = omega (arith, second); low = omega (arith, ints, long.1, gap); high = omega (arith, ints, long.1, gap) }, orders-good limits cs all.1)
  orders-good limits (Below i j ∷ cs) all = orders-good limits cs all.1
  orders-good limits (LiesAt i v ∷ cs) all = orders-good limits cs all.1

  along-good : IsDeck d → AllByRecursion Good (along_edges d case)
  along-good limits =
      all-append Good (first_edges d case (length d.ships)) (order_edges d case)
      (all-flat_map Good (berth_edges d case) (numbers_from 0 (length d.ships)) (all-weaker (λ k. (0 ≤ k) × (k < 0 + length d.ships)) (λ k. AllByRecursion Good (berth_edges d case k)) (λ k b. berth-good limits k (omega (arith, b.1))) (numbers_from 0 (length d.ships)) (all-numbers 0 (length d.ships))))
      (orders-good limits case known.all)

  -- an edge of a ship's berth is one of them
  berth-among : (i : ℕ) (e : Edge) → i < length d.ships → IsAmong (berth_edges d case i) e → Contains (along_edges d case) e
  berth-among i e h a =
      contains-among (along_edges d case) e
      (IsAmong-left (first_edges d case (length d.ships)) (order_edges d case) e
      (IsAmong-flat_map (berth_edges d case) (numbers_from 0 (length d.ships)) i e (IsAmong-numbers 0 (length d.ships) i (omega arith) (omega (arith, h))) a))

  host-among : (i k : ℕ) (e : Edge) → host_in case i ≡ Some k → IsAmong (host_edges d i (Some k)) e → Contains (along_edges d case) e
  host-among i k e h a =
      berth-among i e (host-known d case known i k h).0 (IsAmong-right (inside_edges d i) (host_edges d i (host_in case i)) e (subst (λ o. IsAmong (host_edges d i o) e) (sym h) a))

  order-in : (cs : List Choice) (i j n : ℕ) → n < length cs → get_or cs n (Before i j) ≡ Before i j → IsAmong (order_edges d cs) (order_edge d i j)
  order-in [] i j n less e = absurd (omega (arith, less))
  order-in (Lies k b ∷ cs) i j zero less e = absurd (differ e)
    where
      differ : Lies k b ≡ Before i j → ⊥
      differ e = cc
  order-in (Before k l ∷ cs) i j zero less e = inl (ap order-of e)
    where
      order-of : Choice → Edge
      order-of (Before a b) = order_edge d a b
      order-of c = edge 0 0 (pos 0)
  order-in (Below k l ∷ cs) i j zero less e = absurd (differ e)
    where
      differ : Below k l ≡ Before i j → ⊥
      differ e = cc
  order-in (LiesAt k v ∷ cs) i j zero less e = absurd (differ e)
    where
      differ : LiesAt k v ≡ Before i j → ⊥
      differ e = cc
  order-in (Lies k b ∷ cs) i j (suc n) less e = order-in cs i j n (omega (arith, less)) e
  order-in (Before k l ∷ cs) i j (suc n) less e = inr (order-in cs i j n (omega (arith, less)) e)
  order-in (Below k l ∷ cs) i j (suc n) less e = order-in cs i j n (omega (arith, less)) e
  order-in (LiesAt k v ∷ cs) i j (suc n) less e = order-in cs i j n (omega (arith, less)) e

  order-among : (i j : ℕ) → HasOrder case i j → Contains (along_edges d case) (order_edge d i j)
  order-among i j h = contains-among (along_edges d case) (order_edge d i j) (IsAmong-right (first_edges d case (length d.ships)) (order_edges d case) (order_edge d i j) (order-in case i j h.0 h.1 h.2))

  -- the edges are what the solver asks for
  pub along_system : IsDeck d → IsSystem (along_edges d case) (place_count d)
  along_system limits =
      let count = limits.count in
      record {
        some = omega arith;
        few = omega (arith, count.1);
        ends = All-from_recursion _ (along_edges d case) (all-weaker Good (λ e. (e.from < place_count d) × (e.to < place_count d)) (λ e g. (g.from, g.to)) (along_edges d case) (along-good limits));
        weights = All-from_recursion _ (along_edges d case) (all-weaker Good (λ e. (negsuc 999999 ≤ℤ e.weight) × (e.weight ≤ℤ pos 1000000)) (λ e g. (g.low, g.high)) (along_edges d case) (along-good limits));
        reached = λ v some less.
            let i : ℕ = v - 1 in
            let first : Edge = edge 0 (place_var i) (pos d.end) in
            (first, berth-among i first (omega (arith, some, less)) (IsAmong-left (inside_edges d i) (host_edges d i (host_in case i)) first (inl refl)), refl, omega (arith, some), omega (arith, ints));
      }

  -- a solution is places that obey the case
  module _ (values : List ℤ) (x : ℕ → ℕ) (at : AreValuesOf d values x) (solution : AreSolution (along_edges d case) (place_count d) values) where
    obeyed : (e : Edge) → Contains (along_edges d case) e → Obeys values e
    obeyed e h = All-contains (Obeys values) (along_edges d case) e solution.obeyed h

    pub solution_obeys : ObeyAlong d case x
    solution_obeys = record {
      inside = λ i h.
          let origin = solution.origin in
          let own = at.value i h in
          let near = (obeyed (edge 0 (place_var i) (pos d.end)) (berth-among i (edge 0 (place_var i) (pos d.end)) h (inl refl))).far in
          let far = (obeyed _ (berth-among i _ h (inr (inl refl)))).far in
          (omega (arith, ints, origin, own, near), omega (arith, ints, origin, own, far));
      within = λ i k e.
          let ships = host-known d case known i k e in
          let own = at.value i ships.0 in
          let other = at.value k ships.1 in
          let near = (obeyed _ (host-among i k _ e (inl refl))).far in
          let far = (obeyed _ (host-among i k _ e (inr (inl refl)))).far in
          (omega (arith, ints, own, other, near), omega (arith, ints, own, other, far));
      order = λ i j h.
          let ships = order-known i j h in
          let own = at.value i ships.0 in
          let other = at.value j ships.1 in
          let far = (obeyed (order_edge d i j) (order-among i j h)).far in
          omega (arith, ints, own, other, far);
    }
      where
        order-known : (i j : ℕ) → HasOrder case i j → (i < length d.ships) × (j < length d.ships)
        order-known i j h = All-contains (IsKnownChoice d) case (Before i j) (All-from_recursion (IsKnownChoice d) case known.all) h

  -- where no values obey the edges, no places obey the case
  module _ (x : ℕ → ℕ) (obey : ObeyAlong d case x) where
    abbrev values : List ℤ
    values = pos 0 ∷ map (λ i. pos (x i)) (numbers_from 0 (length d.ships))

    value-from : (low n i : ℕ) → i < n → get_or (map (λ k. pos (x k)) (numbers_from low n)) i (pos 0) ≡ pos (x (low + i))
    value-from low zero i h = absurd (omega (arith, h))
    value-from low (suc n) zero h = let e : low ≡ low + 0 = omega arith in ap (λ k. pos (x k)) e
    value-from low (suc n) (suc i) h = let e : suc low + i ≡ low + suc i = omega arith in value-from (suc low) n i (omega (arith, h)) ∙ ap (λ k. pos (x k)) e

    place-value : (i : ℕ) → i < length d.ships → value_at values (place_var i) ≡ pos (x i)
    place-value i h =
        let next : place_var i ≡ suc i = omega arith in
        let first : 0 + i ≡ i = omega arith in
        ap (value_at values) next ∙ value-from 0 (length d.ships) i h ∙ ap (λ k. pos (x k)) first

    inside-obeyed : (i : ℕ) → i < length d.ships → AllByRecursion (Obeys values) (inside_edges d i)
    inside-obeyed i h =
        let own = place-value i h in
        let inside = obey.inside i h in
        let near = inside.0 in
        let far = inside.1 in
        (record { far = omega (arith, ints, own, near) }, (record { far = omega (arith, ints, own, far) }, tt))

    host-obeyed : (i : ℕ) → i < length d.ships → (o : Option ℕ) → host_in case i ≡ o → AllByRecursion (Obeys values) (host_edges d i o)
    host-obeyed i h None e = tt
    host-obeyed i h (Some k) e =
        let own = place-value i h in
        let other = place-value k (host-known d case known i k e).1 in
        let within = obey.within i k e in
        let near = within.0 in
        let far = within.1 in
        (record { far = omega (arith, ints, own, other, near) }, (record { far = omega (arith, ints, own, other, far) }, tt))

    orders-obeyed : (before cs : List Choice) → AllByRecursion (IsKnownChoice d) cs → ((i j : ℕ) → HasOrder cs i j → HasOrder case i j) → AllByRecursion (Obeys values) (order_edges d cs)
    orders-obeyed before [] all of = tt
    orders-obeyed before (Lies i b ∷ cs) all of = orders-obeyed before cs all.1 (λ j k h. of j k (later (Lies i b) cs j k h))
      where
        later : (c : Choice) (cs : List Choice) (j k : ℕ) → HasOrder cs j k → HasOrder (c ∷ cs) j k
        later c cs j k h = (suc h.0, omega (arith, h.1), h.2)
    orders-obeyed before (Before i j ∷ cs) all of =
        let own = place-value i all.0.0 in
        let other = place-value j all.0.1 in
        let far = obey.order i j (of i j (0, omega arith, refl)) in
        (record { far = omega (arith, ints, own, other, far) }, orders-obeyed before cs all.1 (λ k l h. of k l (suc h.0, omega (arith, h.1), h.2)))
    orders-obeyed before (Below i j ∷ cs) all of = absurd all.0
    orders-obeyed before (LiesAt i v ∷ cs) all of = absurd all.0

    all-obeyed : AllByRecursion (Obeys values) (along_edges d case)
    all-obeyed =
        all-append (Obeys values) (first_edges d case (length d.ships)) (order_edges d case)
        (all-flat_map (Obeys values) (berth_edges d case) (numbers_from 0 (length d.ships)) (all-weaker (λ k. (0 ≤ k) × (k < 0 + length d.ships)) (λ k. AllByRecursion (Obeys values) (berth_edges d case k)) (λ k b. berth-obeyed k (omega (arith, b.1))) (numbers_from 0 (length d.ships)) (all-numbers 0 (length d.ships))))
        (orders-obeyed [] case known.all (λ i j h. h))
      where
        berth-obeyed : (i : ℕ) → i < length d.ships → AllByRecursion (Obeys values) (berth_edges d case i)
        berth-obeyed i h = all-append (Obeys values) (inside_edges d i) (host_edges d i (host_in case i)) (inside-obeyed i h) (host-obeyed i h (host_in case i) refl)

    pub cycle_refutes : (numbers : List ℕ) → IsPositiveCycle (along_edges d case) numbers → ⊥
    cycle_refutes numbers cycle = no_values (along_edges d case) values (All-from_recursion (Obeys values) (along_edges d case) all-obeyed) numbers cycle

-- ---- one order more

orders-append : (d : Deck) (cs ds : List Choice) → order_edges d (cs ++ ds) ≡ order_edges d cs ++ order_edges d ds
orders-append d [] ds = refl
orders-append d (Lies i b ∷ cs) ds = orders-append d cs ds
orders-append d (Before i j ∷ cs) ds = ap (λ es. order_edge d i j ∷ es) (orders-append d cs ds)
orders-append d (Below i j ∷ cs) ds = orders-append d cs ds
orders-append d (LiesAt i v ∷ cs) ds = orders-append d cs ds

firsts-same : (d : Deck) (case more : List Choice) → ((i : ℕ) → host_in more i ≡ host_in case i) → (low n : ℕ) → flat_map (berth_edges d more) (numbers_from low n) ≡ flat_map (berth_edges d case) (numbers_from low n)
firsts-same d case more same low zero = refl
firsts-same d case more same low (suc n) =
    ap (λ o. (inside_edges d low ++ host_edges d low o) ++ flat_map (berth_edges d more) (numbers_from (suc low) n)) (same low)
    ∙ ap (λ es. berth_edges d case low ++ es) (firsts-same d case more same (suc low) n)

pub along_more : (d : Deck) (case : List Choice) (a b : ℕ) → along_edges d (case ++ Before a b ∷ []) ≡ along_edges d case ++ order_edges d (Before a b ∷ [])
along_more d case a b =
    ap (λ es. es ++ order_edges d (case ++ Before a b ∷ [])) (firsts-same d case (case ++ Before a b ∷ []) (host_same d case a b) 0 (length d.ships))
    ∙ ap (λ es. first_edges d case (length d.ships) ++ es) (orders-append d case (Before a b ∷ []))
    ∙ sym (append_assoc (first_edges d case (length d.ships)) (order_edges d case) (order_edges d (Before a b ∷ [])))

-- berths alone have no orders
pub along_berths : (d : Deck) (case : List Choice) → AreBerths case → along_edges d case ≡ first_edges d case (length d.ships)
along_berths d case berths = ap (λ es. first_edges d case (length d.ships) ++ es) (none case berths.all) ∙ append-nil (first_edges d case (length d.ships))
  where
    none : (cs : List Choice) → AllByRecursion IsBerth cs → order_edges d cs ≡ []
    none [] all = refl
    none (Lies i b ∷ cs) all = none cs all.1
    none (Before i j ∷ cs) all = absurd all.0
    none (Below i j ∷ cs) all = absurd all.0
    none (LiesAt i v ∷ cs) all = absurd all.0
