-- All uncut groups of a way.
use Rattle.std.proofs.Common.{◌≡◌, ◌≢◌, ℕ, suc, ◌+◌, ◌*◌, ◌<◌, ◌≤◌, max, min, Bool, true, false, ◌||◌, ◌⊎◌, inl, inr, List, [], ◌∷◌, length, All, Contains, filter, map, slice_set, get_or-set_same, get_or-set_other, refl, sym, ap, ◌∙◌, subst, arith, slice_index_or}
use Rattle.std.proofs.lemmas.Bool.Decides.{eqb_tells, leb_tells}
use Rattle.std.proofs.lemmas.List.{get_or-map, get_or_default, get_or_past}
use Rattle.std.proofs.lemmas.List.Elements.{All-contains, All-contains_itself, All-filter, All-nil, All-weaker}
use Rattle.std.proofs.lemmas.List.Sums.{sum_by-le}
use Rattle.lock_model.specs.Fleet.{ship_at, chamber_at, no_ship, no_chamber}
use Rattle.lock_model.specs.declared.limits.TheConstants.{MOST, SHIPS}
use Rattle.lock_model.specs.declared.instance.Instance.{Instance}
use Rattle.lock_model.specs.declared.group.Group.{Group}
use Rattle.lock_model.specs.declared.ship.Ship.{Ship}
use Rattle.lock_model.specs.declared.way.Way.{Way}
use Rattle.lock_rules.specs.Arrival.{first_ships}
use Rattle.lock_rules.specs.Timetable.{last_arrival}
use Rattle.lock_rules.specs.Trace.{has_number}
use Rattle.lock_rules.proofs.TimetableLemmas.{last_arrival-least}
use Rattle.lock_rules.specs.Children.{insert_number}
use Rattle.lock_rules.proofs.AmongLemmas.{contains-times}
use Rattle.lock_rules.proofs.TreeLemmas.{length-insert_number}
use Rattle.price_rules.specs.Prices.{PriceList, price_at}
use Rattle.price_groups.specs.Asks.{LineAsk, IsUncutIn, group_ask}
use Rattle.price_groups.specs.Growing.{IsGrown, IsBase, HasIdler, AreBelow}
use Rattle.price_groups.specs.GrownLists.{HasGroup, IsGrownGroup, IsGrownList}
use Rattle.price_groups.specs.Sparing.{AreForbidden}
use Rattle.price_groups.specs.Worth.{soonest_of}
use Rattle.price_groups.proofs.GrowLemmas.{is_other, again, grown-fewer, missing-fresh}
use Rattle.price_groups.specs.declared.grown_lists.GrownGroup.{GrownGroup}
use Rattle.price_groups.specs.declared.grown_lists.GrownList.{GrownList}
use Rattle.sweep_labels.specs.Ships.{is_in, HoldsAll}
use Rattle.sweep_arcs.specs.declared.way_groups.Latest.{Latest}
use Rattle.sweep_arcs.specs.Ways.{AreCeilings, IsIdleGroup, AreBefore, IsBrief, IsWayGroup, AreWayGroups, AreJoined}

earlier : (i j : ℕ) → j ≢ i → j < i + 1 → j < i
earlier i j other less = elim (leb_tells (suc j) i) [ inl y ↦ y.1 | inr q ↦ absurd (other (omega (arith, less, q.1))) ]

pub ceilings_first : (prices : PriceList) (spread : ℕ) (ceilings : List ℕ) → AreCeilings prices spread 0 ceilings
ceilings_first prices spread ceilings = record { each = λ s less. absurd (omega (arith, less)); fair = λ s less. absurd (omega (arith, less)) }

pub ceilings_next : (prices : PriceList) (spread n price own : ℕ) (old : List ℕ) → n < length old → price ≡ price_at prices n → price ≤ 1000000 → own ≡ min 1000000 (price + spread + 1)
    → AreCeilings prices spread n old → AreCeilings prices spread (n + 1) (slice_set old n own)
ceilings_next prices spread n price own old here is fair raised before = record {
  each = λ s less. elim (eqb_tells s n) [
    | inl y ↦ ap (λ s. slice_index_or (slice_set old n own) s 0) y.1 ∙ get_or-set_same old n own 0 here ∙ raised ∙ ap (λ p. min 1000000 (p + spread + 1)) (is ∙ ap (price_at prices) (sym y.1))
    | inr m ↦ get_or-set_other old n s own 0 m.1 ∙ before.each s (earlier n s m.1 less)
  ];
  fair = λ s less. elim (eqb_tells s n) [
    | inl y ↦ omega (arith, ap (price_at prices) y.1, is, fair)
    | inr m ↦ before.fair s (earlier n s m.1 less)
  ];
}

-- what is no more than prices may be isn't capped
pub ceilings-capped : (prices : PriceList) (spread : ℕ) (high : List ℕ) → length high ≡ SHIPS → AreCeilings prices spread SHIPS high → AreCeilings prices spread SHIPS (map (min 1000000) high)
ceilings-capped prices spread high count are = record {
  each = λ s less. get_or-map (min 1000000) high s 0 0 (omega (arith, less, count)) ∙ ap (min 1000000) (are.each s less) ∙ twice (price_at prices s + spread + 1);
  fair = are.fair;
}
  where
    twice : (n : ℕ) → min 1000000 (min 1000000 n) ≡ min 1000000 n
    twice n = omega arith

pub before_first : (I : Instance) (latest : Latest) → AreBefore I latest 0
before_first I latest = record { arrivals = λ s less. absurd (omega (arith, less)); handlings = λ s less. absurd (omega (arith, less)) }

pub before_next : (I : Instance) (arrival handling n : ℕ) (ship : Ship) → n < length I.ships → ship ≡ slice_index_or I.ships n ship
    → AreBefore I (record { arrival = arrival; handling = handling }) n → AreBefore I (record { arrival = max ship.arrival arrival; handling = max ship.handling handling }) (n + 1)
before_next I arrival handling n ship here is before = record {
  arrivals = λ s less. elim (eqb_tells s n) [
    | inl y ↦ omega (arith, ap (λ (ship : Ship). ship.arrival) (same s y.1))
    | inr m ↦ omega (arith, before.arrivals s (earlier n s m.1 less))
  ];
  handlings = λ s less. elim (eqb_tells s n) [
    | inl y ↦ omega (arith, ap (λ (ship : Ship). ship.handling) (same s y.1))
    | inr m ↦ omega (arith, before.handlings s (earlier n s m.1 less))
  ];
}
  where
    same : (s : ℕ) → s ≡ n → ship_at I s ≡ ship
    same s y = ap (ship_at I) y ∙ get_or_default I.ships n no_ship ship here ∙ sym is

pub brief-by : (L : LineAsk) (latest : Latest) (pass : ℕ) → AreBefore L.instance latest (length L.instance.ships) → pass ≡ (chamber_at L.instance L.chamber).pass
    → latest.arrival + pass + latest.handling * MOST < 10000 → IsBrief L
brief-by L latest pass before own short = record { soon = soon }
  where
    soon : (ships : List ℕ) → All (λ s. s < length L.instance.ships) ships → length ships ≤ MOST → soonest_of L.instance L.chamber 0 ships < 10000
    soon ships known few =
        let last : last_arrival L.instance 0 ships ≤ latest.arrival = last_arrival-least L.instance 0 latest.arrival ships (omega arith) (All-weaker (λ s. s < length L.instance.ships) (λ s. (ship_at L.instance s).arrival ≤ latest.arrival) before.arrivals ships known) in
        let each = All-weaker (λ s. s < length L.instance.ships) (λ s. (ship_at L.instance s).handling ≤ latest.handling) before.handlings ships known in
        let sum = sum_by-le (λ s. (ship_at L.instance s).handling) latest.handling ships each in
        let most : length ships * latest.handling ≤ latest.handling * MOST = product (length ships) latest.handling few in
        omega (arith, last, sum, most, own, short)
      where
        product : (n long : ℕ) → n ≤ MOST → n * long ≤ long * MOST
        product n long few = grind arith

pub joined_first : (groups : List GrownGroup) (bits : ℕ) → AreJoined groups 0 bits
joined_first groups bits = record { each = λ k d less. absurd (omega (arith, less)) }

pub joined_next : (groups : List GrownGroup) (n : ℕ) (one : GrownGroup) (old new : ℕ) → n < length groups → one ≡ slice_index_or groups n one
    → AreJoined groups n old → ((s : ℕ) → is_in new s ≡ (is_in old s || is_in one.sums.mask s)) → AreJoined groups (n + 1) new
joined_next groups n one old new here is joined more = record {
  each = λ k d less. elim (eqb_tells k n) [
    | inl y ↦
        let same : one ≡ slice_index_or groups k d = is ∙ get_or_default groups n one d here ∙ ap (λ i. slice_index_or groups i d) (sym y.1) in
        subst (λ (one : GrownGroup). HoldsAll new one.sums.mask) same (record { all = λ s own. more s ∙ ap (λ b. is_in old s || b) own ∙ either (is_in old s) })
    | inr m ↦ record { all = λ s own. more s ∙ ap (λ b. b || is_in one.sums.mask s) ((joined.each k d (earlier n k m.1 less)).all s own) }
  ];
}
  where
    either : (b : Bool) → (b || true) ≡ true
    either true = refl
    either false = refl

pub below-ceilings : (prices : PriceList) (spread : ℕ) (ceilings : PriceList) → length prices.ships ≤ SHIPS → AreCeilings prices spread SHIPS ceilings.ships → AreBelow prices ceilings
below-ceilings prices spread ceilings few are s = elim (leb_tells (suc s) SHIPS) [
  | inl y ↦ omega (arith, are.each s y.1, are.fair s y.1)
  | inr q ↦ omega (arith, get_or_past prices.ships s 0 (omega (arith, q.1, few)))
]

filter-none : (ships : List ℕ) → filter (has_number []) ships ≡ []
filter-none [] = refl
filter-none (s ∷ ships) = filter-none ships

module _ (L : LineAsk) (root : L.depth ≡ 0) (way : Way) where
  abbrev pub empty : Group
  empty = record { way = way; ships = [] }

  none-first : first_ships L.instance L.depth ≡ []
  none-first = ap (first_ships L.instance) root

  pub empty-base : IsBase L.instance L.chamber L.depth empty
  empty-base = record {
    rising = λ k less. absurd (omega (arith, less));
    known = All-nil (λ s. s < length L.instance.ships);
    few = omega arith;
    ways = All-nil (λ s. (ship_at L.instance s).way ≡ way);
    keeps = refl;
  }

  -- ALL UNCUT GROUPS OF THE WAY ARE GROWN but such ones
  pub all-grown : (sets : List (List ℕ)) (spread : ℕ) (ceilings : PriceList) (list : GrownList) → L.chamber < length L.instance.chambers → AreForbidden L.instance L.chamber L.cuts sets
      → AreCeilings L.prices spread SHIPS ceilings.ships → IsBrief L → list.base ≡ empty → IsGrownList (group_ask L.instance L.chamber L.depth ceilings sets) list → AreWayGroups L way spread list.groups.items
  all-grown sets spread ceilings list known forbids are brief base grown = record { each = λ k d here. own (slice_index_or list.groups.items k d) (grown.each k d here); whole = whole }
    where
      most : (chamber_at L.instance L.chamber).most ≤ MOST
      most = (L.instance.limits.chamber L.chamber no_chamber known).most.1

      own : (one : GrownGroup) → IsGrownGroup L.instance L.chamber L.depth sets list.base one → IsWayGroup L way one
      own one is = record {
        known = is.grown.known;
        few = omega (arith, is.grown.few, most);
        same = is.grown.way ∙ ap (λ (g : Group). g.way) base;
        mask = is.sums.mask;
      }

      growing : (g : Group) → IsUncutIn L g → g.way ≡ way → IsGrown L.instance L.chamber L.depth sets empty (length L.instance.ships) g
      growing g is same = record {
        rising = is.good.rising;
        known = is.known;
        few = is.good.count.1;
        way = same;
        ways = All-weaker (λ s. (ship_at L.instance s).way ≡ g.way) (λ s. (ship_at L.instance s).way ≡ way) (λ s w. w ∙ same) g.ships is.good.way;
        missed = forbids.missed g.ships is.known is.spared;
        keeps = ap (λ first. filter (has_number first) g.ships) none-first ∙ filter-none g.ships;
        allowed = All-weaker (λ s. s < length L.instance.ships) (λ s. (has_number (first_ships L.instance L.depth) s ≡ true) ⊎ (s < length L.instance.ships)) (λ s h. inr h) g.ships is.known;
      }

      -- without a ship that gains nothing at the ceilings
      idle : (g : Group) → IsUncutIn L g → IsGrown L.instance L.chamber L.depth sets empty (length L.instance.ships) g → HasIdler L.instance L.chamber L.depth ceilings g → IsIdleGroup L spread g
      idle g uncut is idler =
          let s = idler.ship in
          let less = filter (is_other s) g.ships in
          let h : Group = record { way = g.way; ships = less } in
          let fewer = grown-fewer L.instance L.chamber L.depth ceilings sets empty (length L.instance.ships) s g (missing-fresh L.instance L.depth s idler.missing) is in
          let back : insert_number s less ≡ g.ships = again s g.ships is.rising (contains-times g.ships s idler.held) in
          let count : length g.ships ≡ suc (length less) = ap length (sym back) ∙ length-insert_number s less in
          let here : s < length L.instance.ships = All-contains (λ s. s < length L.instance.ships) g.ships s uncut.known idler.held in
          let ceiling = are.each s (omega (arith, here, L.instance.limits.ship_count.1)) in
          let soon = brief.soon g.ships uncut.known (omega (arith, uncut.good.count.1, most)) in
          record {
            others = h;
            uncut = record {
              good = record { rising = fewer.rising; count = (omega (arith, count, idler.several), fewer.few); way = All-weaker (λ s. (ship_at L.instance s).way ≡ way) (λ s. (ship_at L.instance s).way ≡ g.way) (λ s w. w ∙ sym is.way) less fewer.ways };
              known = fewer.known;
              spared = forbids.spared less fewer.known fewer.missed;
            };
            same = refl;
            among = All-filter (is_other s) (Contains g.ships) g.ships (All-contains_itself g.ships);
            ship = s;
            joined = back;
            idle = late (price_at ceilings s) (price_at L.prices s) (ship_at L.instance s).arrival (soonest_of L.instance L.chamber 0 g.ships) ceiling soon idler.idle;
          }
        where
          late : (high price arrival end : ℕ) → high ≡ min 1000000 (price + spread + 1) → end < 10000 → high + 100 * arrival ≤ 100 * end → price + spread + 100 * arrival < 100 * end
          late high price arrival end is soon past = omega (arith, is, soon, past)

      whole : (g : Group) → IsUncutIn L g → g.way ≡ way → HasGroup list.groups.items g ⊎ IsIdleGroup L spread g
      whole g is same = elim (grown.whole g (subst (λ base. IsGrown L.instance L.chamber L.depth sets base (length L.instance.ships) g) (sym base) (growing g is same))) [
        | inl has ↦ inl has
        | inr idler ↦ inr (idle g is (growing g is same) idler)
      ]
