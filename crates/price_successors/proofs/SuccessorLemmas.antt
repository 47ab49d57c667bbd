-- Successors by their sums, and what is enough of them.
use Rattle.std.proofs.Common.{◌≡◌, ◌≢◌, ℕ, zero, suc, ◌+◌, ◌*◌, ◌<◌, ◌≤◌, ℤ, pos, ◌≤ℤ◌, true, cond, ◌⊎◌, inl, inr, Some, None, List, [], ◌∷◌, ◌++◌, length, drop, filter, sum_by, All, Contains, refl, sym, ap, ◌∙◌, subst, arith, slice_index_or}
use Rattle.std.specs.declared.option.Option.{Option}
use Rattle.std.proofs.Math.Seq.{get_or-append_seam, drop-cons}
use Rattle.std.proofs.lemmas.Bool.Decides.{eqb_tells, leb_tells}
use Rattle.std.proofs.lemmas.List.{get_or_append_left, get_or_default, length-append, length-drop}
use Rattle.std.specs.List.Sorted.{IsPermutation}
use Rattle.std.proofs.lemmas.List.Sorted.{All-permutation, Contains-permutation}
use Rattle.std.proofs.lemmas.Int.{ints}
use Rattle.std.proofs.lemmas.List.Sums.{sum_by-cons}
use Rattle.std.proofs.lemmas.List.Elements.{All-push, All-append, All-weaker, Contains-append_left, Contains-append_right}
use Rattle.list_laws.proofs.Lists.{same-heads}
use Rattle.lock_model.specs.Fleet.{ship_at}
use Rattle.lock_model.specs.declared.instance.Instance.{Instance}
use Rattle.lock_model.specs.declared.group.Group.{Group}
use Rattle.lock_model.specs.declared.way.Way.{Way}
use Rattle.lock_model.specs.declared.way.Way.TheVariants.{Up, Down}
use Rattle.lock_rules.specs.Arrival.{first_ships}
use Rattle.lock_rules.specs.Node.{IsNodeGroup}
use Rattle.lock_rules.specs.Trace.{has_number}
use Rattle.lock_rules.specs.Children.{insert_number}
use Rattle.lock_rules.proofs.AmongLemmas.{contains-times}
use Rattle.lock_rules.proofs.CountLemmas.{sum_by-passing}
use Rattle.lock_rules.proofs.TreeLemmas.{length-insert_number}
use Rattle.lock_rules.proofs.SplitLemmas.{filter-all}
use Rattle.price_rules.specs.Prices.{PriceList, PlainCut, IsUncut, is_missing, price_at}
use Rattle.price_successors.specs.declared.successor.Successor.{Successor}
use Rattle.price_groups.specs.Asks.{LineAsk, group_ask}
use Rattle.price_groups.specs.Growing.{AreBelow, IsGrown}
use Rattle.price_groups.specs.GrownLists.{IsGrownList}
use Rattle.price_groups.specs.Sparing.{AreForbidden}
use Rattle.price_groups.specs.Sums.{rate_of}
use Rattle.price_groups.specs.Worth.{paid_on, arrivals_of, IsKeptGroup, ServeAsWell, ServeFrom}
use Rattle.price_successors.specs.Successors.{Keeps, IsSuccessor, IsOn, IsBaseOf}
use Rattle.price_successors.specs.Dominance.{Dominates, IsGainless, IsDominated, IsDominatedOrGainless}
use Rattle.price_successors.specs.Enough.{HaveMore, HasOne, HavePut, HaveSome, AreEnoughSuccessors, AreEnoughSuccessorsSoFar}
use Rattle.price_groups.specs.declared.grown_lists.GrownGroup.{GrownGroup}
use Rattle.price_groups.specs.declared.grown_lists.GrownList.{GrownList}
use Rattle.price_successors.proofs.ServeLemmas.{serve-themselves, serve-from, serve-both, serve-later, serve-worth}
use Rattle.price_groups.proofs.IdleLemmas.{fewer-serve, sum-insert}
use Rattle.price_groups.proofs.GrowLemmas.{is_other, again, grown-fewer, missing-fresh}

module _ (L : LineAsk) where
  abbrev I : Instance
  I = L.instance

  abbrev c : ℕ
  c = L.chamber

  abbrev cuts : List PlainCut
  cuts = L.cuts

  abbrev k : ℕ
  k = L.depth

  abbrev prices : PriceList
  prices = L.prices

  -- the rates of ships are what they pay and 100 times their arrivals
  pub rates-sum : (ss : List ℕ) → sum_by (rate_of I k prices) ss ≡ paid_on I k prices ss + 100 * arrivals_of I ss
  rates-sum ss = parts ss ∙ ap (λ n. n + 100 * arrivals_of I ss) (sym (sum_by-passing (price_at prices) (is_missing I k) ss))
    where
      parts : (ss : List ℕ) → sum_by (rate_of I k prices) ss ≡ sum_by (λ s. cond (is_missing I k s) (price_at prices s) 0) ss + 100 * arrivals_of I ss
      parts [] = refl
      parts (s ∷ ss) = omega (
        arith,
        parts ss,
        sum_by-cons (rate_of I k prices) s ss,
        sum_by-cons (λ s. cond (is_missing I k s) (price_at prices s) 0) s ss,
        sum_by-cons (λ s. (ship_at I s).arrival) s ss,
      )

  pub served-itself : (successors : List Successor) (h : Successor) → Contains successors h → IsDominated L successors h.joins h.group
  served-itself successors h held = record { successor = h; held = held; joins = refl; way = refl; as_good = serve-from I c k prices h.group.ships h.group.ships 0 (serve-themselves I k prices h.group.ships) }

  -- more successors serve what fewer do
  pub served-more : (old new : List Successor) (to : Option ℕ) (g : Group) → ((h : Successor) → Contains old h → Contains new h) → IsDominated L old to g → IsDominated L new to g
  served-more old new to g more served = record { successor = served.successor; held = more served.successor served.held; joins = served.joins; way = served.way; as_good = served.as_good }

  pub covered-more : (old new : List Successor) (to : Option ℕ) (g : Group) → ((h : Successor) → Contains old h → Contains new h) → IsDominatedOrGainless L old to g → IsDominatedOrGainless L new to g
  covered-more old new to g more covered = elim covered [ inl served ↦ inl (served-more old new to g more served) | inr vain ↦ inr vain ]

  same-kept : (to : Option ℕ) (g h : Group) → Keeps L to g → Keeps L to h → filter (has_number (first_ships I k)) g.ships ≡ filter (has_number (first_ships I k)) h.ships
  same-kept None g h first second = first ∙ sym second
  same-kept (Some p) g h first second = ap (λ g. g.ships) (same-heads _ _ _ _ (sym first ∙ second))

  -- sums that are no worse serve as well
  pub serves-well : (other successor : Successor) → Dominates other successor → IsSuccessor L other → IsSuccessor L successor → ServeAsWell I k prices other.group.ships successor.group.ships
  serves-well other successor serves first second = record {
    count = serves.count;
    same = same-kept successor.joins other.group successor.group (subst (λ to. Keeps L to other.group) serves.joins first.keeps) second.keeps;
    early = omega (arith, serves.last, first.sums.last, second.sums.last);
    quick = omega (arith, serves.duration, first.sums.duration, second.sums.duration);
    pays = omega (arith, serves.pays, first.sums.pays, second.sums.pays, first.sums.charged, second.sums.charged, rates-sum other.group.ships, rates-sum successor.group.ships);
  }

  pub served-by : (successors : List Successor) (other successor : Successor) → Contains successors other → Dominates other successor → IsSuccessor L other → IsSuccessor L successor → IsDominated L successors successor.joins successor.group
  served-by successors other successor held serves first second = record { successor = other; held = held; joins = serves.joins; way = serves.way; as_good = serve-from I c k prices other.group.ships successor.group.ships 0 (serves-well other successor serves first second) }

  pub one-pushed : (old : List Successor) (successor : Successor) → All (IsSuccessor L) old → IsSuccessor L successor → HasOne L successor old (old ++ successor ∷ [])
  one-pushed old successor each is = record {
    each = All-push (IsSuccessor L) old successor each is;
    kept = λ h at. (at.0, omega (arith, at.1, length-append old (successor ∷ [])), get_or_append_left old (successor ∷ []) h at.0 at.1 ∙ at.2);
    served = served-itself (old ++ successor ∷ []) successor (length old, omega (arith, length-append old (successor ∷ [])), get_or-append_seam old successor [] successor);
  }

  -- successors put one after another
  pub put-start : (more old : List Successor) → All (IsSuccessor L) old → HavePut L more 0 old old
  put-start more old each = record { each = each; kept = λ h at. at; done = λ j d none here. absurd (omega (arith, none)) }

  pub put-next : (more : List Successor) (i : ℕ) (h : Successor) (old now new : List Successor) → i < length more → h ≡ slice_index_or more i h
      → HavePut L more i old now → HasOne L h now new → HavePut L more (i + 1) old new
  put-next more i h old now new here is have one = record {
    each = one.each;
    kept = λ g at. one.kept g (have.kept g at);
    done = λ j d less inside. elim (eqb_tells j i) [
      | inl y ↦
          let same : h ≡ slice_index_or more j d = is ∙ get_or_default more i h d here ∙ ap (λ i. slice_index_or more i d) (sym y.1) in
          subst (λ h. IsDominated L new h.joins h.group) same one.served
      | inr m ↦ served-more now new (slice_index_or more j d).joins (slice_index_or more j d).group one.kept (have.done j d (earlier i j less m.1) inside)
    ];
  }
    where
      earlier : (i j : ℕ) → j < i + 1 → j ≢ i → j < i
      earlier i j less m = elim (leb_tells (suc j) i) [ inl y ↦ y.1 | inr q ↦ absurd (m (omega (arith, less, q.1))) ]

  module _ (to : Option ℕ) (base : Group) where
    -- the order doesn't matter
    pub more-ordered : (old more other : List Successor) → IsPermutation more other → HaveMore L to base old more → HaveMore L to base old other
    more-ordered old more other moved have = record {
      each = All-permutation (IsSuccessor L) more other moved have.each;
      kept = λ h at. Contains-permutation more other h moved (have.kept h at);
      covered = λ g uncut on. covered-more more other to g (λ h at. Contains-permutation more other h moved at) (have.covered g uncut on);
    }

    -- WHAT SERVES FOR ENOUGH CHOICES is enough.
    pub put-done : (more old new : List Successor) → HaveMore L to base [] more → HavePut L more (length more) old new → HaveMore L to base old new
    put-done more old new have put = record {
      each = put.each;
      kept = put.kept;
      covered = λ g uncut on. elim (have.covered g uncut on) [ inl first ↦ inl (put-served more old new put g first) | inr vain ↦ inr vain ];
    }
      where
        put-served : (more old new : List Successor) → HavePut L more (length more) old new → (g : Group) → IsDominated L more to g → IsDominated L new to g
        put-served more old new put g first =
            let at = first.held in
            let then = subst (λ h. IsDominated L new h.joins h.group) at.2 (put.done at.0 first.successor at.1 at.1) in
            record {
              successor = then.successor;
              held = then.held;
              joins = then.joins ∙ first.joins;
              way = then.way ∙ first.way;
              as_good = serve-both I c k prices then.successor.group.ships first.successor.group.ships g.ships 0 then.as_good first.as_good;
            }

    -- successors put to others
    pub more-together : (all more : List Successor) → All (IsSuccessor L) all → HaveMore L to base [] more → HaveMore L to base all (all ++ more)
    more-together all more each have = record {
      each = All-append (IsSuccessor L) all more each have.each;
      kept = λ h at. Contains-append_left all more h at;
      covered = λ g uncut on. covered-more more (all ++ more) to g (λ h at. Contains-append_right all more h at) (have.covered g uncut on);
    }

  module _ (sets : List (List ℕ)) (are : AreForbidden I c cuts sets) (base : Group) where
    -- what was grown is uncut unless it is empty, and all that is uncut was grown
    pub grown-uncut : (n : ℕ) (g : Group) → IsGrown I c k sets base n g → 1 ≤ length g.ships → IsUncut I c cuts g
    grown-uncut n g h some = record {
      good = record { rising = h.rising; count = (some, h.few); way = All-weaker (λ s. (ship_at I s).way ≡ base.way) (λ s. (ship_at I s).way ≡ g.way) (λ s w. w ∙ sym h.way) g.ships h.ways };
      known = h.known;
      spared = are.spared g.ships h.known h.missed;
    }

    uncut-grown : (g : Group) → IsUncut I c cuts g → IsOn I k base g → IsGrown I c k sets base (length I.ships) g
    uncut-grown g uncut on = record {
      rising = uncut.good.rising;
      known = uncut.known;
      few = uncut.good.count.1;
      way = on.way;
      ways = All-weaker (λ s. (ship_at I s).way ≡ g.way) (λ s. (ship_at I s).way ≡ base.way) (λ s w. w ∙ on.way) g.ships uncut.good.way;
      missed = are.missed g.ships uncut.known uncut.spared;
      keeps = on.keeps;
      allowed = All-weaker (λ s. s < length I.ships) (λ s. (has_number (first_ships I k) s ≡ true) ⊎ (s < length I.ships)) (λ s h. inr h) g.ships uncut.known;
    }

  module _ (sets : List (List ℕ)) (are : AreForbidden I c cuts sets) (to : Option ℕ) (ceilings : PriceList) (below : AreBelow prices ceilings) (list : GrownList) (grown : IsGrownList (group_ask I c k ceilings sets) list) where
    abbrev groups : List GrownGroup
    groups = list.groups.items

    before : (i j : ℕ) → j < suc i → j ≢ i → j < i
    before i j less m = elim (leb_tells (suc j) i) [ inl y ↦ y.1 | inr q ↦ absurd (m (omega (arith, less, q.1))) ]

    -- an empty group is no successor
    pub some-skip : (i : ℕ) (d : GrownGroup) (old new : List Successor) → i < length groups → length (slice_index_or groups i d).group.ships ≡ 0 → HaveSome L to groups i old new → HaveSome L to groups (suc i) old new
    some-skip i d old new here none have = record {
      each = have.each;
      kept = have.kept;
      done = λ j e less inside some. elim (eqb_tells j i) [
        | inl y ↦ let same = ap (λ j. slice_index_or groups j e) y.1 ∙ get_or_default groups i e d here in absurd (omega (arith, some, none, ap (λ (one : GrownGroup). length one.group.ships) same))
        | inr m ↦ have.done j e (before i j less m.1) inside some
      ];
    }

    pub some-next : (i : ℕ) (d : GrownGroup) (old now new : List Successor) (successor : Successor) → i < length groups → successor.joins ≡ to → successor.group ≡ (slice_index_or groups i d).group
        → HaveSome L to groups i old now → HasOne L successor now new → HaveSome L to groups (suc i) old new
    some-next i d old now new successor here joins is have one = record {
      each = one.each;
      kept = λ h at. one.kept h (have.kept h at);
      done = λ j e less inside some. elim (eqb_tells j i) [
        | inl y ↦
            let same : successor.group ≡ (slice_index_or groups j e).group = is ∙ ap (λ (one : GrownGroup). one.group) (sym (ap (λ j. slice_index_or groups j e) y.1 ∙ get_or_default groups i e d here)) in
            inl (subst (IsDominated L new to) same (subst (λ to. IsDominated L new to successor.group) joins one.served))
        | inr m ↦ covered-more now new to (slice_index_or groups j e).group one.kept (have.done j e (before i j less m.1) inside some)
      ];
    }

    -- a group that gains nothing is left out
    pub some-vain : (i : ℕ) (d : GrownGroup) (old new : List Successor) → i < length groups → IsGainless L 0 to (slice_index_or groups i d).group → HaveSome L to groups i old new → HaveSome L to groups (suc i) old new
    some-vain i d old new here vain have = record {
      each = have.each;
      kept = have.kept;
      done = λ j e less inside some. elim (eqb_tells j i) [
        | inl y ↦ inr (subst (λ (one : GrownGroup). IsGainless L 0 to one.group) (sym (ap (λ j. slice_index_or groups j e) y.1 ∙ get_or_default groups i e d here)) vain)
        | inr m ↦ have.done j e (before i j less m.1) inside some
      ];
    }

    -- a group that others serve for is covered where they are
    covered-by : (known : c < length I.chambers) (successors : List Successor) (way : Way) (hs gs : List ℕ) → ServeFrom I c k prices 0 hs gs → IsDominatedOrGainless L successors to (record { way = way; ships = hs }) → IsDominatedOrGainless L successors to (record { way = way; ships = gs })
    covered-by known successors way hs gs well (inl served) = inl (record {
      successor = served.successor;
      held = served.held;
      joins = served.joins;
      way = served.way;
      as_good = serve-both I c k prices served.successor.group.ships hs gs 0 served.as_good well;
    })
    covered-by known successors way hs gs well (inr vain) = inr (record {
      alone = vain.alone;
      gainless = λ stand from past. above _ _ (vain.gainless stand from past) (serve-worth I c known k prices way hs gs stand from (serve-later I c k prices hs gs 0 from (omega arith) well));
    })
      where
        above : (u v : ℤ) → pos 0 ≤ℤ u → u ≤ℤ v → pos 0 ≤ℤ v
        above u v h j = omega (arith, ints)

    -- ALL ARE COVERED: one with a ship that gains nothing as it is without the ship.
    covered-all : (known : c < length I.chambers) (old new : List Successor) → HaveSome L to groups (length groups) old new → (n : ℕ) (g : Group) → length g.ships ≤ n → IsUncut I c cuts g → IsOn I k list.base g → IsDominatedOrGainless L new to g
    covered-all known old new have zero g small uncut on = absurd (omega (arith, small, uncut.good.count.0))
    covered-all known old new have (suc n) g small uncut on =
        let is = uncut-grown sets are list.base g uncut on in
        elim (grown.whole g is) [
          | inl has ↦
              let at = has.held in
              let same : (slice_index_or groups at.0 has.one).group ≡ g = ap (λ (one : GrownGroup). one.group) at.2 ∙ has.is in
              subst (IsDominatedOrGainless L new to) same (have.done at.0 has.one at.1 at.1 (subst (λ (g : Group). 1 ≤ length g.ships) (sym same) uncut.good.count.0))
          | inr idler ↦
              let s = idler.ship in
              let less = filter (is_other s) g.ships in
              let h : Group = record { way = g.way; ships = less } in
              let fewer = grown-fewer I c k prices sets list.base (length I.ships) s g (missing-fresh I k s idler.missing) is in
              let back : insert_number s less ≡ g.ships = again s g.ships is.rising (contains-times g.ships s idler.held) in
              let count : length g.ships ≡ suc (length less) = ap length (sym back) ∙ length-insert_number s less in
              let sums = rates-sum g.ships in
              let others = rates-sum less in
              let more : sum_by (rate_of I k prices) g.ships ≡ rate_of I k prices s + sum_by (rate_of I k prices) less = ap (sum_by (rate_of I k prices)) (sym back) ∙ sum-insert (rate_of I k prices) s less in
              let rate : rate_of I k prices s ≡ 100 * (ship_at I s).arrival + price_at prices s = λ i. 100 * (ship_at I s).arrival + cond (idler.missing i) (price_at prices s) 0 in
              let well = fewer-serve I c k prices (is_other s) s (rate_of I k prices s) g.ships back (omega (arith, sums, others, more)) (omega (arith, rate, idler.idle, below s)) in
              covered-by known new g.way less g.ships well
              (covered-all known old new have n h (omega (arith, count, small)) (grown-uncut sets are list.base (length I.ships) h fewer (omega (arith, count, idler.several))) (record { way = on.way; keeps = fewer.keeps }))
        ]

    pub some-done : (known : c < length I.chambers) (old new : List Successor) → HaveSome L to groups (length groups) old new → HaveMore L to list.base old new
    some-done known old new have = record {
      each = have.each;
      kept = have.kept;
      covered = λ g uncut on. covered-all known old new have (length g.ships) g (omega arith) uncut on;
    }

module _ (L : LineAsk) where
  -- a group of the line
  pub base-own : All (IsNodeGroup L.instance L.chamber) L.line → All (IsKeptGroup L.instance L.depth) L.line → All (λ g. All (λ s. s < length L.instance.ships) g.ships) L.line → (p : ℕ) (d : Group) → p < length L.line → IsBaseOf L (Some p) (slice_index_or L.line p d)
  base-own good kept known p d here =
      let g = slice_index_or L.line p d in
      record {
        good = record {
          rising = (good p d here).rising;
          known = known p d here;
          few = (good p d here).count.1;
          ways = (good p d here).way;
          keeps = filter-all (has_number (first_ships L.instance L.depth)) g.ships (kept p d here).kept;
        };
        keeps = λ h on. drop-cons L.line p d here ∙ (λ i. record { way = sym on.way i; ships = sym on.keeps i } ∷ drop (suc p) L.line);
      }

  inside : (p : ℕ) (xs ys : List Group) (y : Group) → drop p xs ≡ y ∷ ys → p < length xs
  inside p xs ys y e = omega (arith, length-drop p xs, ap length e)

  pub some-none : (first both : List Successor) → HaveMore L None (record { way = Up; ships = [] }) [] first → HaveMore L None (record { way = Down; ships = [] }) first both → AreEnoughSuccessorsSoFar L 0 both
  some-none first both up down = record {
    each = down.each;
    free = λ g uncut keeps. by_way g.way g refl uncut keeps;
    own = λ p g less uncut keeps. absurd (omega (arith, less));
  }
    where
      by_way : (way : Way) (g : Group) → g.way ≡ way → IsUncut L.instance L.chamber L.cuts g → filter (has_number (first_ships L.instance L.depth)) g.ships ≡ [] → IsDominatedOrGainless L both None g
      by_way Up g same uncut keeps = covered-more L first both None g down.kept (up.covered g uncut (record { way = same; keeps = keeps }))
      by_way Down g same uncut keeps = down.covered g uncut (record { way = same; keeps = keeps })

  pub own-next : (i : ℕ) (d : Group) (old new : List Successor) → i < length L.line → AreEnoughSuccessorsSoFar L i old → HaveMore L (Some i) (slice_index_or L.line i d) old new → AreEnoughSuccessorsSoFar L (suc i) new
  own-next i d old new here some more = record {
    each = more.each;
    free = λ g uncut keeps. covered-more L old new None g more.kept (some.free g uncut keeps);
    own = λ p g less uncut keeps. elim (eqb_tells p i) [
      | inl y ↦ subst (λ p. IsDominatedOrGainless L new (Some p) g) (sym y.1) (more.covered g uncut (on g (subst (λ p. Keeps L (Some p) g) y.1 keeps)))
      | inr m ↦ covered-more L old new (Some p) g more.kept (some.own p g (below p i less m.1) uncut keeps)
    ];
  }
    where
      below : (p i : ℕ) → p < suc i → p ≢ i → p < i
      below p i less m = elim (leb_tells (suc p) i) [ inl y ↦ y.1 | inr q ↦ absurd (m (omega (arith, less, q.1))) ]

      on : (g : Group) → Keeps L (Some i) g → IsOn L.instance L.depth (slice_index_or L.line i d) g
      on g keeps =
          let same = same-heads _ _ _ _ (sym (drop-cons L.line i d here) ∙ keeps) in
          record { way = ap (λ g. g.way) (sym same); keeps = ap (λ g. g.ships) (sym same) }

  -- those of all places
  pub all-some : (successors : List Successor) → AreEnoughSuccessorsSoFar L (length L.line) successors → AreEnoughSuccessors L successors
  all-some successors some = record { each = some.each; whole = whole }
    where
      whole : (to : Option ℕ) (g : Group) → IsUncut L.instance L.chamber L.cuts g → Keeps L to g → IsDominatedOrGainless L successors to g
      whole None g uncut keeps = some.free g uncut keeps
      whole (Some p) g uncut keeps = some.own p g (inside p L.line _ _ keeps) uncut keeps
