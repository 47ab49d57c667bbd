-- One chamber and one late set more, before a sweep begins.
use Rattle.std.proofs.Common.{◌≡◌, ◌≢◌, ℕ, ◌+◌, ◌<◌, inl, inr, List, [], ◌∷◌, ◌++◌, All, length, refl, sym, ap, ◌∙◌, subst, arith, slice_index_or, length-append}
use Rattle.std.proofs.lemmas.Bool.Decides.{eqb_tells}
use Rattle.std.proofs.lemmas.List.{get_or_append_left}
use Rattle.std.proofs.Math.Seq.{get_or-append_seam}
use Rattle.lock_model.specs.declared.instance.Instance.{Instance}
use Rattle.price_rules.specs.Prices.{PriceList, PlainCut}
use Rattle.price_terms.specs.Cuts.{plain_cuts}
use Rattle.price_groups.specs.Asks.{line_ask}
use Rattle.price_groups.specs.Asked.{line_asked}
use Rattle.price_groups.specs.declared.line_case.LineCase.{LineCase}
use Rattle.sweep_labels.specs.Coming.{AllArrive}
use Rattle.sweep_arcs.specs.declared.lane.Lane.{Lane}
use Rattle.sweep_arcs.specs.Lanes.{ask_of, IsLane}
use Rattle.sweep.specs.declared.asked.SweepAsked.{SweepAsked}
use Rattle.sweep.specs.declared.late.LateShips.{LateShips}
use Rattle.sweep.specs.declared.sweep_case.SweepCase.{SweepCase}
use Rattle.sweep.specs.declared.sweeper.Sweeper.{Sweeper}
use Rattle.sweep.specs.Bounds.{cuts_of, IsLaneOf, AreLanesFrom}
use Rattle.sweep.specs.Late.{AreLanes, IsGuided}
use Rattle.sweep.specs.Going.{IsSound}
use Rattle.sweep.specs.Ends.{IsCase, IsRootCase, AreCasesFrom, HasCasesMore, HasRowMore, IsRow, AreAllCases, AreLanesBy, AreLanesAsked}

before : (k n : ℕ) → k ≢ n → k < n + 1 → k < n
before k n other less = omega arith

-- facts of the first n items of a list, and of one more
module _ {A : Type 0} (P : ℕ → A → Type 0) where
  pub items_more : (items : List A) (n : ℕ) (own : A) → length items ≡ n → ((k : ℕ) (d : A) → k < n → P k (slice_index_or items k d)) → P n own
      → (k : ℕ) (d : A) → k < n + 1 → P k (slice_index_or (items ++ own ∷ []) k d)
  items_more items n own count each here k d less = elim (eqb_tells k n) [
    | inl y ↦
        let seam : slice_index_or (items ++ own ∷ []) k d ≡ own = ap (λ j. slice_index_or (items ++ own ∷ []) j d) (y.1 ∙ sym count) ∙ get_or-append_seam items own [] d in
        subst (P k) (sym seam) (subst (λ j. P j own) (sym y.1) here)
    | inr m ↦
        let low : k < n = before k n m.1 less in
        subst (P k) (sym (get_or_append_left items (own ∷ []) d k (subst (λ j. k < j) (sym count) low))) (each k d low)
  ]

pub count_more : {A : Type 0} (items : List A) (n : ℕ) (own : A) → length items ≡ n → length (items ++ own ∷ []) ≡ n + 1
count_more items n own count = length-append items (own ∷ []) ∙ ap (λ j. j + 1) count

-- the cases of no chambers, and of one more
pub cases_none : (I : Instance) (cuts : List PlainCut) (prices : PriceList) (old : List LineCase) → All IsRootCase old → HasCasesMore I cuts prices 0 old old
cases_none I cuts prices old roots = record {
  count = omega arith;
  kept = λ k d less. refl;
  roots = roots;
  own = record { within = omega arith; each = λ c d none. absurd (omega (arith, none)) };
}

pub cases_more : (asked : SweepAsked) (n : ℕ) (old new items : List LineCase) (own : LineCase) → IsCase asked n own → items ≡ new ++ own ∷ []
    → HasCasesMore asked.instance.now (plain_cuts asked.instance.now asked.cuts.now) asked.prices.now n old new → HasCasesMore asked.instance.now (plain_cuts asked.instance.now asked.cuts.now) asked.prices.now (n + 1) old items
cases_more asked n old new items own is appended so_far =
    subst (HasCasesMore I cuts asked.prices.now (n + 1) old) (sym appended) (record {
      count = omega (arith, longer, so_far.count);
      kept = λ k d less. get_or_append_left new (own ∷ []) d k (omega (arith, less, so_far.count)) ∙ so_far.kept k d less;
      roots = λ k d within. items_more (λ j case. IsRootCase case) new (length new) own refl so_far.roots (record { root = is.root; empty = is.empty }) k d (omega (arith, within, longer));
      own = record {
        within = omega (arith, longer, so_far.count);
        each = λ c d less. elim (eqb_tells c n) [
          | inl y ↦
              let here : length old + c ≡ length new = omega (arith, y.1, so_far.count) in
              let seam : slice_index_or (new ++ own ∷ []) (length old + c) d ≡ own = ap (λ j. slice_index_or (new ++ own ∷ []) j d) here ∙ get_or-append_seam new own [] d in
              ap line_asked seam ∙ is.is ∙ sym (ap (λ j. line_ask I j cuts 0 asked.prices.now []) y.1)
          | inr m ↦
              let low : c < n = before c n m.1 less in
              ap line_asked (get_or_append_left new (own ∷ []) d (length old + c) (omega (arith, low, so_far.count))) ∙ so_far.own.each c d low
        ];
      };
    })
  where
    I : Instance
    I = asked.instance.now

    cuts : List PlainCut
    cuts = plain_cuts asked.instance.now asked.cuts.now

    longer : length (new ++ own ∷ []) ≡ length new + 1
    longer = count_more new (length new) own refl

-- cases stay as others are put behind them
cases_on : (I : Instance) (cuts : List PlainCut) (prices more_prices : PriceList) (first n more : ℕ) (old new : List LineCase) → HasCasesMore I cuts more_prices more old new
    → AreCasesFrom I cuts prices first n old → AreCasesFrom I cuts prices first n new
cases_on I cuts prices more_prices first n more old new has are = record {
  within = omega (arith, are.within, has.count);
  each = λ c d less. ap line_asked (has.kept (first + c) d (omega (arith, less, are.within))) ∙ are.each c d less;
}

-- the cases by all prices, and those by the prices of early ships of one late set more
pub rows_none : (asked : SweepAsked) (late : List LateShips) (none items : List LineCase) → none ≡ [] → HasRowMore asked asked.prices.now none items → AreAllCases asked late 0 items
rows_none asked late none items is has = record {
  roots = has.roots;
  own = subst (λ first. IsRow asked asked.prices.now first items) (ap length is) has.own;
  rows = λ k d none. absurd (omega (arith, none));
}

pub rows_more : (asked : SweepAsked) (late : List LateShips) (n : ℕ) (ships : LateShips) (old new : List LineCase) → ((d : LateShips) → slice_index_or late n d ≡ ships) → ships.first ≡ length old
    → HasRowMore asked ships.prices old new → AreAllCases asked late n old → AreAllCases asked late (n + 1) new
rows_more asked late n ships old new here first has so_far = record {
  roots = has.roots;
  own = cases_on I cuts asked.prices.now ships.prices 0 (length I.chambers) (length I.chambers) old new has so_far.own;
  rows = λ k d less. elim (eqb_tells k n) [
    | inl y ↦
        subst (λ k. IsOwn (slice_index_or late k d)) (sym y.1) (subst IsOwn (sym (here d)) (subst (λ first. IsRow asked ships.prices first new) (sym first) has.own))
    | inr m ↦
        let ships_before = slice_index_or late k d in
        cases_on I cuts ships_before.prices ships.prices ships_before.first (length I.chambers) (length I.chambers) old new has (so_far.rows k d (before k n m.1 less))
  ];
}
  where
    I : Instance
    I = asked.instance.now

    cuts : List PlainCut
    cuts = plain_cuts asked.instance.now asked.cuts.now

    IsOwn : LateShips → Type 0
    IsOwn ships = IsRow asked ships.prices ships.first new

-- the lanes of one case more
pub lanes_more : (cases : List LineCase) (n : ℕ) (lanes all : List Lane) (own : Lane) (case : LineCase) → ((e : LineCase) → slice_index_or cases n e ≡ case) → IsLane own → ask_of own ≡ line_asked case → all ≡ lanes ++ own ∷ []
    → AreLanesBy cases n lanes → AreLanesBy cases (n + 1) all
lanes_more cases n lanes all own case here is ask appended are =
    subst (AreLanesBy cases (n + 1)) (sym appended) (record {
      count = count_more lanes n own are.count;
      is = items_more (λ k lane. IsLane lane) lanes n own are.count are.is is;
      asked = λ k d e less.
          items_more (λ k lane. ask_of lane ≡ line_asked (slice_index_or cases k e)) lanes n own are.count (λ k d less. are.asked k d e less) (ask ∙ sym (ap line_asked (here e))) k d less;
    })

-- lanes of the cases of chambers are these chambers
some_case : (items : List LineCase) (k : ℕ) → k < length items → LineCase
some_case [] k none = absurd (omega (arith, none))
some_case (a ∷ more) k within = a

pub lanes_from : (I : Instance) (cuts : List PlainCut) (prices : PriceList) (first n : ℕ) (cases : List LineCase) (lanes : List Lane) → AreLanesBy cases (length cases) lanes
    → AreCasesFrom I cuts prices first n cases → AreLanesFrom I cuts prices first n lanes
lanes_from I cuts prices first n cases lanes by are = record {
  within = omega (arith, are.within, by.count);
  each = λ c d less.
      let low : first + c < length cases = omega (arith, less, are.within) in
      let e = some_case cases (first + c) low in
      record { is = by.is (first + c) d low; ask = by.asked (first + c) d e low ∙ are.each c e less };
}

-- the lanes of all cases are those of the sweep
pub all_lanes : (asked : SweepAsked) (case : SweepCase) (late : List LateShips) (cases : List LineCase) (lanes : List Lane) → case.instance.now ≡ asked.instance.now → case.cuts.now ≡ asked.cuts.now → case.prices.now ≡ asked.prices.now
    → AreAllCases asked late (length late) cases → AreLanesBy cases (length cases) lanes → AreLanes case late lanes
all_lanes asked case late cases lanes instance cuts prices all by = record {
  own = on case.prices.now 0 (lanes_from asked.instance.now (plain_cuts asked.instance.now asked.cuts.now) case.prices.now 0 (length asked.instance.now.chambers) cases lanes by
      (subst (λ prices. IsRow asked prices 0 cases) (sym prices) all.own));
  rows = λ k d less.
      let ships = slice_index_or late k d in
      on ships.prices ships.first (lanes_from asked.instance.now (plain_cuts asked.instance.now asked.cuts.now) ships.prices ships.first (length asked.instance.now.chambers) cases lanes by (all.rows k d less));
}
  where
    on : (prices : PriceList) (first : ℕ) → AreLanesFrom asked.instance.now (plain_cuts asked.instance.now asked.cuts.now) prices first (length asked.instance.now.chambers) lanes
        → AreLanesFrom case.instance.now (cuts_of case) prices first (length case.instance.now.chambers) lanes
    on prices first is =
        subst (λ own. AreLanesFrom case.instance.now (plain_cuts case.instance.now own) prices first (length case.instance.now.chambers) lanes) (sym cuts)
        (subst (λ I. AreLanesFrom I (plain_cuts I asked.cuts.now) prices first (length I.chambers) lanes) (sym instance) is)

-- the lane of a chamber
zero-plus : (n : ℕ) → 0 + n ≡ n
zero-plus n = omega arith

pub lane_at : (asked : SweepAsked) (lanes : List Lane) (n : ℕ) (lane : Lane) → AreLanesAsked asked lanes → n < length asked.instance.now.chambers → lane ≡ slice_index_or lanes n lane
    → IsLaneOf asked.instance.now (plain_cuts asked.instance.now asked.cuts.now) asked.prices.now n lane
lane_at asked lanes n lane are within is =
    subst Is (sym is) (subst (λ k. Is (slice_index_or lanes k lane)) (zero-plus n) (are.each n lane within))
  where
    Is : Lane → Type 0
    Is = IsLaneOf asked.instance.now (plain_cuts asked.instance.now asked.cuts.now) asked.prices.now n

-- what a sweep begins with is sound
pub sound_first : (case : SweepCase) (s : Sweeper) → AllArrive case.instance.now (cuts_of case) case.arrivals.now → IsGuided case s.lanes.now s.known → s.made.labels.items.items ≡ [] → s.made.labels.are_open.items ≡ [] → IsSound case s
sound_first case s arrive guided items flags = record {
  arrive = arrive;
  guided = guided;
  level = ap length flags ∙ sym (ap length items);
  treated = record { each = λ k within. absurd (omega (arith, within, ap length items)) };
}
