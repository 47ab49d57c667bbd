-- Counting successors, and remembering values.
use Rattle.std.proofs.Common.{◌≡◌, ◌≢◌, ℕ, suc, ◌+◌, ◌-◌, ◌*◌, ◌/◌, ◌%◌, ◌<◌, ◌≤◌, true, false, cond, ℤ, pos, neg_ℤ, ◌+ℤ◌, ◌≤ℤ◌, to_z, of_z, w64, inl, inr, Some, None, List, [], ◌∷◌, length, drop, filter, All, refl, sym, ap, ◌∙◌, subst, arith, slice_index_or}
use Rattle.std.specs.Prelude.{int_lt, IfSome}
use Rattle.std.specs.Int.{int_min}
use Rattle.std.specs.declared.option.Option.{Option}
use Rattle.std.proofs.lemmas.Int.{ints, clamps}
use Rattle.std.proofs.lemmas.Nat.{div-mul-add, mod-mul-add}
use Rattle.std.proofs.lemmas.Bool.Decides.{eqb_tells, leb_tells}
use Rattle.std.proofs.lemmas.List.{get_or_default}
use Rattle.std.proofs.lemmas.List.Elements.{All-cons, All-head, All-drop}
use Rattle.lock_model.specs.declared.instance.Instance.{Instance}
use Rattle.lock_model.specs.declared.group.Group.{Group}
use Rattle.lock_model.specs.declared.way.Way.{Way}
use Rattle.lock_model.specs.declared.way.Stand.{Stand}
use Rattle.lock_model.specs.declared.way.Stand.TheVariants.{Low, High}
use Rattle.lock_rules.specs.Lawful.{stand_after}
use Rattle.lock_rules.specs.Arrival.{first_ships}
use Rattle.lock_rules.specs.Node.{IsNodeGroup}
use Rattle.lock_rules.specs.Trace.{has_number, with_group}
use Rattle.lock_model.specs.Fleet.{ship_at}
use Rattle.price_rules.specs.Prices.{PriceList, PlainCut, IsUncut, IsLoose, is_missing, price_at}
use Rattle.price_table.specs.declared.frame.Frame.{Frame}
use Rattle.price_successors.specs.declared.successor.Successor.{Successor}
use Rattle.price_successors.specs.declared.successor_list.SuccessorList.{SuccessorList}
use Rattle.price_table.specs.declared.values.Values.{Values}
use Rattle.price_groups.specs.Asks.{LineAsk}
use Rattle.price_groups.specs.Sparing.{IsSpared, AreForbidden}
use Rattle.price_groups.specs.Worth.{end_after, worth_of, worth_from, IsWorth, IsLeastWorth, IsKeptGroup, IsHorizon}
use Rattle.price_successors.specs.Successors.{Keeps, IsSuccessor, Leads}
use Rattle.price_successors.specs.Counted.{IsCounted}
use Rattle.price_successors.specs.SuccessorLists.{list_of, AreSuccessorLists}
use Rattle.price_table.specs.Values.{most_worth, IsValue, side_of, key_of, IsRemembered, AreEmpty, Remembers, AreValues, IsBest, IsFrame}
use Rattle.price_table.proofs.LineLemmas.{worth-next, end-later, uncut-trace}
use Rattle.price_successors.proofs.SuccessorListLemmas.{counted-successor_list}
use Rattle.price_table.proofs.StepLemmas.{own-worth, alone-least, successors-least}

with-some : (way : Way) (ks : List ℕ) (rest : List Group) → 1 ≤ length ks → with_group way ks rest ≡ record { way = way; ships = ks } ∷ rest
with-some way [] rest some = absurd (omega (arith, some))
with-some way (s ∷ ss) rest some = refl

abbrev pub IsFar : ℤ → Type 0
IsFar v = (neg_ℤ (pos 1000000000000000) ≤ℤ v) × (v ≤ℤ pos 1000000000000000)

-- values are far from the ends of their type
pub value-far : (v : ℤ) (h e : ℕ) → h ≤ 1010000 → pos 0 ≤ℤ (v +ℤ pos (808000000 * (h - e))) → v ≤ℤ pos most_worth → IsFar v
value-far v h e small low high = (omega (arith, ints), omega (arith, ints))

pub worth-far : (w : ℤ) → neg_ℤ (pos 808000000) ≤ℤ w → w ≤ℤ pos 30000000000 → IsFar w
worth-far w low high = (omega (arith, ints), omega (arith, ints))

pub far-rounded : (v : ℤ) → IsFar v → to_z w64 (of_z w64 v) ≡ v
far-rounded v far = let low = far.0 in let high = far.1 in omega (arith, ints)

-- so the lesser is what it is without rounding
pub lesser-rounded : (r b w v : ℤ) → IsFar b → IsFar w → IsFar v → r ≡ int_min (to_z w64 (of_z w64 b)) (to_z w64 (of_z w64 w) +ℤ to_z w64 (of_z w64 v)) → int_min b (w +ℤ v) ≡ to_z w64 (of_z w64 r)
lesser-rounded r b w v far-b far-w far-v is =
    let plain : r ≡ int_min b (w +ℤ v) = is ∙ (λ i. int_min (far-rounded b far-b i) (far-rounded w far-w i +ℤ far-rounded v far-v i)) in
    sym plain ∙ sym (last r b w v plain far-b.0 far-b.1 far-w.0 far-w.1 far-v.0 far-v.1)
  where
    last : (r b w v : ℤ) → r ≡ int_min b (w +ℤ v) → neg_ℤ (pos 1000000000000000) ≤ℤ b → b ≤ℤ pos 1000000000000000 → neg_ℤ (pos 1000000000000000) ≤ℤ w → w ≤ℤ pos 1000000000000000 → neg_ℤ (pos 1000000000000000) ≤ℤ v → v ≤ℤ pos 1000000000000000 → to_z w64 (of_z w64 r) ≡ r
    last r b w v e h1 h2 h3 h4 h5 h6 = omega (arith, ints, clamps)

-- a successor leads to one place
pub one-way : (to : Option ℕ) (p q r : ℕ) → Leads to p q → Leads to p r → q ≡ r
one-way None p q r first second = sym first ∙ second
one-way (Some j) p q r first second = sym first.1 ∙ second.1

module _ (L : LineAsk) (known : L.chamber < length L.instance.chambers) (horizon : ℕ) where
  abbrev I : Instance
  I = L.instance

  abbrev c : ℕ
  c = L.chamber

  abbrev cuts : List PlainCut
  cuts = L.cuts

  abbrev k : ℕ
  k = L.depth

  abbrev prices : PriceList
  prices = L.prices

  abbrev line : List Group
  line = L.line

  pub counted-less : (stand : Stand) (from p : ℕ) (best less : ℤ) (h : Successor) → less ≤ℤ best → IsCounted L stand from p best h → IsCounted L stand from p less h
  counted-less stand from p best less h low counted = λ q leads. elim (counted q leads) [
    | inl below ↦ inl (λ gs loose. through less best _ low (below gs loose))
    | inr idle ↦ inr idle
  ]
    where
      through : (a b w : ℤ) → a ≤ℤ b → b ≤ℤ w → a ≤ℤ w
      through a b w h j = omega (arith, ints)

  module _ (uncut : All (IsUncut I c cuts) line) (own : All (IsKeptGroup I k) line) where
    -- at first the line's own groups alone
    pub best-alone : (p : ℕ) (stand : Stand) (from : ℕ) (v : ℤ) → v ≡ worth_from I c k prices stand from (drop p line) → pos 0 ≤ℤ v → v ≤ℤ pos most_worth → IsBest L horizon p stand from v
    best-alone p stand from v is low high = record {
      stop = reflexive v _ is;
      reached = subst (IsWorth I c cuts k prices stand from (drop p line)) (sym is) (own-worth L known stand from (drop p line) (All-drop (IsUncut I c cuts) p line uncut) (All-drop (IsKeptGroup I k) p line own));
      low = above v (808000000 * (horizon - from)) low;
      high = high;
    }
      where
        reflexive : (v w : ℤ) → v ≡ w → v ≤ℤ w
        reflexive v w e = omega (arith, ints)

        above : (v : ℤ) (n : ℕ) → pos 0 ≤ℤ v → pos 0 ≤ℤ (v +ℤ pos n)
        above v n h = omega (arith, ints)

    -- from the horizon on that is the value
    pub value-alone : IsHorizon I k prices horizon → (p : ℕ) (stand : Stand) (from : ℕ) (v : ℤ) → horizon ≤ from → v ≡ worth_from I c k prices stand from (drop p line) → pos 0 ≤ℤ v → v ≤ℤ pos most_worth → IsValue L horizon p stand from v
    value-alone late p stand from v past is low high = record {
      least = subst (λ v. IsLeastWorth I c cuts k prices stand from (drop p line) (Some v)) (sym is) (alone-least L known horizon late stand from (drop p line) past (All-drop (IsUncut I c cuts) p line uncut) (All-drop (IsKeptGroup I k) p line own));
      low = (best-alone p stand from v is low high).low;
      high = high;
    }

  module _ (own : All (IsKeptGroup I k) line) (p : ℕ) (stand : Stand) (from : ℕ) (h : Successor) (is : IsSuccessor L h) (q : ℕ) (leads : Leads h.joins p q) where
    -- what is left behind the successor joins it to the line
    joins-line : (to : Option ℕ) (p q : ℕ) (g : Group) → Keeps L to g → Leads to p q → with_group g.way (filter (has_number (first_ships I k)) g.ships) (drop q line) ≡ drop p line
    joins-line None p q g keeps leads = (λ i. with_group g.way (keeps i) (drop q line)) ∙ ap (λ q. drop q line) (sym leads)
    joins-line (Some j) p q g keeps leads =
        let ks = filter (has_number (first_ships I k)) g.ships in
        let head : IsKeptGroup I k (record { way = g.way; ships = ks }) = All-head (IsKeptGroup I k) (record { way = g.way; ships = ks }) (drop (suc j) line) (subst (All (IsKeptGroup I k)) keeps (All-drop (IsKeptGroup I k) j line own)) in
        with-some g.way ks (drop q line) head.some ∙ (λ i. record { way = g.way; ships = ks } ∷ drop (sym (ap suc leads.0 ∙ leads.1) i) line) ∙ sym keeps ∙ ap (λ p. drop p line) leads.0

    pub counted-idle : (best : ℤ) → h.joins ≡ None → pos 0 ≤ℤ worth_of I c k prices stand from h.group → IsCounted L stand from p best h
    counted-idle best none gains = λ q leads. inr (none, gains)

    module _ (best w v : ℤ) (early : from < horizon) (worth : w ≡ worth_of I c k prices stand from h.group) (low : neg_ℤ (pos 808000000) ≤ℤ w) (value : IsValue L horizon q (stand_after h.group.way) (end_after I c stand from h.group) v) where
      -- whatever goes on behind the successor goes on with it before
      pub successor-goes : (gs : List Group) → IsLoose I c cuts k (drop q line) gs → worth_from I c k prices (stand_after h.group.way) (end_after I c stand from h.group) gs ≡ v
          → IsLoose I c cuts k (drop p line) (h.group ∷ gs) × (worth_from I c k prices stand from (h.group ∷ gs) ≡ (w +ℤ v))
      successor-goes gs loose behind = (
        record {
          uncut = All-cons (IsUncut I c cuts) h.group gs is.uncut loose.uncut;
          trace = ap (with_group h.group.way (filter (has_number (first_ships I k)) h.group.ships)) loose.trace ∙ joins-line h.joins p q h.group is.keeps leads;
        },
        worth-next I c k prices stand from h.group gs ∙ (λ i. sym worth i +ℤ behind i),
      )

      sum-reached : IsWorth I c cuts k prices stand from (drop p line) (w +ℤ v)
      sum-reached =
          let behind = value.least.reached in
          let goes = successor-goes behind.loose behind.is_loose behind.worth in
          record { loose = h.group ∷ behind.loose; is_loose = goes.0; worth = goes.1 }

      pub best-counted : IsBest L horizon p stand from best → IsBest L horizon p stand from (int_min best (w +ℤ v))
      best-counted was = record {
        stop = under best (w +ℤ v) _ was.stop;
        reached = elim (int_lt (w +ℤ v) best) as (λ t. IsWorth I c cuts k prices stand from (drop p line) (cond t (w +ℤ v) best)) [ true ↦ sum-reached | false ↦ was.reached ];
        low = lowest best w v horizon from (end_after I c stand from h.group) early (end-later I c k prices known stand from h.group) low value.low was.low;
        high = under best (w +ℤ v) (pos most_worth) was.high;
      }
        where
          under : (a b u : ℤ) → a ≤ℤ u → int_min a b ≤ℤ u
          under a b u h = omega (arith, ints, clamps)

          lowest : (a w v : ℤ) (n from end : ℕ) → from < n → suc from ≤ end → neg_ℤ (pos 808000000) ≤ℤ w → pos 0 ≤ℤ (v +ℤ pos (808000000 * (n - end))) → pos 0 ≤ℤ (a +ℤ pos (808000000 * (n - from))) → pos 0 ≤ℤ (int_min a (w +ℤ v) +ℤ pos (808000000 * (n - from)))
          lowest a w v n from end early later h j l = omega (arith, ints, clamps)

      pub counted-value : IsCounted L stand from p (int_min best (w +ℤ v)) h
      counted-value = λ r other. inl (λ gs loose.
          let same : r ≡ q = one-way h.joins p r q other leads in
          below best w v _ _ worth (value.least.below gs (subst (λ r. IsLoose I c cuts k (drop r line) gs) same loose)))
        where
          below : (a w v x y : ℤ) → w ≡ x → v ≤ℤ y → int_min a (w +ℤ v) ≤ℤ (x +ℤ y)
          below a w v x y e h = omega (arith, ints, clamps)

      -- the successor comes to the value or to more
      pub successor-least : (u : ℤ) → IsValue L horizon p stand from u → u ≤ℤ (w +ℤ v)
      successor-least u least =
          let reached = sum-reached in
          subst (λ x. u ≤ℤ x) reached.worth (least.least.below reached.loose reached.is_loose)

      -- a successor that comes to no less than a number is counted with it
      pub counted-more : best ≤ℤ (w +ℤ v) → IsCounted L stand from p best h
      counted-more more = subst (λ x. IsCounted L stand from p x h) (smaller best (w +ℤ v) more) counted-value
        where
          smaller : (a b : ℤ) → a ≤ℤ b → int_min a b ≡ a
          smaller a b h = omega (arith, ints, clamps)

  module _ (successor_lists : List SuccessorList) where
    -- a frame whose best is less
    pub frame-less : (frame : Frame) (best : ℤ) → best ≤ℤ frame.best → IsBest L horizon frame.ready.state.place frame.ready.state.stand frame.ready.state.minute best
        → IsFrame L horizon successor_lists frame → IsFrame L horizon successor_lists (record { ready = frame.ready; best = best; next = frame.next })
    frame-less frame best less is was = record {
      ready = was.ready;
      place = was.place;
      early = was.early;
      best = is;
      counted = λ j d e before here. counted-less frame.ready.state.stand frame.ready.state.minute frame.ready.state.place frame.best best (slice_index_or (list_of successor_lists e frame.ready.state.place frame.ready.state.minute) j d) less (was.counted j d e before here);
    }

    -- one successor more is counted
    pub frame-next : (frame : Frame) (best : ℤ) (h : Successor) (i : ℕ) (listed : List Successor) → ((e : SuccessorList) → listed ≡ list_of successor_lists e frame.ready.state.place frame.ready.state.minute) → i < length listed → frame.next ≡ i → h ≡ slice_index_or listed i h → best ≤ℤ frame.best
        → IsBest L horizon frame.ready.state.place frame.ready.state.stand frame.ready.state.minute best → IsCounted L frame.ready.state.stand frame.ready.state.minute frame.ready.state.place best h
        → IsFrame L horizon successor_lists frame → IsFrame L horizon successor_lists (record { ready = frame.ready; best = best; next = i + 1 })
    frame-next frame best h i listed same here at held less is counted was = record {
      ready = was.ready;
      place = was.place;
      early = was.early;
      best = is;
      counted = λ j d e. subst (λ listed. j < i + 1 → j < length listed → IsCounted L frame.ready.state.stand frame.ready.state.minute frame.ready.state.place best (slice_index_or listed j d)) (same e) (λ before inside. elim (eqb_tells j i) [
        | inl y ↦ subst (IsCounted L frame.ready.state.stand frame.ready.state.minute frame.ready.state.place best) (held ∙ get_or_default listed i h d here ∙ ap (λ i. slice_index_or listed i d) (sym y.1)) counted
        | inr m ↦ counted-less frame.ready.state.stand frame.ready.state.minute frame.ready.state.place frame.best best (slice_index_or listed j d) less
            (subst (λ listed. j < length listed → IsCounted L frame.ready.state.stand frame.ready.state.minute frame.ready.state.place frame.best (slice_index_or listed j d)) (sym (same e)) (was.counted j d e (earlier j m.1 before)) inside)
      ]);
    }
      where
        earlier : (j : ℕ) → j ≢ i → j < i + 1 → j < frame.next
        earlier j apart before = elim (leb_tells (suc j) i) [ inl y ↦ omega (arith, at, y.1) | inr q ↦ absurd (apart (omega (arith, before, q.1))) ]

    -- THE LAST CHOICE COUNTED, the best is the value.
    pub frame-value : (frame : Frame) (e : SuccessorList) → AreSuccessorLists L successor_lists → length (list_of successor_lists e frame.ready.state.place frame.ready.state.minute) ≤ frame.next
        → IsFrame L horizon successor_lists frame → IsValue L horizon frame.ready.state.place frame.ready.state.stand frame.ready.state.minute frame.best
    frame-value frame e are all is = record {
      least = successors-least L known are.listed.successors are.listed.enough frame.ready.state.stand frame.ready.state.minute frame.ready.state.place frame.best is.best.stop
          (counted-successor_list L known successor_lists are frame.ready.state.place frame.ready.state.minute is.place e frame.ready.state.stand frame.best
          (λ h held. subst (IsCounted L frame.ready.state.stand frame.ready.state.minute frame.ready.state.place frame.best) held.2 (is.counted held.0 h e (omega (arith, held.1, all)) held.1)))
          is.best.reached;
      low = is.best.low;
      high = is.best.high;
    }

  -- a value in its type
  pub value-rounded : (p : ℕ) (stand : Stand) (from : ℕ) (v : ℤ) → horizon ≤ 1010000 → IsValue L horizon p stand from v → IsValue L horizon p stand from (to_z w64 (of_z w64 v))
  value-rounded p stand from v small value = subst (IsValue L horizon p stand from) (sym (far-rounded v (value-far v horizon from small value.low value.high))) value

  -- the key tells the state
  same-parts : (a b s t : ℕ) → s ≤ 1 → t ≤ 1 → a * 2 + s ≡ b * 2 + t → (a ≡ b) × (s ≡ t)
  same-parts a b s t x y e = (omega (arith, x, y, e), omega (arith, x, y, e))

  same-state : (w p q m n s t : ℕ) → p < w → q < w → s ≤ 1 → t ≤ 1 → (m * w + p) * 2 + s ≡ (n * w + q) * 2 + t → (p ≡ q) × (m ≡ n) × (s ≡ t)
  same-state w p q m n s t a b x y e =
      let parts = same-parts (m * w + p) (n * w + q) s t x y e in
      (sym (mod-mul-add m w p a) ∙ ap (λ z. z % w) parts.0 ∙ mod-mul-add n w q b, sym (div-mul-add m w p a) ∙ ap (λ z. z / w) parts.0 ∙ div-mul-add n w q b, parts.1)

  side-small : (stand : Stand) → side_of stand ≤ 1
  side-small Low = omega arith
  side-small High = omega arith

  same-side : (a b : Stand) → side_of a ≡ side_of b → a ≡ b
  same-side Low Low e = refl
  same-side High High e = refl
  same-side Low High e = absurd (omega (arith, e))
  same-side High Low e = absurd (omega (arith, e))

  -- one value more is remembered
  pub values-kept : (old new : Values) (p : ℕ) (stand : Stand) (minute : ℕ) (v : ℤ) → p ≤ length line → AreValues L horizon old → IsValue L horizon p stand minute v
      → Remembers old new (key_of old.places p stand minute) v → AreValues L horizon new
  values-kept old new p stand minute v small were value more = record {
    wide = more.wide ∙ were.wide;
    told = λ q other n u few e. elim (more.told (key_of new.places q other n) u e) [
      | inl y ↦
          let parts = same-state old.places p q minute n (side_of stand) (side_of other) (in-places p small) (in-places q few) (side-small stand) (side-small other) (y.0 ∙ ap (λ w. key_of w q other n) more.wide) in
          subst (λ u. IsValue L horizon q other n u) y.1
          (subst (λ q. IsValue L horizon q other n v) parts.0 (subst (λ n. IsValue L horizon p other n v) parts.1 (subst (λ s. IsValue L horizon p s minute v) (same-side stand other parts.2) value)))
      | inr held ↦ were.told q other n u few (subst (λ w. IsRemembered old (key_of w q other n) u) more.wide held)
    ];
  }
    where
      in-places : (q : ℕ) → q ≤ length line → q < old.places
      in-places q few = omega (arith, were.wide, few)

  -- what is found is the value
  pub found-told : (values : Values) (p : ℕ) (stand : Stand) (minute : ℕ) (o : Option ℤ) → p ≤ length line → AreValues L horizon values → IfSome o (IsRemembered values (key_of values.places p stand minute))
      → IfSome o (IsValue L horizon p stand minute)
  found-told values p stand minute None small are e = tt
  found-told values p stand minute (Some v) small are e = are.told p stand minute v small e

  -- nothing is remembered at first
  pub values-none : (values : Values) → AreEmpty (length line + 1) values → AreValues L horizon values
  values-none values none = record { wide = none.wide; told = λ p stand minute v small held. absurd (none.none (key_of values.places p stand minute) v held) }

-- the horizon of the ships before one more
pub late-next : (I : Instance) (k : ℕ) (prices : PriceList) (i old new : ℕ) → old ≤ new → (is_missing I k i ≡ true → price_at prices i + 100 * (ship_at I i).arrival ≤ 100 * new)
    → ((s : ℕ) → s < i → is_missing I k s ≡ true → price_at prices s + 100 * (ship_at I s).arrival ≤ 100 * old)
    → (s : ℕ) → s < i + 1 → is_missing I k s ≡ true → price_at prices s + 100 * (ship_at I s).arrival ≤ 100 * new
late-next I k prices i old new more here before s at missing = elim (eqb_tells s i) [
  | inl y ↦ subst (λ s. is_missing I k s ≡ true → price_at prices s + 100 * (ship_at I s).arrival ≤ 100 * new) (sym y.1) here missing
  | inr m ↦ omega (arith, more, before s (lower m.1 (omega (arith, at))) missing)
]
  where
    lower : s ≢ i → s ≤ i → s < i
    lower apart most = elim (leb_tells (suc s) i) [ inl y ↦ y.1 | inr q ↦ absurd (apart (omega (arith, most, q.1))) ]

pub lesser-less : (b w v : ℤ) → int_min b (w +ℤ v) ≤ℤ b
lesser-less b w v = omega (arith, ints, clamps)

pub rounded : (v : ℤ) → pos 0 ≤ℤ v → v ≤ℤ pos most_worth → to_z w64 (of_z w64 v) ≡ v
rounded v low high = omega (arith, ints)

module _ (I : Instance) (c : ℕ) (cuts : List PlainCut) (sets : List (List ℕ)) (are : AreForbidden I c cuts sets) where
  -- the groups of a line in which no forbidden set is are uncut
  pub spared-uncut : (line : List Group) → All (IsNodeGroup I c) line → All (λ g. All (λ s. s < length I.ships) g.ships) line → All (IsSpared sets) line → All (IsUncut I c cuts) line
  spared-uncut line good known spared = λ i d here.
      let g = slice_index_or line i d in
      record { good = good i d here; known = known i d here; spared = are.spared g.ships (known i d here) (spared i d here).missed }

  -- a line with another group has no loose line
  pub cut-least : (k : ℕ) (prices : PriceList) (stand : Stand) (from : ℕ) (line : List Group) → All (λ g. All (λ s. s < length I.ships) g.ships) line → ¬ All (IsSpared sets) line → IsLeastWorth I c cuts k prices stand from line None
  cut-least k prices stand from line known held = record {
    below = λ loose is.
        let uncut = subst (All (IsUncut I c cuts)) is.trace (uncut-trace I c cuts (has_number (first_ships I k)) loose is.uncut) in
        held (λ i d here. let g = slice_index_or line i d in record { missed = are.missed g.ships (known i d here) (uncut i d here).spared });
    reached = tt;
  }
