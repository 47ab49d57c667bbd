-- Arcs of groups, put to lists, and those of a list that are asked for.
use Rattle.std.proofs.Common.{Ordering, Less, Equal, Greater, ◌≡◌, ◌≢◌, ℕ, ℤ, pos, ◌+ℤ◌, zero, suc, ◌+◌, ◌-◌, ◌*◌, ◌<◌, ◌≤◌, ◌≤ℤ◌, ◌<ℤ◌, Bool, true, false, IsTrue, ◌↔◌, ◌⊎◌, inl, inr, Some, None, Ok, Err, IfOk, List, [], ◌∷◌, ◌++◌, length, All, Contains, sum_by, refl, sym, ap, ◌∙◌, subst, arith, slice_index_or}
use Rattle.std.specs.declared.option.Option.{Option}
use Rattle.std.specs.declared.result.Result.{Result}
use Rattle.std.specs.Result.{IsErr}
use Rattle.std.proofs.lemmas.Bool.{false≢true}
use Rattle.std.proofs.Math.Seq.{get_or-append_seam}
use Rattle.std.proofs.lemmas.Int.{ints, by_lt_z}
use Rattle.std.proofs.lemmas.Bool.Decides.{eqb_tells, leb_tells}
use Rattle.std.proofs.lemmas.List.{get_or_append_left, get_or_default, length-append}
use Rattle.std.proofs.lemmas.List.Elements.{All-contains, All-weaker, Contains-append_left, Contains-push}
use Rattle.std.specs.List.Sorted.{IsPermutation, IsSortedByKey}
use Rattle.std.specs.Ordering.{MatchOrdering, int_cmp, is_lt}
use Rattle.std.proofs.lemmas.Cmp.{int_ranked, int_cmp_total}
use Rattle.std.proofs.lemmas.List.Sorted.{Contains-permutation, ranks_by, sorted_far}
use Rattle.std.proofs.lemmas.Nat.Bits.{bit_at_above}
use Rattle.lock_model.specs.declared.group.Group.{Group}
use Rattle.lock_model.specs.declared.way.Way.{Way}
use Rattle.lock_model.specs.declared.way.Stand.{Stand}
use Rattle.lock_model.specs.Fleet.{ship_at}
use Rattle.lock_rules.specs.Lawful.{duration_of, stand_before, stand_after}
use Rattle.lock_rules.specs.Timetable.{start_of}
use Rattle.price_rules.specs.Prices.{price_at, charged_by}
use Rattle.sweep_rules.specs.Gain.{IsGainFrom}
use Rattle.lock_rules.specs.Plan.{times_in}
use Rattle.lock_rules.specs.Trace.{has_number}
use Rattle.lock_rules.proofs.AmongLemmas.{contains-times, times-contains}
use Rattle.lock_rules.proofs.LeafLemmas.{has_number-some}
use Rattle.lock_rules.proofs.TreeLemmas.{length-insert_number}
use Rattle.lock_rules.proofs.SplitLemmas.{has_number-none}
use Rattle.price_groups.specs.Asks.{LineAsk, IsUncutIn}
use Rattle.price_groups.specs.GrownLists.{HasGroup}
use Rattle.price_groups.specs.Masks.{IsMask}
use Rattle.price_groups.specs.declared.grown_lists.GrownGroup.{GrownGroup}
use Rattle.sweep_labels.specs.declared.step.Arc.{Arc}
use Rattle.sweep_labels.specs.Arcs.{start_from, end_from, flow_from, IsBeyond, AreArcs, HasArc, IsArcBy, arc_at, no_arc}
use Rattle.sweep_labels.specs.Ships.{is_in, AreApart, HoldsAll}
use Rattle.sweep_labels.proofs.ShipLemmas.{in-one, one-in}
use Rattle.sweep_arcs.specs.declared.arc_list.ArcList.{ArcList}
use Rattle.sweep_arcs.specs.declared.asked.ArcsAsked.{ArcsAsked}
use Rattle.sweep_arcs.specs.declared.listing.Range.{Range}
use Rattle.sweep_arcs.specs.declared.way_arcs.WayArcs.{WayArcs}
use Rattle.sweep_arcs.specs.declared.way_groups.WayGroups.{WayGroups}
use Rattle.sweep_arcs.proofs.BeyondLemmas.{idle-beyond}
use Rattle.sweep_arcs.specs.Ways.{IsIdleGroup, IsReached, IsWayOf, IsArcWorth, IsArcOrBeyond, IsPutArc, ArePutArcs, AreRising, IsArcList, IsRangeList, IsAskedList, IsListAt, AreListsBy, IsListKept, IsWayArcs, IsWide, IsPutAsked, AreWithin}

clash : {X : Type 0} → true ≡ false → X
clash e = cc

-- nothing is told of a value where there is an error
pub no_value : {T E : Type 0} (P : T → Type 0) (r : Result T E) → IsErr r → IfOk r P
no_value P (Ok x) err = absurd (false≢true err)
no_value P (Err e) err = tt

earlier : (i j : ℕ) → j ≢ i → j < i + 1 → j < i
earlier i j other less = elim (leb_tells (suc j) i) [ inl y ↦ y.1 | inr q ↦ absurd (other (omega (arith, less, q.1))) ]

-- the bits of a mask below 128 are those of its ships, and there are none above
pub mask-number : (mask s : ℕ) (ships : List ℕ) → s < 128 → IsMask mask ships → is_in mask s ≡ has_number ships s
mask-number mask s ships low is = elim (leb_tells 1 (times_in ships s)) [
  | inl y ↦ one-in mask s (is.has s (times-contains ships s y.1)) ∙ sym (has_number-some ships s y.1)
  | inr q ↦ missing (is_in mask s) refl (omega (arith, q.1)) ∙ sym (has_number-none ships s (omega (arith, q.1)))
]
  where
    missing : (b : Bool) → is_in mask s ≡ b → times_in ships s ≡ 0 → is_in mask s ≡ false
    missing true own none = absurd (omega (arith, none, contains-times ships s (is.only s low (in-one mask s own))))
    missing false own none = own

pub mask-held : (mask s : ℕ) (ships : List ℕ) → IsMask mask ships → is_in mask s ≡ true → Contains ships s
mask-held mask s ships is own = elim (leb_tells (suc s) 128) [
  | inl y ↦ is.only s y.1 (in-one mask s own)
  | inr q ↦ absurd (omega (arith, in-one mask s own, bit_at_above mask 128 s is.small (omega (arith, q.1))))
]

module _ (L : LineAsk) where
  arc-more : (minute : ℕ) (limit : ℤ) (g : Group) (old new : List Arc) → ((arc : Arc) → Contains old arc → Contains new arc) → IsArcOrBeyond L minute limit old g → IsArcOrBeyond L minute limit new g
  arc-more minute limit g old new kept (inl has) = inl (record { arc = has.arc; held = kept has.arc has.held; is = has.is })
  arc-more minute limit g old new kept (inr beyond) = inr beyond

  -- the arc of a group whose worth was counted with the gain from its end
  pub arc-worth : (minute : ℕ) (g : Group) (from : Stand) (other : Way) (mask start end prices charged gain first last flow : ℕ) (worth rounded : ℤ)
      → length L.instance.ships ≤ 128 → All (λ s. s < length L.instance.ships) g.ships → IsMask mask g.ships
      → from ≡ stand_before g.way → start ≡ start_of L.instance L.chamber from minute g → end ≡ start + duration_of L.instance L.chamber g.ships
      → first ≡ start → last ≡ end → flow ≡ sum_by (λ s. end - (ship_at L.instance s).arrival) g.ships → prices ≡ sum_by (price_at L.prices) g.ships
      → charged ≡ charged_by L.prices g
      → stand_before other ≡ stand_after g.way → IsGainFrom L.instance L.chamber L.cuts (λ s. false) L.prices (stand_before other) end gain
      → (worth +ℤ pos (prices + gain)) ≤ℤ pos (100 * flow + charged) → rounded ≡ worth
      → IsArcWorth L minute g (record { ships = record { bits = mask }; start = first; end = last; flow = flow; prices = prices; worth = rounded })
  arc-worth minute g from other mask start end prices charged gain first last flow worth rounded few known is stands starts ends same_start same_end flows pays charges turns gains least same = record {
    is = record {
      ships = λ s here. mask-number mask s g.ships (omega (arith, here, few)) is;
      start = same_start ∙ begin;
      end = same_end ∙ close;
      flow = whole;
      pays = pays;
    };
    mask = is;
    low = record {
      gain = gain;
      is = subst (λ stand. IsGainFrom L.instance L.chamber L.cuts (λ s. false) L.prices stand (end_from L.instance L.chamber minute g) gain) turns
          (subst (λ at. IsGainFrom L.instance L.chamber L.cuts (λ s. false) L.prices (stand_before other) at gain) close gains);
      least = low rounded worth prices (sum_by (price_at L.prices) g.ships) flow (flow_from L.instance L.chamber minute g) (charged_by L.prices g) same pays whole charges least;
    };
  }
    where
      begin : start ≡ start_from L.instance L.chamber minute g
      begin = starts ∙ ap (λ stand. start_of L.instance L.chamber stand minute g) stands

      close : end ≡ end_from L.instance L.chamber minute g
      close = ends ∙ ap (λ n. n + duration_of L.instance L.chamber g.ships) begin

      whole : flow ≡ flow_from L.instance L.chamber minute g
      whole = flows ∙ ap (λ end. sum_by (λ s. end - (ship_at L.instance s).arrival) g.ships) close

      low : (rounded worth : ℤ) (prices paid flow all own : ℕ) → rounded ≡ worth → prices ≡ paid → flow ≡ all → charged ≡ own → (worth +ℤ pos (prices + gain)) ≤ℤ pos (100 * flow + charged)
          → (rounded +ℤ pos (paid + gain)) ≤ℤ pos (100 * all + own)
      low rounded worth prices paid flow all own same pays whole charges least = omega (arith, ints, same, pays, whole, charges, least)

  pub put_none : (range : Range) (g : Group) (arcs : List Arc) → length g.ships ≡ 0 → IsPutArc L range g arcs arcs
  put_none range g arcs none = record { kept = λ arc at. at; own = λ some. absurd (omega (arith, some, none)) }

  pub put_beyond : (range : Range) (g : Group) (arc : Arc) (arcs : List Arc) → IsArcWorth L range.minute g arc → range.limit <ℤ arc.worth → IsPutArc L range g arcs arcs
  put_beyond range g arc arcs is more = record { kept = λ arc at. at; own = λ some. inr (record { worth = arc.worth; more = more; low = is.low }) }

  pub put_own : (range : Range) (g : Group) (arc : Arc) (old new : List Arc) → IsArcWorth L range.minute g arc → new ≡ old ++ arc ∷ [] → IsPutArc L range g old new
  put_own range g arc old new is put = record {
    kept = λ other at. subst (λ arcs. Contains arcs other) (sym put) (Contains-append_left old (arc ∷ []) other at);
    own = λ some. inl (record { arc = arc; held = subst (λ arcs. Contains arcs arc) (sym put) (Contains-push old arc); is = is });
  }

  pub puts_first : (range : Range) (groups : List GrownGroup) (arcs : List Arc) → ArePutArcs L range groups 0 arcs
  puts_first range groups arcs = record { each = λ k d less some. absurd (omega (arith, less)) }

  pub puts_next : (range : Range) (groups : List GrownGroup) (n : ℕ) (one : GrownGroup) (old new : List Arc) → n < length groups → one ≡ slice_index_or groups n one
      → ArePutArcs L range groups n old → IsPutArc L range one.group old new → ArePutArcs L range groups (n + 1) new
  puts_next range groups n one old new here is puts put = record {
    each = λ k d less some. elim (eqb_tells k n) [
      | inl y ↦
          let same : one ≡ slice_index_or groups k d = is ∙ get_or_default groups n one d here ∙ ap (λ i. slice_index_or groups i d) (sym y.1) in
          subst (λ (one : GrownGroup). IsArcOrBeyond L range.minute range.limit new one.group) same (put.own (subst (λ (one : GrownGroup). 1 ≤ length one.group.ships) (sym same) some))
      | inr m ↦ arc-more range.minute range.limit (slice_index_or groups k d).group old new put.kept (puts.each k d (earlier n k m.1 less) some)
    ];
  }

  -- ALL UNCUT GROUPS OF THE WAY have been put, but for those that are worth more
  pub puts_done : (range : Range) (all : WayGroups) (arcs ordered : List Arc) (list : ArcList) → L.chamber < length L.instance.chambers → IsPermutation arcs ordered → AreRising ordered → IsWayOf L range.way all
      → IsReached L range all.spread → ArePutArcs L range all.groups.items (length all.groups.items) arcs → list.limit ≡ range.limit → list.arcs.items ≡ ordered → IsRangeList L range list
  puts_done range all arcs ordered list known moved rising are reached puts limit items = record { is = record { rising = subst AreRising (sym items) rising; whole = whole }; limit = limit }
    where
      groups : List GrownGroup
      groups = all.groups.items

      own : (g : Group) → IsUncutIn L g → g.way ≡ range.way → HasGroup groups g ⊎ IsIdleGroup L all.spread g → IsArcOrBeyond L range.minute range.limit ordered g
      own g uncut way (inr idle) = inr (idle-beyond L known all.spread range.minute reached.gain range.limit g (subst (λ way. IsGainFrom L.instance L.chamber L.cuts (λ s. false) L.prices (stand_before way) range.minute reached.gain) (sym way) reached.is) reached.most idle)
      own g uncut way (inl has) =
          let at = has.held in
          let same : (slice_index_or groups at.0 has.one).group ≡ g = ap (λ (one : GrownGroup). one.group) at.2 ∙ has.is in
          let put : IsArcOrBeyond L range.minute range.limit arcs (slice_index_or groups at.0 has.one).group = puts.each at.0 has.one at.1 (subst (λ (g : Group). 1 ≤ length g.ships) (sym same) uncut.good.count.0) in
          arc-more range.minute range.limit g arcs ordered (λ arc at. Contains-permutation arcs ordered arc moved at) (subst (IsArcOrBeyond L range.minute range.limit arcs) same put)

      whole : (g : Group) → IsUncutIn L g → g.way ≡ range.way → IsArcOrBeyond L range.minute list.limit list.arcs.items g
      whole g uncut way =
          subst (λ limit. IsArcOrBeyond L range.minute limit list.arcs.items g) (sym limit)
          (subst (λ arcs. IsArcOrBeyond L range.minute range.limit arcs g) (sym items)
          (own g uncut way (are.groups.whole g uncut way)))

pub asked_shared : (asked : ArcsAsked) (arc : Arc) (arcs : List Arc) (misses : Bool) → (IsTrue misses ↔ AreApart arc.ships.bits asked.served.bits) → misses ≡ false → IsPutAsked asked arc arcs arcs
asked_shared asked arc arcs misses tells shared = record { kept = λ other at. at; own = λ apart. clash (sym (tells.1 apart) ∙ shared) }

pub asked_put : (asked : ArcsAsked) (arc : Arc) (old new : List Arc) → new ≡ old ++ arc ∷ [] → IsPutAsked asked arc old new
asked_put asked arc old new put = record {
  kept = λ other at. subst (λ arcs. Contains arcs other) (sym put) (Contains-append_left old (arc ∷ []) other at);
  own = λ apart. subst (λ arcs. Contains arcs arc) (sym put) (Contains-push old arc);
}

pub within_first : (asked : ArcsAsked) (list arcs : List Arc) → AreWithin asked list 0 arcs
within_first asked list arcs = record { each = λ k less. absurd (omega (arith, less)) }

pub within_next : (asked : ArcsAsked) (list : List Arc) (n : ℕ) (arc : Arc) (old new : List Arc) → n < length list → arc ≡ arc_at list n
    → AreWithin asked list n old → IsPutAsked asked arc old new → AreWithin asked list (n + 1) new
within_next asked list n arc old new here is before put = record {
  each = λ k less low apart. elim (eqb_tells k n) [
    | inl y ↦
        let same : arc ≡ arc_at list k = is ∙ ap (arc_at list) (sym y.1) in
        subst (Contains new) same (put.own (subst (λ (arc : Arc). AreApart arc.ships.bits asked.served.bits) (sym same) apart))
    | inr m ↦ put.kept (arc_at list k) (before.each k (earlier n k m.1 less) low apart)
  ];
}

low_or_more : (worth room : ℤ) → (worth ≤ℤ room) ⊎ (room <ℤ worth)
low_or_more worth room = by_lt_z room worth (λ l. inr l) (λ g. inl g)

-- no arc behind one above the room is within it
pub within_early : (asked : ArcsAsked) (list : List Arc) (n : ℕ) (arcs : List Arc) → AreRising list → n < length list → asked.room <ℤ (arc_at list n).worth → AreWithin asked list n arcs → AreWithin asked list (length list) arcs
within_early asked list n arcs are here more before = record {
  each = λ k less low apart. elim (leb_tells (suc k) n) [
    | inl y ↦ before.each k y.1 low apart
    | inr q ↦ absurd (behind (arc_at list n).worth (arc_at list k).worth more (are.rising n k (omega (arith, q.1)) less) low)
  ];
}
  where
    behind : (first worth : ℤ) → asked.room <ℤ first → first ≤ℤ worth → worth ≤ℤ asked.room → ⊥
    behind first worth more up low = omega (arith, ints, more, up, low)

no_less : (a b : ℤ) → is_lt (int_cmp b a) ≡ false → a ≤ℤ b
no_less a b h = go (int_cmp b a) (int_ranked b a (int_cmp b a) refl) h
  where
    go : (o : Ordering) → MatchOrdering o (b <ℤ a) (b ≡ a) (a <ℤ b) → is_lt o ≡ false → a ≤ℤ b
    go Less less h = clash h
    go Equal same h = omega (arith, ints, same)
    go Greater more h = omega (arith, ints, more)

pub rising-by : (arcs : List Arc) → IsSortedByKey (λ arc. arc.worth) int_cmp arcs → AreRising arcs
rising-by arcs sorted = record {
  rising = λ j k before here. no_less (arc_at arcs j).worth (arc_at arcs k).worth (sorted_far (λ (x y : Arc). is_lt (int_cmp x.worth y.worth)) (ranks_by int_cmp_total (λ (arc : Arc). arc.worth)) arcs sorted j k no_arc before here);
}

pub reached_by : (L : LineAsk) (asked : ArcsAsked) (range : Range) (spread gain : ℕ) → IsGainFrom L.instance L.chamber L.cuts (λ s. false) L.prices (stand_before asked.way) asked.minute gain
    → range.way ≡ asked.way → range.minute ≡ asked.minute → (range.limit +ℤ pos gain) ≤ℤ pos spread → IsReached L range spread
reached_by L asked range spread gain is way minute most = record {
  gain = gain;
  is = subst (λ way. IsGainFrom L.instance L.chamber L.cuts (λ s. false) L.prices (stand_before way) range.minute gain) (sym way)
      (subst (λ minute. IsGainFrom L.instance L.chamber L.cuts (λ s. false) L.prices (stand_before asked.way) minute gain) (sym minute) is);
  most = most;
}

pub asked_list : (L : LineAsk) (asked : ArcsAsked) (range : Range) (list : ArcList) → range.way ≡ asked.way → range.minute ≡ asked.minute → asked.room ≤ℤ range.limit → IsRangeList L range list → IsAskedList L asked list
asked_list L asked range list way minute reach is = record {
  is = subst (λ way. IsArcList L way asked.minute list) way (subst (λ minute. IsArcList L range.way minute list) minute is.is);
  reach = subst (λ limit. asked.room ≤ℤ limit) (sym is.limit) reach;
}

module _ (L : LineAsk) (asked : ArcsAsked) where
  -- ALL THAT ARE ASKED FOR of a list that reaches as far as the room
  pub within_done : (list : ArcList) (arcs : List Arc) → length L.instance.ships ≤ 128 → IsArcList L asked.way asked.minute list → asked.room ≤ℤ list.limit
      → AreWithin asked list.arcs.items (length list.arcs.items) arcs → AreArcs L.instance L.cuts L.prices L.chamber asked.way asked.minute asked.served.bits asked.room arcs
  within_done list arcs few is reach within = record { whole = λ g uncut way missing. by g missing (is.whole g uncut way) }
    where
      by : (g : Group) → All (λ s. is_in asked.served.bits s ≡ false) g.ships → IsArcOrBeyond L asked.minute list.limit list.arcs.items g
          → HasArc L.instance L.prices L.chamber asked.minute arcs g ⊎ IsBeyond L.instance L.cuts L.prices L.chamber asked.minute asked.room g
      by g missing (inr beyond) = inr (record { worth = beyond.worth; more = more; low = beyond.low })
        where
          more : asked.room <ℤ beyond.worth
          more = omega (arith, ints, reach, beyond.more)
      by g missing (inl has) = elim (low_or_more has.arc.worth asked.room) [
        | inr more ↦ inr (record { worth = has.arc.worth; more = more; low = has.is.low })
        | inl low ↦
            let at = has.held in
            let same : has.arc ≡ arc_at list.arcs.items at.0 = sym (get_or_default list.arcs.items at.0 no_arc has.arc at.1 ∙ at.2) in
            let apart : AreApart has.arc.ships.bits asked.served.bits = record { none = λ s own. All-contains (λ s. is_in asked.served.bits s ≡ false) g.ships s missing (mask-held has.arc.ships.bits s g.ships has.is.mask own) } in
            let held : Contains arcs has.arc = subst (Contains arcs) (sym same) (within.each at.0 at.1 (subst (λ (arc : Arc). arc.worth ≤ℤ asked.room) same low) (subst (λ (arc : Arc). AreApart arc.ships.bits asked.served.bits) same apart)) in
            inl (record {
              place = held.0;
              within = held.1;
              is = subst (IsArcBy L.instance L.prices L.chamber asked.minute g) (sym (get_or_default arcs held.0 no_arc has.arc held.1 ∙ held.2)) has.is.is;
            })
      ]

  -- where all ships of the way's groups are served, no arc is asked for
  pub served_none : (lane : WayArcs) (arcs : List Arc) → IsWayOf L asked.way lane.all → HoldsAll asked.served.bits lane.all.ships.bits
      → AreArcs L.instance L.cuts L.prices L.chamber asked.way asked.minute asked.served.bits asked.room arcs
  served_none lane arcs are holds = record { whole = λ g uncut way missing. absurd (none (length g.ships) g (omega arith) uncut way missing) }
    where
      none : (n : ℕ) (g : Group) → length g.ships ≤ n → IsUncutIn L g → g.way ≡ asked.way → All (λ s. is_in asked.served.bits s ≡ false) g.ships → ⊥
      none zero g small uncut way missing = omega (arith, small, uncut.good.count.0)
      none (suc n) g small uncut way missing = elim (are.groups.whole g uncut way) [
        | inr idle ↦
            none n idle.others (omega (arith, small, ap length idle.joined, length-insert_number idle.ship idle.others.ships)) idle.uncut (idle.same ∙ way)
            (All-weaker (Contains g.ships) (λ s. is_in asked.served.bits s ≡ false) (λ s held. All-contains (λ s. is_in asked.served.bits s ≡ false) g.ships s missing held) idle.others.ships idle.among)
        | inl has ↦
            let at = has.held in
            let one : GrownGroup = has.one in
            let s : ℕ = slice_index_or g.ships 0 0 in
            let mask : IsMask one.sums.mask one.group.ships = All-contains (λ (one : GrownGroup). IsMask one.sums.mask one.group.ships) lane.all.groups.items one (λ k d here. (are.groups.each k d here).mask) at in
            let held : Contains g.ships s = (0, uncut.good.count.0, get_or_default g.ships 0 s 0 uncut.good.count.0) in
            let own : is_in one.sums.mask s ≡ true = one-in one.sums.mask s (mask.has s (subst (λ (h : Group). Contains h.ships s) (sym has.is) held)) in
            let joined : is_in lane.all.ships.bits s ≡ true = (are.ships.each at.0 one at.1).all s (subst (λ (one : GrownGroup). is_in one.sums.mask s ≡ true) (sym at.2) own) in
            clash (sym (holds.all s joined) ∙ All-contains (λ s. is_in asked.served.bits s ≡ false) g.ships s missing held)
      ]

module _ (L : LineAsk) (way : Way) where
  pub lists_none : (places : List (Option ℕ)) (lists : List ArcList) → ((minute : ℕ) → slice_index_or places minute None ≡ None) → AreListsBy L way places lists
  lists_none places lists none = record { each = λ minute place is. no place (sym is ∙ none minute) }
    where
      no : {X : Type 0} (place : ℕ) → Some place ≡ None → X
      no place e = cc

  list-longer : (minute place : ℕ) (list : ArcList) (lists : List ArcList) → IsListAt L way minute lists place → IsListAt L way minute (lists ++ list ∷ []) place
  list-longer minute place list lists at = record {
    within = omega (arith, at.within, length-append lists (list ∷ []));
    is = λ d. subst (IsArcList L way minute) (sym (get_or_append_left lists (list ∷ []) d place at.within)) (at.is d);
  }

  list-own : (minute : ℕ) (list : ArcList) (lists : List ArcList) → IsArcList L way minute list → IsListAt L way minute (lists ++ list ∷ []) (length lists)
  list-own minute list lists is = record {
    within = omega (arith, length-append lists (list ∷ []));
    is = λ d. subst (IsArcList L way minute) (sym (get_or-append_seam lists list [] d)) is;
  }

  pub lists_kept : (minute place : ℕ) (list : ArcList) (old new : WayArcs) → IsArcList L way minute list → IsWayArcs L way old → IsListKept minute list old new place → IsWayArcs L way new
  lists_kept minute place list old new is lane kept = record {
    all = subst (IsWayOf L way) (sym kept.all) lane.all;
    lists = record { each = λ m p there. subst (λ lists. IsListAt L way m lists p) (sym kept.lists) (by m p there) };
  }
    where
      by : (m p : ℕ) → slice_index_or new.places.items.items m None ≡ Some p → IsListAt L way m (old.lists.items ++ list ∷ []) p
      by m p there = elim (eqb_tells m minute) [
        | inl y ↦
            let own : Some place ≡ Some p = sym kept.row.own ∙ ap (λ m. slice_index_or new.places.items.items m None) (sym y.1) ∙ there in
            let same : length old.lists.items ≡ p = sym kept.behind ∙ (cc own) in
            subst (λ p. IsListAt L way m (old.lists.items ++ list ∷ []) p) same (subst (λ m. IsListAt L way m (old.lists.items ++ list ∷ []) (length old.lists.items)) (sym y.1) (list-own minute list old.lists.items is))
        | inr o ↦ list-longer m p list old.lists.items (lane.lists.each m p (sym (kept.row.others m o.1) ∙ there))
      ]

pub kept_wide : (asked : ArcsAsked) (place : ℕ) (list : ArcList) (old new : WayArcs) → asked.room ≤ℤ list.limit → IsListKept asked.minute list old new place → IsWide asked new place
kept_wide asked place list old new reach kept = record {
  kept = kept.row.own;
  reach = λ d.
      let same : list ≡ slice_index_or new.lists.items place d = sym (get_or-append_seam old.lists.items list [] d) ∙ ap (λ lists. slice_index_or lists (length old.lists.items) d) (sym kept.lists) ∙ ap (λ p. slice_index_or new.lists.items p d) (sym kept.behind) in
      subst (λ (list : ArcList). asked.room ≤ℤ list.limit) same reach;
}
