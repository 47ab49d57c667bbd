-- A group with a ship that gains too little for the spread is worth more than the limit.
use Rattle.std.proofs.Common.{◌≡◌, ℕ, ℤ, pos, ◌+ℤ◌, ◌-ℤ◌, ◌≤ℤ◌, ◌<ℤ◌, ◌+◌, ◌-◌, ◌*◌, ◌<◌, ◌≤◌, false, inl, inr, List, [], ◌∷◌, length, All, Contains, filter, sum_by, refl, sym, ap, ◌∙◌, subst, arith}
use Rattle.std.proofs.lemmas.Int.{ints}
use Rattle.std.proofs.lemmas.Bool.Decides.{leb_tells}
use Rattle.std.proofs.lemmas.List.Elements.{All-contains, All-cons, All-weaker}
use Rattle.std.proofs.lemmas.List.Sums.{sum_by-le-sum_by}
use Rattle.lock_model.specs.Fleet.{ship_at, chamber_at}
use Rattle.lock_model.specs.declared.closure.Closure.{Closure}
use Rattle.lock_model.specs.declared.group.Group.{Group}
use Rattle.lock_rules.specs.Bound.{flow_of}
use Rattle.lock_rules.specs.Lawful.{Misses, IsFree, duration_of, stand_before, stand_after}
use Rattle.lock_rules.specs.Timetable.{first_free, ready_at, last_arrival, timetable_from}
use Rattle.lock_rules.proofs.FreeLemmas.{first_free-from, first_free-free, first_free-least}
use Rattle.lock_rules.proofs.TimetableLemmas.{last_arrival-low, last_arrival-max, last_arrival-each, last_arrival-least, closures_kept}
use Rattle.lock_rules.specs.Plan.{times_in}
use Rattle.lock_rules.specs.Trace.{has_number}
use Rattle.lock_rules.proofs.AmongLemmas.{contains-times, times-contains}
use Rattle.lock_rules.proofs.LeafLemmas.{has_number-some}
use Rattle.lock_rules.proofs.SplitLemmas.{has_number-none}
use Rattle.price_rules.specs.Prices.{IsUncut, PriceList, is_missing, price_at, paid_by, paid_in, charged_on, charged_by, charged_in}
use Rattle.price_rules.proofs.ChargeLemmas.{one, charged-fewer}
use Rattle.price_groups.specs.Asks.{LineAsk, IsUncutIn}
use Rattle.price_groups.specs.Worth.{soonest_of}
use Rattle.price_groups.proofs.IdleLemmas.{sum-insert}
use Rattle.sweep_rules.specs.Gain.{IsWayOn, IsGainFrom}
use Rattle.sweep_rules.proofs.GainLemmas.{gain_from-later}
use Rattle.sweep_labels.specs.Arcs.{IsBeyond, start_from, end_from, flow_from}
use Rattle.sweep_arcs.specs.Ways.{IsIdleGroup}

-- a part of a free span is free
free-part : (ks : List Closure) (from to end : ℕ) → to ≤ end → IsFree ks from end → IsFree ks from to
free-part ks from to end less free = All-weaker (Misses from end) (Misses from to) (λ k misses. record { apart = λ some. elim (misses.apart (omega (arith, some, less))) [ inl before ↦ inl (omega (arith, before, less)) | inr behind ↦ inr behind ] }) ks free

-- fewer ships are charged no more
charged-no_more : (prices : PriceList) (few all : List ℕ) → All (Contains all) few → charged_on prices few ≤ charged_on prices all
charged-no_more prices few all among = charged-fewer prices few all each
  where
    each : (s : ℕ) → one (has_number few s) ≤ one (has_number all s)
    each s = elim (leb_tells 1 (times_in few s)) [
      | inl some ↦
          let held : Contains all s = All-contains (Contains all) few s among (times-contains few s some.1) in
          omega (arith, ap one (has_number-some few s some.1), ap one (has_number-some all s (contains-times all s held)))
      | inr none ↦ omega (arith, ap one (has_number-none few s (omega (arith, none.1))))
    ]

module _ (L : LineAsk) (known : L.chamber < length L.instance.chambers) where
  -- at the root all ships are missing
  missing-all : (ships : List ℕ) → filter (is_missing L.instance 0) ships ≡ ships
  missing-all [] = refl
  missing-all (s ∷ ships) = ap (λ ships. s ∷ ships) (missing-all ships)

  paid-all : (g : Group) → paid_by L.instance 0 L.prices g ≡ sum_by (price_at L.prices) g.ships
  paid-all g = ap (sum_by (price_at L.prices)) (missing-all g.ships)

  way-on : (h : Group) (gs : List Group) → IsUncutIn L h → IsWayOn L.instance L.chamber L.cuts (λ s. false) gs → IsWayOn L.instance L.chamber L.cuts (λ s. false) (h ∷ gs)
  way-on h gs uncut on = record { uncut = All-cons (IsUncut L.instance L.chamber L.cuts) h gs uncut on.uncut; missing = λ j d here i e inside. refl }

  gain-high : (minute gain : ℕ) (h : Group) → IsUncutIn L h → IsGainFrom L.instance L.chamber L.cuts (λ s. false) L.prices (stand_before h.way) minute gain → (gs : List Group) → IsWayOn L.instance L.chamber L.cuts (λ s. false) gs
      → sum_by (price_at L.prices) h.ships + paid_in L.instance 0 L.prices gs
      ≤ 100 * (flow_from L.instance L.chamber minute h + flow_of L.instance gs (timetable_from L.instance L.chamber (stand_after h.way) (end_from L.instance L.chamber minute h) gs))
      + charged_by L.prices h + charged_in L.prices gs + gain
  gain-high minute gain h uncut is gs on = omega (arith, is.high (h ∷ gs) (way-on h gs uncut on), paid-all h)

  -- A GAIN BEHIND A GROUP: what the group leaves of the gain before it
  gain-behind : (minute gain left : ℕ) (h : Group) → IsUncutIn L h → IsGainFrom L.instance L.chamber L.cuts (λ s. false) L.prices (stand_before h.way) minute gain
      → left + sum_by (price_at L.prices) h.ships ≡ 100 * flow_from L.instance L.chamber minute h + charged_by L.prices h + gain
      → IsGainFrom L.instance L.chamber L.cuts (λ s. false) L.prices (stand_after h.way) (end_from L.instance L.chamber minute h) left
  gain-behind minute gain left h uncut is sum = record { high = λ gs on. omega (arith, sum, gain-high minute gain h uncut is gs on) }

  none-on : IsWayOn L.instance L.chamber L.cuts (λ s. false) []
  none-on = record { uncut = λ j d here. absurd (omega (arith, here)); missing = λ j d here. absurd (omega (arith, here)) }

  -- FEWER SHIPS OF A GROUP end no later
  end-fewer : (minute : ℕ) (g h : Group) → h.way ≡ g.way → All (Contains g.ships) h.ships → duration_of L.instance L.chamber h.ships ≤ duration_of L.instance L.chamber g.ships → end_from L.instance L.chamber minute h ≤ end_from L.instance L.chamber minute g
  end-fewer minute g h way among quick =
      let I = L.instance in
      let c = L.chamber in
      let ks = (chamber_at I c).closures in
      let ready = ready_at (chamber_at I c) (stand_before g.way) minute g.way in
      let start = start_from I c minute g in
      let low : last_arrival I ready g.ships ≤ start = first_free-from ks (duration_of I c g.ships) (last_arrival I ready g.ships) in
      let each : All (λ s. (ship_at I s).arrival ≤ last_arrival I ready g.ships) g.ships = last_arrival-each I ready g.ships in
      let arrived : All (λ s. (ship_at I s).arrival ≤ start) h.ships = All-weaker (Contains g.ships) (λ s. (ship_at I s).arrival ≤ start) (λ s held. after (ship_at I s).arrival (last_arrival I ready g.ships) start (All-contains (λ s. (ship_at I s).arrival ≤ last_arrival I ready g.ships) g.ships s each held) low) h.ships among in
      let soon : last_arrival I ready h.ships ≤ start = last_arrival-least I ready start h.ships (omega (arith, low, last_arrival-low I ready g.ships)) arrived in
      let free : IsFree ks start (start + duration_of I c h.ships) = free-part ks start (start + duration_of I c h.ships) (start + duration_of I c g.ships) (omega (arith, quick)) (first_free-free 0 ks (duration_of I c g.ships) (last_arrival I ready g.ships) (closures_kept I c known)) in
      let early : first_free ks (duration_of I c h.ships) (last_arrival I ready h.ships) ≤ start = first_free-least ks (duration_of I c h.ships) (last_arrival I ready h.ships) start soon free in
      let same : start_from I c minute h ≡ first_free ks (duration_of I c h.ships) (last_arrival I ready h.ships) = ap (λ way. first_free ks (duration_of I c h.ships) (last_arrival I (ready_at (chamber_at I c) (stand_before way) minute way) h.ships)) way in
      omega (arith, early, same, quick)
    where
      after : (a b c : ℕ) → a ≤ b → b ≤ c → a ≤ c
      after a b c h j = omega arith

  soonest-end : (minute : ℕ) (g : Group) → soonest_of L.instance L.chamber 0 g.ships ≤ end_from L.instance L.chamber minute g
  soonest-end minute g =
      let ready = ready_at (chamber_at L.instance L.chamber) (stand_before g.way) minute g.way in
      omega (
        arith,
        last_arrival-max L.instance ready g.ships,
        first_free-from (chamber_at L.instance L.chamber).closures (duration_of L.instance L.chamber g.ships) (last_arrival L.instance ready g.ships),
      )

  above : (limit : ℤ) (flow end arrival rest less all price paid few many left gain spread soonest : ℕ) → flow ≡ (end - arrival) + rest → less ≤ rest → all ≡ price + paid → left + paid ≡ 100 * less + few + gain
      → few ≤ many → price + spread + 100 * arrival < 100 * soonest → soonest ≤ end → (limit +ℤ pos gain) ≤ℤ pos spread → limit <ℤ (pos (100 * flow + many) -ℤ pos (all + left))
  above limit flow end arrival rest less all price paid few many left gain spread soonest flows fewer pays leaves charges idle soon reach =
      omega (arith, ints, flows, fewer, pays, leaves, charges, idle, soon, reach)

  low_by : (high all left : ℕ) → ((pos high -ℤ pos (all + left)) +ℤ pos (all + left)) ≤ℤ pos high
  low_by high all left = omega (arith, ints)

  -- A GROUP THAT IS IDLE by the spread is worth more than a limit that, with a gain from the minute on, is no more than the spread.
  pub idle-beyond : (spread minute gain : ℕ) (limit : ℤ) (g : Group) → IsGainFrom L.instance L.chamber L.cuts (λ s. false) L.prices (stand_before g.way) minute gain → (limit +ℤ pos gain) ≤ℤ pos spread → IsIdleGroup L spread g
      → IsBeyond L.instance L.cuts L.prices L.chamber minute limit g
  idle-beyond spread minute gain limit g is reach idle =
      let I = L.instance in
      let c = L.chamber in
      let h = idle.others in
      let s = idle.ship in
      let end = end_from I c minute g in
      let price = price_at L.prices in
      let gains : IsGainFrom I c L.cuts (λ s. false) L.prices (stand_before h.way) minute gain = subst (λ way. IsGainFrom I c L.cuts (λ s. false) L.prices (stand_before way) minute gain) (sym idle.same) is in
      let few : ℕ = charged_by L.prices h in
      let many : ℕ = charged_by L.prices g in
      let left : ℕ = 100 * flow_from I c minute h + few + gain - sum_by price h.ships in
      let leaves : left + sum_by price h.ships ≡ 100 * flow_from I c minute h + few + gain = omega (arith, gain-high minute gain h idle.uncut gains [] none-on) in
      let more : (f : ℕ → ℕ) → sum_by f g.ships ≡ f s + sum_by f h.ships = λ f. ap (sum_by f) (sym idle.joined) ∙ sum-insert f s h.ships in
      let quick : duration_of I c h.ships ≤ duration_of I c g.ships = omega (arith, more (λ s. (ship_at I s).handling)) in
      let early : end_from I c minute h ≤ end = end-fewer minute g h idle.same idle.among quick in
      let behind = gain-behind minute gain left h idle.uncut gains leaves in
      let later : IsGainFrom I c L.cuts (λ s. false) L.prices (stand_after g.way) end left =
      gain_from-later I c known L.cuts (λ s. false) (λ s. false) L.prices (stand_after g.way) (end_from I c minute h) end left left (λ s here is. is) early (omega arith)
      (subst (λ way. IsGainFrom I c L.cuts (λ s. false) L.prices (stand_after way) (end_from I c minute h) left) idle.same behind) in
      let rest : ℕ = sum_by (λ s. end - (ship_at I s).arrival) h.ships in
      let fewer : flow_from I c minute h ≤ rest = sum_by-le-sum_by (λ s. end_from I c minute h - (ship_at I s).arrival) (λ s. end - (ship_at I s).arrival) h.ships (λ s. sooner (end_from I c minute h) end (ship_at I s).arrival early) in
      record {
        worth = pos (100 * flow_from I c minute g + many) -ℤ pos (sum_by price g.ships + left);
        more = above limit (flow_from I c minute g) end (ship_at I s).arrival rest (flow_from I c minute h) (sum_by price g.ships) (price s) (sum_by price h.ships) few many left gain spread (soonest_of I c 0 g.ships)
            (more (λ s. end - (ship_at I s).arrival)) fewer (more price) leaves (charged-no_more L.prices h.ships g.ships idle.among) idle.idle (soonest-end minute g) reach;
        low = record { gain = left; is = later; least = low_by (100 * flow_from I c minute g + many) (sum_by price g.ships) left };
      }
    where
      sooner : (a b n : ℕ) → a ≤ b → a - n ≤ b - n
      sooner a b n h = omega arith
