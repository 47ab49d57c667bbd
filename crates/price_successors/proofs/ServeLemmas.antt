-- Ships that serve as well as others make a line worth no more; so few options are enough.
use Rattle.std.proofs.Common.{◌≡◌, ℕ, ◌+◌, ◌-◌, ◌*◌, ◌<◌, ◌≤◌, ℤ, pos, ◌+ℤ◌, ◌-ℤ◌, ◌≤ℤ◌, List, [], ◌∷◌, length, All, sum_by, refl, sym, subst, arith}
use Rattle.std.proofs.lemmas.Int.{ints}
use Rattle.std.proofs.lemmas.Nat.{mul-le}
use Rattle.std.proofs.lemmas.List.Sums.{sum_by-cons, sum_by-le-sum_by}
use Rattle.std.proofs.lemmas.List.Elements.{All-head, All-tail, All-weaker}
use Rattle.lock_model.specs.Fleet.{ship_at, chamber_at}
use Rattle.lock_model.specs.declared.instance.Instance.{Instance}
use Rattle.lock_model.specs.declared.group.Group.{Group}
use Rattle.lock_model.specs.declared.way.Way.{Way}
use Rattle.lock_model.specs.declared.way.Stand.{Stand}
use Rattle.lock_rules.specs.Lawful.{stand_after}
use Rattle.lock_rules.specs.Timetable.{start_of, last_arrival, timetable_from}
use Rattle.lock_rules.specs.Bound.{flow_of}
use Rattle.lock_rules.proofs.TimetableLemmas.{start_of-lawful, closures_kept, last_arrival-least, last_arrival-each}
use Rattle.lock_rules.proofs.TraceLemmas.{Dominates, Dominates-itself, Dominates-later, Dominates-skipped, start_of-kept}
use Rattle.price_rules.specs.Prices.{PriceList, paid_in, charged_on, charged_in}
use Rattle.price_groups.specs.Worth.{paid_on, end_after, worth_of, worth_from, ServeAsWell, soonest_of, ServeFrom}

-- the later the end, the more it counts that ships are more
pub later-more : (n m s e : ℕ) → n ≤ m → s ≤ e → n * e + m * s ≤ m * e + n * s
later-more n m s e few soon = split (e - s) (omega (arith, soon))
  where
    split : (d : ℕ) → e ≡ s + d → n * e + m * s ≤ m * e + n * s
    split d is = subst (λ e. n * e + m * s ≤ m * e + n * s) (sym is) (omega (arith, mul-le n d m d few (omega arith)))

module _ (I : Instance) where
  pub flow-times : (e : ℕ) (ss : List ℕ) → All (λ s. (ship_at I s).arrival ≤ e) ss → sum_by (λ s. e - (ship_at I s).arrival) ss + sum_by (λ s. (ship_at I s).arrival) ss ≡ length ss * e
  flow-times e [] all = omega arith
  flow-times e (s ∷ ss) all =
      let here : (ship_at I s).arrival ≤ e = All-head (λ s. (ship_at I s).arrival ≤ e) s ss all in
      omega (arith, here, flow-times e ss (All-tail (λ s. (ship_at I s).arrival ≤ e) s ss all), sum_by-cons (λ s. e - (ship_at I s).arrival) s ss, sum_by-cons (λ s. (ship_at I s).arrival) s ss)

  pub serve-themselves : (k : ℕ) (prices : PriceList) (ships : List ℕ) → ServeAsWell I k prices ships ships
  serve-themselves k prices ships = record { count = omega arith; same = refl; early = omega arith; quick = omega arith; pays = omega arith }

  -- from any minute on
  pub serve-from : (c k : ℕ) (prices : PriceList) (hs gs : List ℕ) (from : ℕ) → ServeAsWell I k prices hs gs → ServeFrom I c k prices from hs gs
  serve-from c k prices hs gs from well = record {
    count = well.count;
    early = omega (arith, well.early);
    quick = well.quick;
    pays = omega (arith, well.pays, mul-le (length hs) (soonest_of I c from gs) (length gs) (soonest_of I c from gs) well.count (omega arith));
  }

  -- the soonest ends of ships that serve from a minute on are no later
  soonest-served : (c k : ℕ) (prices : PriceList) (hs gs : List ℕ) (from : ℕ) → ServeFrom I c k prices from hs gs → soonest_of I c from hs ≤ soonest_of I c from gs
  soonest-served c k prices hs gs from well = omega (arith, well.early, well.quick)

  -- what serves for ships that serve for others serves for these: so an option that another one serves for can go
  pub serve-both : (c k : ℕ) (prices : PriceList) (ks hs gs : List ℕ) (from : ℕ) → ServeFrom I c k prices from ks hs → ServeFrom I c k prices from hs gs → ServeFrom I c k prices from ks gs
  serve-both c k prices ks hs gs from first second = record {
    count = omega (arith, first.count, second.count);
    early = omega (arith, first.early, second.early);
    quick = omega (arith, first.quick, second.quick);
    pays = omega (arith, first.pays, second.pays, later-more (length ks) (length hs) (soonest_of I c from hs) (soonest_of I c from gs) first.count (soonest-served c k prices hs gs from second));
  }

  -- and from each later minute on
  pub serve-later : (c k : ℕ) (prices : PriceList) (hs gs : List ℕ) (late from : ℕ) → late ≤ from → ServeFrom I c k prices late hs gs → ServeFrom I c k prices from hs gs
  serve-later c k prices hs gs late from past well = record {
    count = well.count;
    early = omega (arith, past, well.early);
    quick = well.quick;
    pays = omega (arith, well.pays, later-more (length hs) (length gs) (soonest_of I c late gs) (soonest_of I c from gs) well.count (omega (arith, past)));
  }

  module _ (c : ℕ) (known : c < length I.chambers) where
    -- from a state that is no worse a line has no more flow time
    pub flow-dominated : (stand other : Stand) (from later : ℕ) (gs : List Group) → Dominates (chamber_at I c) stand from other later → flow_of I gs (timetable_from I c stand from gs) ≤ flow_of I gs (timetable_from I c other later gs)
    flow-dominated stand other from later [] better = omega arith
    flow-dominated stand other from later (g ∷ gs) better =
        let lawful = start_of-lawful I c known other later g in
        let first = start_of-kept I c known stand other from later (start_of I c other later g) g g.ships better lawful lawful.arrived (omega arith) in
        let end : ℕ = end_after I c stand from g in
        let done : ℕ = end_after I c other later g in
        let ends : end ≤ done = omega (arith, first) in
        let less = sum_by-le-sum_by (λ s. end - (ship_at I s).arrival) (λ s. done - (ship_at I s).arrival) g.ships (λ s. omega arith) in
        let rest = flow-dominated (stand_after g.way) (stand_after g.way) end done gs (Dominates-later (chamber_at I c) (stand_after g.way) end done (closures_kept I c known) ends) in
        omega (arith, less, rest)

    step : (x y e p : ℕ) → x ≤ y → (pos (100 * x + e) -ℤ pos p) ≤ℤ (pos (100 * y + e) -ℤ pos p)
    step x y e p h = omega (arith, ints)

    -- a group before a line makes the line worth no less
    pub worth-skipped : (k : ℕ) (prices : PriceList) (stand : Stand) (from : ℕ) (g : Group) (gs : List Group) → worth_from I c k prices stand from gs ≤ℤ worth_from I c k prices (stand_after g.way) (end_after I c stand from g) gs
    worth-skipped k prices stand from g gs =
        step (flow_of I gs (timetable_from I c stand from gs)) (flow_of I gs (timetable_from I c (stand_after g.way) (end_after I c stand from g) gs)) (charged_in prices gs) (paid_in I k prices gs)
        (flow-dominated stand (stand_after g.way) from (end_after I c stand from g) gs
        (Dominates-skipped I c known stand stand from from (start_of I c stand from g) g (Dominates-itself (chamber_at I c) stand from) (start_of-lawful I c known stand from g)))

    -- a line that begins later is worth no less
    pub worth-later : (k : ℕ) (prices : PriceList) (stand : Stand) (from later : ℕ) (gs : List Group) → from ≤ later → worth_from I c k prices stand from gs ≤ℤ worth_from I c k prices stand later gs
    worth-later k prices stand from later gs less =
        step (flow_of I gs (timetable_from I c stand from gs)) (flow_of I gs (timetable_from I c stand later gs)) (charged_in prices gs) (paid_in I k prices gs)
        (flow-dominated stand stand from later gs (Dominates-later (chamber_at I c) stand from later (closures_kept I c known) less))

    module _ (k : ℕ) (prices : PriceList) (way : Way) (hs gs : List ℕ) (stand : Stand) (from : ℕ) (well : ServeFrom I c k prices from hs gs) where
      abbrev g : Group
      g = record { way = way; ships = gs }

      abbrev h : Group
      h = record { way = way; ships = hs }

      arrived : All (λ s. (ship_at I s).arrival ≤ start_of I c stand from g) hs
      arrived =
          let lawful = start_of-lawful I c known stand from g in
          let last = last_arrival-least I 0 (start_of I c stand from g) gs (omega arith) lawful.arrived in
          All-weaker (λ s. (ship_at I s).arrival ≤ last_arrival I 0 hs) (λ s. (ship_at I s).arrival ≤ start_of I c stand from g) (λ s e. omega (arith, e, last, lawful.later, well.early)) hs (last_arrival-each I 0 hs)

      -- they end no later
      pub serve-end : end_after I c stand from h ≤ end_after I c stand from g
      serve-end =
          let start = start_of-kept I c known stand stand from from (start_of I c stand from g) g hs (Dominates-itself (chamber_at I c) stand from) (start_of-lawful I c known stand from g) arrived well.quick in
          omega (arith, start, well.quick)

      -- the others end no sooner than they can
      end-soonest : soonest_of I c from gs ≤ end_after I c stand from g
      end-soonest =
          let lawful = start_of-lawful I c known stand from g in
          omega (arith, lawful.later, last_arrival-least I 0 (start_of I c stand from g) gs (omega arith) lawful.arrived)

      -- and are worth no more
      pub serve-worth : worth_of I c k prices stand from h ≤ℤ worth_of I c k prices stand from g
      serve-worth =
          let end : ℕ = end_after I c stand from h in
          let other : ℕ = end_after I c stand from g in
          let ends : end ≤ other = serve-end in
          let less = sum_by-le-sum_by (λ s. end - (ship_at I s).arrival) (λ s. other - (ship_at I s).arrival) hs (λ s. omega arith) in
          let mine = flow-times other hs (All-weaker (λ s. (ship_at I s).arrival ≤ start_of I c stand from g) (λ s. (ship_at I s).arrival ≤ other) (λ s e. omega (arith, e)) hs arrived) in
          let yours = flow-times other gs (All-weaker (λ s. (ship_at I s).arrival ≤ start_of I c stand from g) (λ s. (ship_at I s).arrival ≤ other) (λ s e. omega (arith, e)) gs (start_of-lawful I c known stand from g).arrived) in
          let soonest : ℕ = soonest_of I c from gs in
          step (sum_by (λ s. end - (ship_at I s).arrival) hs) (sum_by (λ s. other - (ship_at I s).arrival) hs) (sum_by (λ s. other - (ship_at I s).arrival) gs) (sum_by (λ s. (ship_at I s).arrival) hs) (sum_by (λ s. (ship_at I s).arrival) gs) (length hs * other) (length gs * other) (length hs * soonest) (length gs * soonest) (paid_on I k prices hs) (paid_on I k prices gs) (charged_on prices hs) (charged_on prices gs)
          less mine yours (later-more (length hs) (length gs) soonest other well.count end-soonest) well.pays
        where
          step : (x y z a b m n u v p q e f : ℕ) → x ≤ y → y + a ≡ m → z + b ≡ n → m + v ≤ n + u → q + e + 100 * b + 100 * u ≤ p + f + 100 * a + 100 * v → (pos (100 * x + e) -ℤ pos p) ≤ℤ (pos (100 * z + f) -ℤ pos q)
          step x y z a b m n u v p q e f h1 h2 h3 h4 h5 = omega (arith, ints)

      -- so is the line that goes on behind them
      pub serve-line : (rest : List Group) → (worth_of I c k prices stand from h +ℤ worth_from I c k prices (stand_after way) (end_after I c stand from h) rest) ≤ℤ (worth_of I c k prices stand from g +ℤ worth_from I c k prices (stand_after way) (end_after I c stand from g) rest)
      serve-line rest =
          step (worth_of I c k prices stand from h) (worth_of I c k prices stand from g) (flow_of I rest (timetable_from I c (stand_after way) (end_after I c stand from h) rest)) (flow_of I rest (timetable_from I c (stand_after way) (end_after I c stand from g) rest)) (charged_in prices rest) (paid_in I k prices rest)
          serve-worth (flow-dominated (stand_after way) (stand_after way) (end_after I c stand from h) (end_after I c stand from g) rest
          (Dominates-later (chamber_at I c) (stand_after way) (end_after I c stand from h) (end_after I c stand from g) (closures_kept I c known) serve-end))
        where
          step : (v w : ℤ) (x y q p : ℕ) → v ≤ℤ w → x ≤ y → (v +ℤ (pos (100 * x + q) -ℤ pos p)) ≤ℤ (w +ℤ (pos (100 * y + q) -ℤ pos p))
          step v w x y q p e f = omega (arith, ints)
