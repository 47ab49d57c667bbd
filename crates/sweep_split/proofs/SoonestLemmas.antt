-- Missing ships at their soonest: what they cost at the least behind a label.
use Rattle.std.proofs.Common.{◌≡◌, ℕ, suc, ◌+◌, ◌-◌, ◌*◌, ◌<◌, ◌≤◌, ◌||◌, max, not, Bool, true, false, true≢false, cond, List, [], ◌∷◌, length, All, Contains, sum_by, filter, inl, inr, refl, sym, ◌∙◌, subst, arith}
use Rattle.std.proofs.Math.Dec.{leb}
use Rattle.std.proofs.lemmas.Bool.Decides.{leb_tells}
use Rattle.std.proofs.lemmas.List.Elements.{All-head, All-tail, All-weaker, All-contains, All-contains_itself}
use Rattle.std.proofs.lemmas.List.Sums.{sum_by-cons, sum_by-append}
use Rattle.lock_model.specs.Fleet.{ship_at, chamber_at}
use Rattle.lock_model.specs.declared.instance.Instance.{Instance}
use Rattle.lock_model.specs.declared.group.Group.{Group}
use Rattle.lock_model.specs.declared.way.Way.{Way}
use Rattle.lock_model.specs.declared.way.Way.TheVariants.{Up, Down}
use Rattle.lock_model.specs.declared.way.Stand.{Stand}
use Rattle.lock_rules.specs.Lawful.{IsLawfulStart, AreLawfulFrom, duration_of, stand_before, stand_after}
use Rattle.lock_rules.specs.Plan.{times_in}
use Rattle.lock_rules.specs.Trace.{has_number}
use Rattle.lock_rules.specs.Arrival.{numbers_from}
use Rattle.lock_rules.proofs.LineLemmas.{sum_by-each, numbers-below}
use Rattle.price_rules.specs.Prices.{PlainCut, PriceList, price_at}
use Rattle.price_rules.proofs.ChargeLemmas.{one, has-times, charged-fewer}
use Rattle.sweep_rules.specs.Label.{Label, IsWanted}
use Rattle.sweep_rules.specs.Completion.{AreLawfulAfter, EndsBelow, flow_starting}
use Rattle.sweep_rules.specs.Gain.{IsWayOn, IsGain, ships_missing, triples_missing}
use Rattle.sweep_rules.proofs.MissingLemmas.{ships_of, missing-one, missing-none, missing-past, missing-has}
use Rattle.sweep_rules.proofs.OverLemmas.{completion-on}
use Rattle.sweep_rules.proofs.ReadyLemmas.{ship-wanted, way_on-head, way_on-tail}
use Rattle.sweep_rules.proofs.GainLemmas.{above-none, completion-sum, way_on-fewer}
use Rattle.sweep_split.specs.Split.{early_label, late_label, IsSteady, MissesAll, HasLateCost}
use Rattle.sweep_split.specs.Soonest.{IsSoonest}
use Rattle.sweep_split.proofs.SplitLemmas.{split-ends}

-- ships that end together, each of which took its own handling at least
ships-soon : (I : Instance) (soon : ℕ → ℕ) (low total : ℕ) (ships : List ℕ) → sum_by (λ s. (ship_at I s).handling) ships ≤ total
    → All (λ s. soon s + (ship_at I s).arrival ≤ low + (ship_at I s).handling) ships → sum_by soon ships ≤ sum_by (λ s. low + total - (ship_at I s).arrival) ships
ships-soon I soon low total [] less all = omega arith
ships-soon I soon low total (s ∷ ss) less all =
    let parts = sum_by-cons (λ s. (ship_at I s).handling) s ss in
    let here = All-head (λ s. soon s + (ship_at I s).arrival ≤ low + (ship_at I s).handling) s ss all in
    let rest = ships-soon I soon low total ss (omega (arith, less, parts)) (All-tail (λ s. soon s + (ship_at I s).arrival ≤ low + (ship_at I s).handling) s ss all) in
    omega (arith, less, parts, here, rest, sum_by-cons soon s ss, sum_by-cons (λ s. low + total - (ship_at I s).arrival) s ss)

module _ (I : Instance) (cuts : List PlainCut) (label : Label) (soon : ℕ → ℕ) (steady : IsSteady I cuts label) (soonest : IsSoonest I cuts label soon) where
  module _ (c : ℕ) (known : c < length I.chambers) where
    -- from this minute on the chamber is ready for each ship that is wanted and has arrived
    record AreReady (from : ℕ) : Type 0 where
      by : (way : Way) (s t : ℕ) → IsWanted I cuts label.served c way s → (ship_at I s).arrival ≤ t → from ≤ t → label.ready c way ≤ t

    -- so it is behind a first lockage
    ready-behind : (first : Way) (t : ℕ) → label.ready c first ≤ t → AreReady (t + (chamber_at I c).pass)
    ready-behind first t after = record { by = λ way s at wanted arrived late. step first way s at wanted arrived (omega arith) }
      where
        step : (first way : Way) (s at : ℕ) → IsWanted I cuts label.served c way s → (ship_at I s).arrival ≤ at → label.ready c first + (chamber_at I c).pass ≤ at → label.ready c way ≤ at
        step Up Up s at wanted arrived late = omega arith
        step Up Down s at wanted arrived late = omega (arith, steady.soon c known Down s wanted)
        step Down Up s at wanted arrived late = omega (arith, steady.soon c known Up s wanted)
        step Down Down s at wanted arrived late = omega arith

    -- a group's ships end no sooner than their soonest
    group-soon : (g : Group) (gs : List Group) (stand : Stand) (from t : ℕ) → IsWayOn I c cuts label.served (g ∷ gs) → IsLawfulStart I c stand from g t
        → ((s : ℕ) → IsWanted I cuts label.served c g.way s → (ship_at I s).arrival ≤ t → label.ready c g.way ≤ t)
        → sum_by soon g.ships ≤ sum_by (λ s. t + duration_of I c g.ships - (ship_at I s).arrival) g.ships
    group-soon g gs stand from t on lawful ready =
        let own = way_on-head I c cuts label.served g gs on in
        let each : All (λ s. soon s + (ship_at I s).arrival ≤ t + (chamber_at I c).pass + (ship_at I s).handling) g.ships =
        All-weaker (Contains g.ships) (λ s. soon s + (ship_at I s).arrival ≤ t + (chamber_at I c).pass + (ship_at I s).handling) (λ s inside.
        let wanted = ship-wanted I c cuts label.served g own.0 own.1 s inside in
        let arrived : (ship_at I s).arrival ≤ t = All-contains (λ s. (ship_at I s).arrival ≤ t) g.ships s lawful.arrived inside in
        omega (arith, soonest.least c known g.way s wanted, ready s wanted arrived, arrived)) g.ships (All-contains_itself g.ships) in
        let handling : ℕ = sum_by (λ s. (ship_at I s).handling) g.ships in
        let ends : t + (chamber_at I c).pass + handling ≡ t + duration_of I c g.ships = omega arith in
        subst (λ end. sum_by soon g.ships ≤ sum_by (λ s. end - (ship_at I s).arrival) g.ships) ends
        (ships-soon I soon (t + (chamber_at I c).pass) handling g.ships (omega arith) each)

    line-rest : (stand : Stand) (from : ℕ) (gs : List Group) (ts : List ℕ) → AreReady from → IsWayOn I c cuts label.served gs → AreLawfulFrom I c stand from gs ts
        → sum_by soon (ships_of gs) ≤ flow_starting I c gs ts
    line-rest stand from [] ts are on lawful = omega arith
    line-rest stand from (g ∷ gs) [] are on lawful = absurd lawful
    line-rest stand from (g ∷ gs) (t ∷ ts) are on lawful =
        let after : from ≤ t = lawful.0.later in
        let still : AreReady (t + duration_of I c g.ships) = record { by = λ way s at wanted arrived late. are.by way s at wanted arrived (omega arith) } in
        let here = group-soon g gs stand from t on lawful.0 (λ s wanted arrived. are.by g.way s t wanted arrived after) in
        let rest = line-rest (stand_after g.way) (t + duration_of I c g.ships) gs ts still (way_on-tail I c cuts label.served g gs on) lawful.1 in
        omega (arith, here, rest, sum_by-append soon g.ships (ships_of gs))

    -- A LINE BEHIND THE LABEL has as much flow time as its ships have at their soonest.
    line-soon : (gs : List Group) (ts : List ℕ) → IsWayOn I c cuts label.served gs → AreLawfulAfter I c (label.ready c) gs ts → sum_by soon (ships_of gs) ≤ flow_starting I c gs ts
    line-soon [] ts on lawful = omega arith
    line-soon (g ∷ gs) [] on lawful = absurd lawful
    line-soon (g ∷ gs) (t ∷ ts) on lawful =
        let after : label.ready c g.way ≤ t = lawful.0.later in
        let behind = ready-behind g.way t after in
        let still : AreReady (t + duration_of I c g.ships) = record { by = λ way s at wanted arrived late. behind.by way s at wanted arrived (omega arith) } in
        let here = group-soon g gs (stand_before g.way) (label.ready c g.way) t on lawful.0 (λ s wanted arrived. after) in
        let rest = line-rest (stand_after g.way) (t + duration_of I c g.ships) gs ts still (way_on-tail I c cuts label.served g gs on) lawful.1 in
        omega (arith, here, rest, sum_by-append soon g.ships (ships_of gs))

  -- so ships that the label misses cost at least that by themselves
  late-soon : (late : ℕ → Bool) → MissesAll I late label → HasLateCost I cuts late label.ready (sum_by soon (ships_missing I (λ s. not (late s))))
  late-soon late misses = record {
    low = λ ends.
        let m = length I.chambers in
        let part = late_label late label.ready in
        let own : ℕ → ℕ = λ c. sum_by soon (ships_of (ends.lines c)) in
        let flow : ℕ → ℕ = λ c. flow_starting I c (ends.lines c) (ends.starts c) in
        let each : All (λ c. own c ≤ flow c) (numbers_from 0 m) =
        All-weaker (λ c. c < 0 + m) (λ c. own c ≤ flow c) (λ c less.
        let known : c < m = omega arith in
        line-soon c known (ends.lines c) (ends.starts c)
        (way_on-fewer I c cuts label.served (λ s. not (late s)) (λ s ship out. misses.missing s ship (told (late s) out)) (ends.lines c) (completion-on I cuts part ends.lines ends.starts ends.is c known))
        (ends.is.lawful c known)) (numbers_from 0 m) (numbers-below 0 m) in
        absurd (omega (arith, ends.below, sum_by-each own flow (numbers_from 0 m) each, completion-sum I cuts part soon ends.lines ends.starts ends.is));
  }
    where
      told : (b : Bool) → not b ≡ false → b ≡ true
      told true is = refl
      told false is = cc

-- a missing ship is late where its soonest flow time is more than its price
abbrev late_of : Label → PriceList → (ℕ → ℕ) → ℕ → Bool
late_of label prices soon s = cond (label.served s) false (leb (suc (price_at prices s)) (100 * soon s))

module _ (served late : ℕ → Bool) (price soon : ℕ → ℕ) where
  -- the costs of missing ships are those of the late ones and the prices of the others
  costs-parts : ((s : ℕ) → late s ≡ true → served s ≡ false) → ((s : ℕ) → served s ≡ false → late s ≡ true → price s ≤ 100 * soon s) → ((s : ℕ) → served s ≡ false → late s ≡ false → 100 * soon s ≤ price s)
      → (xs : List ℕ) → sum_by (λ s. max (price s) (100 * soon s)) (filter (λ s. not (served s)) xs)
      ≡ sum_by price (filter (λ s. not (served s || late s)) xs) + 100 * sum_by soon (filter (λ s. not (not (late s))) xs)
  costs-parts misses high low [] = omega arith
  costs-parts misses high low (x ∷ xs) =
      by (served x) (late x) refl refl (filter (λ s. not (served s)) xs) (filter (λ s. not (served s || late s)) xs) (filter (λ s. not (not (late s))) xs) (costs-parts misses high low xs)
    where
      differ : true ≡ false → ⊥
      differ e = cc

      by : (s l : Bool) → served x ≡ s → late x ≡ l → (whole early own : List ℕ) → sum_by (λ s. max (price s) (100 * soon s)) whole ≡ sum_by price early + 100 * sum_by soon own
          → sum_by (λ s. max (price s) (100 * soon s)) (cond (not s) (x ∷ whole) whole) ≡ sum_by price (cond (not (s || l)) (x ∷ early) early) + 100 * sum_by soon (cond (not (not l)) (x ∷ own) own)
      by true true is_served is_late whole early own rest = absurd (differ (sym is_served ∙ misses x is_late))
      by true false is_served is_late whole early own rest = rest
      by false true is_served is_late whole early own rest =
          omega (arith, rest, high x is_served is_late, sum_by-cons (λ s. max (price s) (100 * soon s)) x whole, sum_by-cons soon x own)
      by false false is_served is_late whole early own rest =
          omega (arith, rest, low x is_served is_late, sum_by-cons (λ s. max (price s) (100 * soon s)) x whole, sum_by-cons price x early)

-- fewer missing ships have no more triples
triples-fewer : (I : Instance) (prices : PriceList) (served more : ℕ → Bool) → ((s : ℕ) → s < length I.ships → more s ≡ false → served s ≡ false) → triples_missing I prices more ≤ triples_missing I prices served
triples-fewer I prices served more fewer =
    charged-fewer prices (ships_missing I more) (ships_missing I served) (λ s. missing-has I served (one (has_number (ships_missing I more) s)) s (omega (arith, has-times (ships_missing I more) s, times s)))
  where
    by : (s : ℕ) (b : Bool) → more s ≡ b → s < length I.ships → times_in (ships_missing I more) s ≤ times_in (ships_missing I served) s
    by s true is known = omega (arith, missing-none I more s is)
    by s false is known = omega (arith, missing-one I more s known is, missing-one I served s known (fewer s known is))

    times : (s : ℕ) → times_in (ships_missing I more) s ≤ times_in (ships_missing I served) s
    times s = elim (leb_tells (length I.ships) s) [
      | inl past ↦ omega (arith, missing-past I more s past.1)
      | inr known ↦ by s (more s) refl known.1
    ]

-- A LABEL WHOSE MISSING SHIPS COST TOO MUCH AT THEIR SOONEST has no completion of a total below the goal: each counts with its price or 100 times its soonest flow time, whatever is more.
pub soon-none : (I : Instance) (cuts : List PlainCut) (label : Label) (prices : PriceList) (gains : ℕ → ℕ) (soon : ℕ → ℕ) (goal : ℕ)
    → IsSteady I cuts label → IsSoonest I cuts label soon → ((c : ℕ) → c < length I.chambers → IsGain I c cuts label prices (gains c))
    → 100 * goal + sum_by gains (numbers_from 0 (length I.chambers)) + triples_missing I prices label.served
    < 100 * label.flow + sum_by (λ s. max (price_at prices s) (100 * soon s)) (ships_missing I label.served) + 100
    → EndsBelow I cuts goal label → ⊥
soon-none I cuts label prices gains soon goal steady soonest are above ends =
    let late : ℕ → Bool = late_of label prices soon in
    let part : Label = early_label label late in
    let cost : ℕ = sum_by soon (ships_missing I (λ s. not (late s))) in
    let misses : MissesAll I late label = record { missing = λ s known is. is-missing (label.served s) (is_late s) is } in
    let early : EndsBelow I cuts (goal - cost) part =
    split-ends I cuts label late label.ready goal cost steady (record { later = λ c known way s wanted. omega arith }) misses (late-soon I cuts label soon steady soonest late misses) ends in
    let parts = costs-parts label.served late (price_at prices) soon (λ s is. is-missing (label.served s) (is_late s) is) high low (numbers_from 0 (length I.ships)) in
    let triples = triples-fewer I prices label.served part.served (λ s known out. still (label.served s) (late s) out) in
    elim (leb_tells cost goal) [
      | inl enough ↦
          above-none I cuts part prices gains
          (λ c known. record { high = λ gs on. (are c known).high gs (way_on-fewer I c cuts label.served part.served (λ s ship out. still (label.served s) (late s) out) gs on) })
          (goal - cost) (record { high = omega (arith, above, parts, triples, enough.1) }) early
      | inr less ↦ absurd (omega (arith, early.below, less.1))
    ]
  where
    is_late : ℕ → Bool
    is_late s = leb (suc (price_at prices s)) (100 * soon s)

    is-missing : (b t : Bool) → cond b false t ≡ true → b ≡ false
    is-missing true t e = absurd (true≢false (sym e))
    is-missing false t e = refl

    is-late : (b t : Bool) → cond b false t ≡ true → t ≡ true
    is-late true t e = absurd (true≢false (sym e))
    is-late false t e = e

    isnt-late : (b t : Bool) → b ≡ false → cond b false t ≡ false → t ≡ false
    isnt-late true t missing e = absurd (true≢false missing)
    isnt-late false t missing e = e

    still : (b l : Bool) → (b || l) ≡ false → b ≡ false
    still true l e = e
    still false l e = refl

    high : (s : ℕ) → label.served s ≡ false → late_of label prices soon s ≡ true → price_at prices s ≤ 100 * soon s
    high s missing is = elim (leb_tells (suc (price_at prices s)) (100 * soon s)) [
      | inl more ↦ omega (arith, more.1)
      | inr less ↦ absurd (true≢false (sym (is-late (label.served s) (leb (suc (price_at prices s)) (100 * soon s)) is) ∙ less.0))
    ]

    low : (s : ℕ) → label.served s ≡ false → late_of label prices soon s ≡ false → 100 * soon s ≤ price_at prices s
    low s missing out = elim (leb_tells (suc (price_at prices s)) (100 * soon s)) [
      | inl more ↦ absurd (true≢false (sym more.0 ∙ isnt-late (label.served s) (leb (suc (price_at prices s)) (100 * soon s)) missing out))
      | inr less ↦ omega (arith, less.1)
    ]
