-- The lines of some ships of a completion: what is kept of uncut groups, how often ships stand there, and the flow times of their earliest timetables.
use Rattle.std.proofs.Common.{◌≡◌, ℕ, ◌+◌, ◌-◌, ◌<◌, ◌≤◌, not, Bool, true, false, List, [], ◌∷◌, length, All, Contains, sum_by, filter, refl, ◌∙◌, arith}
use Rattle.std.proofs.lemmas.List.Elements.{All-nil, All-head, All-tail, All-cons, All-weaker, All-contains, All-contains_itself, All-filter, filter_passes}
use Rattle.list_laws.proofs.Counts.{filter-shorter}
use Rattle.lock_model.specs.Fleet.{ship_at, chamber_at}
use Rattle.lock_model.specs.declared.instance.Instance.{Instance}
use Rattle.lock_model.specs.declared.group.Group.{Group}
use Rattle.lock_model.specs.declared.way.Way.{Way}
use Rattle.lock_model.specs.declared.way.Stand.{Stand}
use Rattle.lock_rules.specs.Lawful.{IsLawfulStart, AreLawfulFrom, duration_of, stand_before, stand_after}
use Rattle.lock_rules.specs.Timetable.{timetable_from, starts_of}
use Rattle.lock_rules.specs.Trace.{with_group, trace_by}
use Rattle.lock_rules.specs.Arrival.{numbers_from}
use Rattle.lock_rules.specs.Plan.{times_in}
use Rattle.lock_rules.specs.Node.{times_on}
use Rattle.lock_rules.specs.Bound.{flow_of}
use Rattle.lock_rules.proofs.CountLemmas.{sum_by-parts}
use Rattle.lock_rules.proofs.LineLemmas.{sum_by-zero}
use Rattle.lock_rules.proofs.NodeLemmas.{increasing-RisesFrom}
use Rattle.lock_rules.proofs.SplitLemmas.{RisesFrom-increasing}
use Rattle.lock_rules.proofs.TreeLemmas.{RisesFrom-filter}
use Rattle.lock_rules.proofs.TimetableLemmas.{closures_kept, timetable-lawful}
use Rattle.lock_rules.proofs.TraceLemmas.{Dominates, Dominates-later, handling_of, kept_flow, trace-step, trace-flow, sum_by-filter}
use Rattle.price_rules.specs.Prices.{PlainCut, Spares, IsUncut}
use Rattle.sweep_rules.specs.Uncut.{times_over}
use Rattle.sweep_rules.specs.Label.{IsWanted}
use Rattle.sweep_rules.specs.Completion.{AreLawfulAfter, flow_starting}
use Rattle.sweep_rules.specs.Gain.{IsWayOn, timetable_after}
use Rattle.sweep_rules.proofs.MissingLemmas.{times_in-kept, times_in-lost}
use Rattle.sweep_rules.proofs.ReadyLemmas.{start-after, ship-wanted, way_on-head, way_on-tail}

-- what a test keeps stood there before
pub kept-contains : (kept : ℕ → Bool) (ships : List ℕ) (s : ℕ) → Contains (filter kept ships) s → Contains ships s
kept-contains kept ships s held = All-contains (Contains ships) (filter kept ships) s (All-filter kept (Contains ships) ships (All-contains_itself ships)) held

module _ (I : Instance) (c : ℕ) (cuts : List PlainCut) (kept : ℕ → Bool) where
  -- ---- the kept ships of an uncut group are an uncut group
  kept-uncut : (g : Group) → IsUncut I c cuts g → 1 ≤ length (filter kept g.ships) → IsUncut I c cuts (record { way = g.way; ships = filter kept g.ships })
  kept-uncut g uncut some = record {
    good = record {
      rising = increasing-RisesFrom 0 (filter kept g.ships) (RisesFrom-filter kept 0 g.ships (RisesFrom-increasing g.ships uncut.good.rising));
      count = (some, omega (arith, filter-shorter kept g.ships, uncut.good.count.1));
      way = All-filter kept (λ s. (ship_at I s).way ≡ g.way) g.ships uncut.good.way;
    };
    known = All-filter kept (λ s. s < length I.ships) g.ships uncut.known;
    spared = All-weaker (Spares I c g.ships) (Spares I c (filter kept g.ships)) (λ cut h. record {
      spared = λ hits. h.spared (record {
        among = All-weaker (Contains (filter kept g.ships)) (Contains g.ships) (kept-contains kept g.ships) cut.ships hits.among;
        sizes = hits.sizes;
        tight = hits.tight;
      });
    }) cuts uncut.spared;
  }

  with-uncut : (way : Way) (ships : List ℕ) (gs : List Group) → (1 ≤ length ships → IsUncut I c cuts (record { way = way; ships = ships })) → All (IsUncut I c cuts) gs → All (IsUncut I c cuts) (with_group way ships gs)
  with-uncut way [] gs own rest = rest
  with-uncut way (s ∷ ss) gs own rest = All-cons (IsUncut I c cuts) (record { way = way; ships = s ∷ ss }) gs (own (omega arith)) rest

  pub line-uncut : (gs : List Group) → All (IsUncut I c cuts) gs → All (IsUncut I c cuts) (trace_by kept gs)
  line-uncut [] all = All-nil (IsUncut I c cuts)
  line-uncut (g ∷ gs) all =
      with-uncut g.way (filter kept g.ships) (trace_by kept gs) (kept-uncut g (All-head (IsUncut I c cuts) g gs all)) (line-uncut gs (All-tail (IsUncut I c cuts) g gs all))

module _ (kept : ℕ → Bool) where
  -- ---- a kept ship stands in what is kept as often as before, another one doesn't
  with-times : (way : Way) (ships : List ℕ) (gs : List Group) (s : ℕ) → times_on s (with_group way ships gs) ≡ times_in ships s + times_on s gs
  with-times way [] gs s = omega arith
  with-times way (x ∷ xs) gs s = refl

  line-kept : (s : ℕ) → kept s ≡ true → (gs : List Group) → times_on s (trace_by kept gs) ≡ times_on s gs
  line-kept s is [] = refl
  line-kept s is (g ∷ gs) = omega (arith, with-times g.way (filter kept g.ships) (trace_by kept gs) s, times_in-kept kept g.ships s is, line-kept s is gs)

  line-lost : (s : ℕ) → kept s ≡ false → (gs : List Group) → times_on s (trace_by kept gs) ≡ 0
  line-lost s out [] = refl
  line-lost s out (g ∷ gs) = omega (arith, with-times g.way (filter kept g.ships) (trace_by kept gs) s, times_in-lost kept g.ships s out, line-lost s out gs)

  abbrev pub kept_lines : (ℕ → List Group) → ℕ → List Group
  kept_lines lines c = trace_by kept (lines c)

  pub over-kept : (I : Instance) (lines : ℕ → List Group) (s : ℕ) → kept s ≡ true → times_over I s (kept_lines lines) ≡ times_over I s lines
  over-kept I lines s is = λ i. sum_by (λ c. line-kept s is (lines c) i) (numbers_from 0 (length I.chambers))

  pub over-lost : (I : Instance) (lines : ℕ → List Group) (s : ℕ) → kept s ≡ false → times_over I s (kept_lines lines) ≡ 0
  over-lost I lines s out = (λ i. sum_by (λ c. line-lost s out (lines c) i) (numbers_from 0 (length I.chambers))) ∙ sum_by-zero (numbers_from 0 (length I.chambers))

-- each chamber's earliest starts behind a label's minutes
abbrev pub starts_after : Instance → (ℕ → Way → ℕ) → (ℕ → List Group) → ℕ → List ℕ
starts_after I ready lines c = starts_of (timetable_after I c (ready c) (lines c))

module _ (I : Instance) (c : ℕ) (known : c < length I.chambers) where
  -- they are lawful,
  pub after-lawful : (ready : Way → ℕ) (gs : List Group) → AreLawfulAfter I c ready gs (starts_of (timetable_after I c ready gs))
  after-lawful ready [] = tt
  after-lawful ready (g ∷ gs) = timetable-lawful I c known (stand_before g.way) (ready g.way) (g ∷ gs)

  -- and the flow times of a line are those of its two parts
  pub kept-parts : (kept : ℕ → Bool) (gs : List Group) (ts : List ℕ) → kept_flow I c known kept gs ts + kept_flow I c known (λ s. not (kept s)) gs ts ≡ flow_starting I c gs ts
  kept-parts kept [] ts = omega arith
  kept-parts kept (g ∷ gs) [] = omega arith
  kept-parts kept (g ∷ gs) (t ∷ ts) = omega (arith, sum_by-parts (λ s. t + duration_of I c g.ships - (ship_at I s).arrival) kept g.ships, kept-parts kept gs ts)

-- From this minute on each kept ship that is wanted finds the chamber ready for its way.
record AreReady (I : Instance) (cuts : List PlainCut) (served kept : ℕ → Bool) (c : ℕ) (ready : Way → ℕ) (from : ℕ) : Type 0 where
  by : (way : Way) (s t : ℕ) → IsWanted I cuts served c way s → kept s ≡ true → (ship_at I s).arrival ≤ t → from ≤ t → ready way ≤ t

-- What a label's minutes say of those of a part of its ships: by its own way a kept ship is ready no later, by the other one no later than a lockage afterwards or its arrival.
pub record AreSoon (I : Instance) (cuts : List PlainCut) (served kept : ℕ → Bool) (c : ℕ) (whole ready : Way → ℕ) : Type 0 where
  pub own : (way : Way) (s : ℕ) → IsWanted I cuts served c way s → kept s ≡ true → ready way ≤ whole way
  pub behind : (first way : Way) (s t : ℕ) → IsWanted I cuts served c way s → kept s ≡ true → (ship_at I s).arrival ≤ t → whole first + (chamber_at I c).pass ≤ t → ready way ≤ t

module _ (I : Instance) (cuts : List PlainCut) (served kept : ℕ → Bool) (c : ℕ) (known : c < length I.chambers) (ready : Way → ℕ) where
  -- one group, of which the ships ks are kept
  kept-step : (g : Group) (rest : List Group) (t bound : ℕ) (stand : Stand) (from : ℕ) → IsLawfulStart I c stand from g t
      → flow_of I rest (timetable_after I c ready rest) ≤ bound
      → ((st : Stand) (fr : ℕ) → Dominates (chamber_at I c) st fr (stand_after g.way) (t + duration_of I c g.ships) → flow_of I rest (timetable_from I c st fr rest) ≤ bound)
      → (ks : List ℕ) → ((s : ℕ) → Contains ks s → ready g.way ≤ t) → All (λ s. (ship_at I s).arrival ≤ t) ks → handling_of I c known ks ≤ handling_of I c known g.ships
      → flow_of I (with_group g.way ks rest) (timetable_after I c ready (with_group g.way ks rest)) ≤ sum_by (λ s. t + duration_of I c g.ships - (ship_at I s).arrival) ks + bound
  kept-step g rest t bound stand from lawful skipped onward [] early arrived less = omega (arith, skipped)
  kept-step g rest t bound stand from lawful skipped onward (k ∷ ks) early arrived less =
      let h : ready g.way ≤ t = early k (0, omega arith, refl) in
      trace-step I c known kept g rest t bound (stand_before g.way) (stand_before g.way) (ready g.way) t
      (Dominates-later (chamber_at I c) (stand_before g.way) (ready g.way) t (closures_kept I c known) h)
      (start-after I c stand from t g t (omega arith) lawful) onward (k ∷ ks) arrived less

  -- a group before a line of which the flow is known
  kept-group : (g : Group) (gs : List Group) (t : ℕ) (ts : List ℕ) (stand : Stand) (from : ℕ) → IsWayOn I c cuts served (g ∷ gs) → IsLawfulStart I c stand from g t
      → AreLawfulFrom I c (stand_after g.way) (t + duration_of I c g.ships) gs ts
      → ((s : ℕ) → IsWanted I cuts served c g.way s → kept s ≡ true → (ship_at I s).arrival ≤ t → ready g.way ≤ t)
      → flow_of I (trace_by kept gs) (timetable_after I c ready (trace_by kept gs)) ≤ kept_flow I c known kept gs ts
      → flow_of I (trace_by kept (g ∷ gs)) (timetable_after I c ready (trace_by kept (g ∷ gs))) ≤ kept_flow I c known kept (g ∷ gs) (t ∷ ts)
  kept-group g gs t ts stand from on lawful later early skipped =
      let own = way_on-head I c cuts served g gs on in
      kept-step g (trace_by kept gs) t (kept_flow I c known kept gs ts) stand from lawful skipped
      (λ st fr better. trace-flow I c known kept st (stand_after g.way) fr (t + duration_of I c g.ships) gs ts better later)
      (filter kept g.ships)
      (λ s held.
      let inside = kept-contains kept g.ships s held in
      early s (ship-wanted I c cuts served g own.0 own.1 s inside) (All-contains (λ s. kept s ≡ true) (filter kept g.ships) s (filter_passes kept g.ships) held)
      (All-contains (λ s. (ship_at I s).arrival ≤ t) g.ships s lawful.arrived inside))
      (All-filter kept (λ s. (ship_at I s).arrival ≤ t) g.ships lawful.arrived)
      (sum_by-filter (λ s. (ship_at I s).handling) kept g.ships)

  -- where all kept ships are ready
  kept-rest : (stand : Stand) (from : ℕ) (gs : List Group) (ts : List ℕ) → AreReady I cuts served kept c ready from → IsWayOn I c cuts served gs → AreLawfulFrom I c stand from gs ts
      → flow_of I (trace_by kept gs) (timetable_after I c ready (trace_by kept gs)) ≤ kept_flow I c known kept gs ts
  kept-rest stand from [] ts are on lawful = omega arith
  kept-rest stand from (g ∷ gs) [] are on lawful = absurd lawful
  kept-rest stand from (g ∷ gs) (t ∷ ts) are on lawful =
      let after : from ≤ t = lawful.0.later in
      let done : ℕ = t + duration_of I c g.ships in
      let still : AreReady I cuts served kept c ready done = record { by = λ way s at wanted is arrived late. are.by way s at wanted is arrived (omega arith) } in
      kept-group g gs t ts stand from on lawful.0 lawful.1 (λ s wanted is arrived. are.by g.way s t wanted is arrived after)
      (kept-rest (stand_after g.way) done gs ts still (way_on-tail I c cuts served g gs on) lawful.1)

  -- THE KEPT SHIPS OF A LINE BEHIND A LABEL have no more flow time in their own earliest timetable than in the line.
  pub kept-after : (whole : Way → ℕ) (gs : List Group) (ts : List ℕ) → AreSoon I cuts served kept c whole ready → IsWayOn I c cuts served gs → AreLawfulAfter I c whole gs ts
      → flow_of I (trace_by kept gs) (timetable_after I c ready (trace_by kept gs)) ≤ kept_flow I c known kept gs ts
  kept-after whole [] ts soon on lawful = omega arith
  kept-after whole (g ∷ gs) [] soon on lawful = absurd lawful
  kept-after whole (g ∷ gs) (t ∷ ts) soon on lawful =
      let after : whole g.way ≤ t = lawful.0.later in
      let done : ℕ = t + duration_of I c g.ships in
      let are : AreReady I cuts served kept c ready done = record { by = λ way s at wanted is arrived late. soon.behind g.way way s at wanted is arrived (omega arith) } in
      kept-group g gs t ts (stand_before g.way) (whole g.way) on lawful.0 lawful.1 (λ s wanted is arrived. omega (arith, soon.own g.way s wanted is, after))
      (kept-rest (stand_after g.way) done gs ts are (way_on-tail I c cuts served g gs on) lawful.1)
