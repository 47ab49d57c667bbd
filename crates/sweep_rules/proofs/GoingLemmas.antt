-- A label with a completion goes on by the first group of it.
use Rattle.std.proofs.Common.{◌≡◌, ◌≢◌, ℕ, suc, ◌+◌, ◌-◌, ◌<◌, ◌≤◌, max, ◌||◌, Bool, true, false, cond, List, [], ◌∷◌, length, All, sum_by, nat_eq, nat_lt, inl, inr, refl, sym, ap, ◌∙◌, subst, arith}
use Rattle.std.proofs.lemmas.Bool.{ne_eqb, eq-eqb, lt-ltb, le-ltb}
use Rattle.std.proofs.lemmas.Bool.Decides.{eqb_tells, leb_tells}
use Rattle.std.proofs.lemmas.List.Sums.{sum_by-le-sum_by}
use Rattle.std.proofs.lemmas.List.Elements.{All-tail}
use Rattle.lock_model.specs.Fleet.{ship_at, chamber_at}
use Rattle.lock_model.specs.declared.instance.Instance.{Instance}
use Rattle.lock_model.specs.declared.group.Group.{Group}
use Rattle.lock_model.specs.declared.way.Way.{Way}
use Rattle.lock_rules.specs.Lawful.{duration_of, stand_before, stand_after}
use Rattle.lock_rules.specs.Timetable.{ready_at}
use Rattle.lock_rules.specs.Plan.{times_in}
use Rattle.lock_rules.specs.Trace.{has_number}
use Rattle.lock_rules.specs.Arrival.{numbers_from}
use Rattle.lock_rules.specs.Node.{times_on}
use Rattle.lock_rules.proofs.LeafLemmas.{has_number-some}
use Rattle.lock_rules.proofs.SplitLemmas.{has_number-none}
use Rattle.lock_rules.proofs.LineLemmas.{sum_by-zero}
use Rattle.lock_rules.proofs.TimetableLemmas.{closures_kept, ready_at-mono, start_of-least}
use Rattle.price_rules.specs.Prices.{PlainCut, IsUncut}
use Rattle.sweep_rules.specs.Uncut.{times_over}
use Rattle.sweep_rules.specs.Label.{Label, IsWanted, IsReadyFrom, CanGoOn, IsGoneOn, start_on, end_on, gone_on}
use Rattle.sweep_rules.specs.Completion.{AreLawfulAfter, IsCompletion, EndsBelow, flow_starting, flow_completed}
use Rattle.sweep_rules.specs.Gain.{IsWayOn}
use Rattle.sweep_rules.proofs.OverLemmas.{sum-same, sum-but_one, missing-on, completion-on}
use Rattle.sweep_rules.proofs.SoonestLemmas.{IsSoonest, soonest-of}
use Rattle.sweep_rules.proofs.ReadyLemmas.{start-ready, lawful-after, lawful-others, way_on-head}

-- what is left of lines when the first group of chamber c is taken off
abbrev pub without_first : {X : Type 0} → (ℕ → List X) → ℕ → List X → ℕ → List X
without_first lines c rest d = cond (nat_eq d c) rest (lines d)

pub without-own : {X : Type 0} (lines : ℕ → List X) (c : ℕ) (rest : List X) (d : ℕ) → d ≡ c → without_first lines c rest d ≡ rest
without-own lines c rest d same = λ i. cond (eq-eqb d c same i) rest (lines d)

pub without-other : {X : Type 0} (lines : ℕ → List X) (c : ℕ) (rest : List X) (d : ℕ) → d ≢ c → without_first lines c rest d ≡ lines d
without-other lines c rest d other = λ i. cond (ne_eqb d c other i) rest (lines d)

-- a ship that is missing stays so, or is served by the group
once-left : (served next held : Bool) (all left own : ℕ) → all ≡ cond served 0 1 → all ≡ left + own → next ≡ (served || held) → (1 ≤ own → held ≡ true) → (own ≡ 0 → held ≡ false) → left ≡ cond next 0 1
once-left served next held all left own once split is some none = subst (λ b. left ≡ cond b 0 1) (sym is) (counted served held once some none)
  where
    differ : true ≡ false → ⊥
    differ e = cc

    counted : (served held : Bool) → all ≡ cond served 0 1 → (1 ≤ own → held ≡ true) → (own ≡ 0 → held ≡ false) → left ≡ cond (served || held) 0 1
    counted true held once some none = omega (arith, once, split)
    counted false true once some none =
        elim (leb_tells 1 own) [
          | inl here ↦ omega (arith, once, split, here.1)
          | inr missed ↦ absurd (differ (none (omega (arith, missed.1))))
        ]
    counted false false once some none =
        elim (leb_tells 1 own) [
          | inl here ↦ absurd (differ (sym (some here.1)))
          | inr missed ↦ omega (arith, once, split, missed.1)
        ]

module _ (I : Instance) (cuts : List PlainCut) (label next : Label) (lines : ℕ → List Group) (starts : ℕ → List ℕ) (completion : IsCompletion I cuts label lines starts)
    (f : IsSoonest lines starts (length I.chambers)) (gone : IsGoneOn I cuts label f.chamber f.group next) where
  abbrev left_lines : ℕ → List Group
  left_lines = without_first lines f.chamber f.others

  abbrev left_starts : ℕ → List ℕ
  left_starts = without_first starts f.chamber f.times

  -- what is lawful of the line that is first
  first-lawful : AreLawfulAfter I f.chamber (label.ready f.chamber) (f.group ∷ f.others) (f.start ∷ f.times)
  first-lawful =
      subst (λ gs. AreLawfulAfter I f.chamber (label.ready f.chamber) gs (f.start ∷ f.times)) f.line
      (subst (AreLawfulAfter I f.chamber (label.ready f.chamber) (lines f.chamber)) f.at (completion.lawful f.chamber f.below))

  first-on : IsWayOn I f.chamber cuts label.served (f.group ∷ f.others)
  first-on = subst (IsWayOn I f.chamber cuts label.served) f.line (completion-on I cuts label lines starts completion f.chamber f.below)

  -- the label goes on no later than the completion
  start-early : start_on I label f.chamber f.group ≤ f.start
  start-early =
      start_of-least I f.chamber f.below (stand_before f.group.way) (label.ready f.chamber f.group.way) (label.ready f.chamber f.group.way) f.group f.start (omega arith) first-lawful.0

  left-times : (s : ℕ) → times_over I s lines ≡ times_over I s left_lines + times_in f.group.ships s
  left-times s =
      sum-but_one (λ c. times_on s (lines c)) (λ c. times_on s (left_lines c)) (times_in f.group.ships s) 0 (length I.chambers) f.chamber (omega arith) (omega (arith, f.below))
      (let whole : times_on s (lines f.chamber) ≡ times_in f.group.ships s + times_on s f.others = ap (times_on s) f.line in
      let rest : times_on s (left_lines f.chamber) ≡ times_on s f.others = ap (times_on s) (without-own lines f.chamber f.others f.chamber refl) in
      omega (arith, whole, rest))
      (λ d other. ap (times_on s) (sym (without-other lines f.chamber f.others d other)))

  left-uncut : (c : ℕ) → c < length I.chambers → All (IsUncut I c cuts) (left_lines c)
  left-uncut c known =
      elim (eqb_tells c f.chamber) [
        | inl same ↦
            subst (All (IsUncut I c cuts)) (sym (without-own lines f.chamber f.others c same.1))
            (subst (λ c. All (IsUncut I c cuts) f.others) (sym same.1) (All-tail (IsUncut I f.chamber cuts) f.group f.others first-on.uncut))
        | inr other ↦ subst (All (IsUncut I c cuts)) (sym (without-other lines f.chamber f.others c other.1)) (completion.uncut c known)
      ]

  left-once : (s : ℕ) → s < length I.ships → times_over I s left_lines ≡ cond (next.served s) 0 1
  left-once s known =
      once-left (label.served s) (next.served s) (has_number f.group.ships s) (times_over I s lines) (times_over I s left_lines) (times_in f.group.ships s)
      (completion.once s known) (left-times s) (gone.served s known) (has_number-some f.group.ships s) (has_number-none f.group.ships s)

  left-on : (c : ℕ) → c < length I.chambers → IsWayOn I c cuts next.served (left_lines c)
  left-on = missing-on I cuts next.served left_lines left-uncut left-once

  -- the rest of the first line is lawful behind the label that has gone on
  left-own : AreLawfulAfter I f.chamber (next.ready f.chamber) f.others f.times
  left-own =
      let c = f.chamber in
      let end = end_on I label c f.group in
      let done : ℕ = f.start + duration_of I c f.group.ships in
      let early : end ≤ done = omega (arith, start-early) in
      lawful-after I cuts next.served c (stand_after f.group.way) done (next.ready c)
      (λ way s wanted. omega (arith, (gone.own way).before s wanted, ready_at-mono (chamber_at I c) (stand_after f.group.way) end done way (closures_kept I c f.below) early))
      f.others f.times (subst (IsWayOn I c cuts next.served) (without-own lines c f.others c refl) (left-on c f.below)) first-lawful.1

  -- and so are the other lines
  left-other : (d : ℕ) → d < length I.chambers → d ≢ f.chamber → AreLawfulAfter I d (next.ready d) (lines d) (starts d)
  left-other d known other =
      lawful-others I d (label.ready d) (next.ready d) (lines d) (starts d) (λ g rest t times line at first.
      let own = way_on-head I d cuts next.served g rest (subst (IsWayOn I d cuts next.served) (without-other lines f.chamber f.others d other ∙ line) (left-on d known)) in
      let later : label.ready d g.way ≤ t = first.later in
      let order = f.first d known g rest t times line at in
      elim (leb_tells (suc d) f.chamber) [
        | inl before ↦
            (let less : f.start < t = order.1 before.1 in
            start-ready I cuts next.served d (max (label.ready d g.way) (start_on I label f.chamber f.group + 1)) (next.ready d g.way) t g
            (gone.sooner d before.1 g.way).before own.0 own.1 (omega (arith, later, less, start-early)) first.arrived)
        | inr behind ↦
            (let above : f.chamber < d = apart d f.chamber other behind.1 in
            let less : f.start ≤ t = order.0 above in
            start-ready I cuts next.served d (max (label.ready d g.way) (start_on I label f.chamber f.group)) (next.ready d g.way) t g
            (gone.later d above known g.way).before own.0 own.1 (omega (arith, later, less, start-early)) first.arrived)
      ]) (completion.lawful d known)
    where
      apart : (d c : ℕ) → d ≢ c → c < suc d → c < d
      apart d c other less = elim (leb_tells (suc c) d) [ inl y ↦ y.1 | inr m ↦ absurd (other (omega (arith, m.1))) ]

  left-lawful : (c : ℕ) → c < length I.chambers → AreLawfulAfter I c (next.ready c) (left_lines c) (left_starts c)
  left-lawful c known =
      elim (eqb_tells c f.chamber) [
        | inl same ↦
            subst (λ gs. AreLawfulAfter I c (next.ready c) gs (left_starts c)) (sym (without-own lines f.chamber f.others c same.1))
            (subst (AreLawfulAfter I c (next.ready c) f.others) (sym (without-own starts f.chamber f.times c same.1))
            (subst (λ c. AreLawfulAfter I c (next.ready c) f.others f.times) (sym same.1) left-own))
        | inr other ↦
            subst (λ gs. AreLawfulAfter I c (next.ready c) gs (left_starts c)) (sym (without-other lines f.chamber f.others c other.1))
            (subst (AreLawfulAfter I c (next.ready c) (lines c)) (sym (without-other starts f.chamber f.times c other.1)) (left-other c known other.1))
      ]

  left-completion : IsCompletion I cuts next left_lines left_starts
  left-completion = record { uncut = left-uncut; lawful = left-lawful; once = left-once }

  left-flow : next.flow + flow_completed I left_lines left_starts ≤ label.flow + flow_completed I lines starts
  left-flow =
      let c = f.chamber in
      let done : ℕ = f.start + duration_of I c f.group.ships in
      let own : ℕ = sum_by (λ s. done - (ship_at I s).arrival) f.group.ships in
      let whole : flow_starting I c (lines c) (starts c) ≡ own + flow_starting I c f.others f.times =
      (λ i. flow_starting I c (f.line i) (starts c)) ∙ (λ i. flow_starting I c (f.group ∷ f.others) (f.at i)) in
      let rest : flow_starting I c (left_lines c) (left_starts c) ≡ flow_starting I c f.others f.times =
      λ i. flow_starting I c (without-own lines c f.others c refl i) (without-own starts c f.times c refl i) in
      let split = sum-but_one (λ d. flow_starting I d (lines d) (starts d)) (λ d. flow_starting I d (left_lines d) (left_starts d)) own 0 (length I.chambers) c (omega arith) (omega (arith, f.below)) (omega (arith, whole, rest))
      (λ d other. λ i. flow_starting I d (sym (without-other lines c f.others d other) i) (sym (without-other starts c f.times d other) i)) in
      let less = sum_by-le-sum_by (λ s. end_on I label c f.group - (ship_at I s).arrival) (λ s. done - (ship_at I s).arrival) f.group.ships (λ s. omega (arith, start-early)) in
      omega (arith, split, less, gone.flow)

-- lines that are all empty hold no ship
none-over : (I : Instance) (lines : ℕ → List Group) (s : ℕ) → ((d : ℕ) → d < length I.chambers → lines d ≡ []) → times_over I s lines ≡ 0
none-over I lines s none =
    sum-same (λ c. times_on s (lines c)) (λ c. 0) 0 (length I.chambers) (λ c low less. ap (times_on s) (none c (omega arith))) ∙ sum_by-zero (numbers_from 0 (length I.chambers))

-- a chamber and a group by which the label can go on, to labels that have a completion of a total below the goal
pub record GoesBelow (I : Instance) (cuts : List PlainCut) (goal : ℕ) (label : Label) : Type 0 where
  pub chamber : ℕ
  pub group : Group
  pub can : CanGoOn I cuts label chamber group
  pub ends : (next : Label) → IsGoneOn I cuts label chamber group next → EndsBelow I cuts goal next

module _ (I : Instance) (cuts : List PlainCut) (goal : ℕ) (label : Label) (lines : ℕ → List Group) (starts : ℕ → List ℕ) (completion : IsCompletion I cuts label lines starts) (f : IsSoonest lines starts (length I.chambers)) where
  -- the label may go on by the first group of a completion,
  pub soonest-can : CanGoOn I cuts label f.chamber f.group
  soonest-can =
      let own = way_on-head I f.chamber cuts label.served f.group f.others (subst (IsWayOn I f.chamber cuts label.served) f.line (completion-on I cuts label lines starts completion f.chamber f.below)) in
      record { chamber = f.below; uncut = own.0; missing = own.1 }

  -- whose ships have arrived by then,
  pub soonest-arrived : All (λ s. (ship_at I s).arrival ≤ f.start) f.group.ships
  soonest-arrived =
      let lawful : AreLawfulAfter I f.chamber (label.ready f.chamber) (f.group ∷ f.others) (f.start ∷ f.times) =
      subst (λ gs. AreLawfulAfter I f.chamber (label.ready f.chamber) gs (f.start ∷ f.times)) f.line
      (subst (AreLawfulAfter I f.chamber (label.ready f.chamber) (lines f.chamber)) f.at (completion.lawful f.chamber f.below)) in
      lawful.0.arrived

  -- to labels that have a completion of no greater total
  pub soonest-ends : label.flow + flow_completed I lines starts < goal → (next : Label) → IsGoneOn I cuts label f.chamber f.group next → EndsBelow I cuts goal next
  soonest-ends below next gone = record {
    lines = without_first lines f.chamber f.others;
    starts = without_first starts f.chamber f.times;
    is = left-completion I cuts label next lines starts completion f gone;
    below = omega (arith, left-flow I cuts label next lines starts completion f gone, below);
  }

-- where a ship is missing some line of a completion starts first
pub soonest-some : (I : Instance) (cuts : List PlainCut) (label : Label) (lines : ℕ → List Group) (starts : ℕ → List ℕ) → IsCompletion I cuts label lines starts
    → (s : ℕ) → s < length I.ships → label.served s ≡ false → IsSoonest lines starts (length I.chambers)
soonest-some I cuts label lines starts completion s known missing =
    elim (soonest-of lines starts I label.ready (length I.chambers) completion.lawful) [
      | inl none ↦ absurd (none-both (times_over I s lines) (label.served s) (none-over I lines s none) (completion.once s known) missing)
      | inr f ↦ f
    ]
  where
    differ : true ≡ false → ⊥
    differ e = cc

    none-both : (n : ℕ) (b : Bool) → n ≡ 0 → n ≡ cond b 0 1 → b ≡ false → ⊥
    none-both n true empty once is = absurd (differ is)
    none-both n false empty once is = absurd (omega (arith, empty, once))

-- A LABEL GOES ON BY THE FIRST GROUP OF A COMPLETION, by start and chamber, to labels that have one of no greater total.
pub label-goes : (I : Instance) (cuts : List PlainCut) (goal : ℕ) (label : Label) → EndsBelow I cuts goal label → (s : ℕ) → s < length I.ships → label.served s ≡ false → GoesBelow I cuts goal label
label-goes I cuts goal label ends s known missing =
    let f = soonest-some I cuts label ends.lines ends.starts ends.is s known missing in
    record {
      chamber = f.chamber;
      group = f.group;
      can = soonest-can I cuts goal label ends.lines ends.starts ends.is f;
      ends = soonest-ends I cuts goal label ends.lines ends.starts ends.is f ends.below;
    }

-- EACH LABEL GOES ON to one at least.
pub gone_on-is : (I : Instance) (cuts : List PlainCut) (label : Label) (c : ℕ) (g : Group) → IsGoneOn I cuts label c g (gone_on I label c g)
gone_on-is I cuts label c g =
    let start = start_on I label c g in
    let own : Way → ℕ = λ way. ready_at (chamber_at I c) (stand_after g.way) (end_on I label c g) way in
    let later : ℕ → Way → ℕ = λ d way. max (label.ready d way) start in
    let sooner : ℕ → Way → ℕ = λ d way. max (label.ready d way) (start + 1) in
    record {
      served = λ s known. refl;
      own = λ way. raised-not (gone_on I label c g).served c way (own way) ((gone_on I label c g).ready c way) (λ i. cond (eq-eqb c c refl i) (own way) (cond (nat_lt c c) (later c way) (sooner c way)));
      later = λ d above known way. raised-not (gone_on I label c g).served d way (later d way) ((gone_on I label c g).ready d way)
          ((λ i. cond (ne_eqb d c (λ e. absurd (omega (arith, e, above))) i) (own way) (cond (nat_lt c d) (later d way) (sooner d way))) ∙ (λ i. cond (lt-ltb c d above i) (later d way) (sooner d way)));
      sooner = λ d below way. raised-not (gone_on I label c g).served d way (sooner d way) ((gone_on I label c g).ready d way)
          ((λ i. cond (ne_eqb d c (λ e. absurd (omega (arith, e, below))) i) (own way) (cond (nat_lt c d) (later d way) (sooner d way))) ∙ (λ i. cond (le-ltb c d (omega (arith, below)) i) (later d way) (sooner d way)));
      flow = refl;
    }
  where
    raised-not : (served : ℕ → Bool) (d : ℕ) (way : Way) (low at : ℕ) → at ≡ low → IsReadyFrom I cuts served d way low at
    raised-not served d way low at same = record { after = λ s wanted. omega (arith, same); before = λ s wanted. omega (arith, same) }

module _ (I : Instance) (cuts : List PlainCut) (label next : Label) (c : ℕ) (g : Group) (gone : IsGoneOn I cuts label c g next) where
  -- a ship that is missing behind the group was so before
  pub still-missing : (s : ℕ) → s < length I.ships → next.served s ≡ false → label.served s ≡ false
  still-missing s known out = left (label.served s) (has_number g.ships s) (sym (gone.served s known) ∙ out)
    where
      left : (a b : Bool) → (a || b) ≡ false → a ≡ false
      left true b e = e
      left false b e = refl

  pub still-wanted : (d : ℕ) (way : Way) (s : ℕ) → IsWanted I cuts next.served d way s → IsWanted I cuts label.served d way s
  still-wanted d way s wanted = record { known = wanted.known; missing = still-missing s wanted.known wanted.missing; same = wanted.same; alone = wanted.alone }

  -- no minute of another chamber is sooner behind the group
  pub others-later : (d : ℕ) → d < length I.chambers → d ≢ c → (way : Way) (s : ℕ) → IsWanted I cuts next.served d way s → label.ready d way ≤ next.ready d way
  others-later d known other way s wanted =
      elim (leb_tells (suc d) c) [
        | inl before ↦ omega (arith, (gone.sooner d before.1 way).after s wanted)
        | inr behind ↦ omega (arith, (gone.later d (above d c other behind.1) known way).after s wanted)
      ]
    where
      above : (d c : ℕ) → d ≢ c → c < suc d → c < d
      above d c other less = elim (leb_tells (suc c) d) [ inl y ↦ y.1 | inr m ↦ absurd (other (omega (arith, m.1))) ]
