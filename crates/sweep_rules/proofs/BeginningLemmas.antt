-- A label that serves all ships is an uncut plan.
use Rattle.std.proofs.Common.{◌≡◌, ◌≢◌, ℕ, ◌+◌, ◌-◌, ◌<◌, ◌≤◌, ◌||◌, Bool, true, false, cond, List, [], ◌∷◌, ◌++◌, length, All, sum_by, nat_eq, inl, inr, refl, sym, ap, ◌∙◌, subst, arith}
use Rattle.std.proofs.lemmas.Bool.{ne_eqb, eq-eqb}
use Rattle.std.proofs.lemmas.Bool.Decides.{eqb_tells, leb_tells}
use Rattle.std.proofs.lemmas.List.Sums.{sum_by-le-sum_by}
use Rattle.std.proofs.lemmas.List.Elements.{All-nil, All-push}
use Rattle.lock_model.specs.Fleet.{ship_at, chamber_at}
use Rattle.lock_model.specs.declared.instance.Instance.{Instance}
use Rattle.lock_model.specs.declared.group.Group.{Group}
use Rattle.lock_model.specs.declared.way.Way.{Way}
use Rattle.lock_model.specs.declared.way.Stand.{Stand}
use Rattle.lock_rules.specs.Lawful.{duration_of, stand_before, stand_after}
use Rattle.lock_rules.specs.Timetable.{ready_at, start_of, timetable_from}
use Rattle.lock_rules.specs.Plan.{times_in}
use Rattle.lock_rules.specs.Trace.{has_number}
use Rattle.lock_rules.specs.Arrival.{numbers_from}
use Rattle.lock_rules.specs.Node.{times_on}
use Rattle.lock_rules.specs.Bound.{flow_of, line_flow}
use Rattle.lock_rules.proofs.LeafLemmas.{has_number-some}
use Rattle.lock_rules.proofs.LineLemmas.{sum_by-zero}
use Rattle.lock_rules.proofs.SplitLemmas.{All-times, has_number-none, RisesFrom-increasing}
use Rattle.lock_rules.proofs.TimetableLemmas.{closures_kept, ready_at-mono, start_of-lawful}
use Rattle.price_rules.specs.Prices.{PlainCut, IsUncut, flow_over}
use Rattle.sweep_rules.specs.Uncut.{times_over, IsUncutPlan, IsSwept}
use Rattle.sweep_rules.specs.Label.{Label, IsWanted, IsFirstLabel, CanGoOn, IsGoneOn, start_on, end_on}
use Rattle.sweep_rules.specs.Beginning.{stand_behind, done_behind, ready_behind, LeadTo}
use Rattle.sweep_rules.proofs.FlowLemmas.{start-least}
use Rattle.sweep_rules.proofs.GoingLemmas.{still-wanted, others-later}
use Rattle.sweep_rules.proofs.OverLemmas.{sum-but_one, rising-once}
use Rattle.sweep_rules.proofs.ReadyLemmas.{uncut-ship, ship-wanted}

-- what a group at a line's end makes of it
pub times_on-push : (s : ℕ) (gs : List Group) (g : Group) → times_on s (gs ++ g ∷ []) ≡ times_on s gs + times_in g.ships s
times_on-push s [] g = omega arith
times_on-push s (h ∷ gs) g = omega (arith, times_on-push s gs g)

pub stand-push : (stand : Stand) (gs : List Group) (g : Group) → stand_behind stand (gs ++ g ∷ []) ≡ stand_after g.way
stand-push stand [] g = refl
stand-push stand (h ∷ gs) g = stand-push (stand_after h.way) gs g

module _ (I : Instance) (c : ℕ) where
  -- the earliest end of a group behind a line
  abbrev pub end_behind : Stand → ℕ → List Group → Group → ℕ
  end_behind stand from gs g = start_of I c (stand_behind stand gs) (done_behind I c stand from gs) g + duration_of I c g.ships

  pub done-push : (stand : Stand) (from : ℕ) (gs : List Group) (g : Group) → done_behind I c stand from (gs ++ g ∷ []) ≡ end_behind stand from gs g
  done-push stand from [] g = refl
  done-push stand from (h ∷ gs) g = done-push (stand_after h.way) (start_of I c stand from h + duration_of I c h.ships) gs g

  pub flow-push : (stand : Stand) (from : ℕ) (gs : List Group) (g : Group)
      → flow_of I (gs ++ g ∷ []) (timetable_from I c stand from (gs ++ g ∷ [])) ≡ flow_of I gs (timetable_from I c stand from gs) + sum_by (λ s. end_behind stand from gs g - (ship_at I s).arrival) g.ships
  flow-push stand from [] g = omega arith
  flow-push stand from (h ∷ gs) g =
      let rest = flow-push (stand_after h.way) (start_of I c stand from h + duration_of I c h.ships) gs g in
      omega (arith, rest)

-- the lines with a group more at the end of chamber c's
abbrev pub with_last : (ℕ → List Group) → ℕ → Group → ℕ → List Group
with_last lines c g d = cond (nat_eq d c) (lines c ++ g ∷ []) (lines d)

pub with_last-own : (lines : ℕ → List Group) (c : ℕ) (g : Group) (d : ℕ) → d ≡ c → with_last lines c g d ≡ lines c ++ g ∷ []
with_last-own lines c g d same = λ i. cond (eq-eqb d c same i) (lines c ++ g ∷ []) (lines d)

pub with_last-other : (lines : ℕ → List Group) (c : ℕ) (g : Group) (d : ℕ) → d ≢ c → with_last lines c g d ≡ lines d
with_last-other lines c g d other = λ i. cond (ne_eqb d c other i) (lines c ++ g ∷ []) (lines d)

abbrev pub no_lines : ℕ → List Group
no_lines c = []

module _ (I : Instance) (cuts : List PlainCut) where
  -- EMPTY LINES LEAD to a first label,
  pub lead-first : (label : Label) → IsFirstLabel I cuts label → LeadTo I cuts label no_lines
  lead-first label first = record {
    uncut = λ c known. All-nil (IsUncut I c cuts);
    once = λ s known. none (times_over I s no_lines) (label.served s) (sum_by-zero (numbers_from 0 (length I.chambers))) (first.served s known);
    ready = λ c known way s wanted. (first.ready c known way).after s wanted;
    flow = omega (arith, sum_by-zero (numbers_from 0 (length I.chambers)));
  }
    where
      differ : true ≡ false → ⊥
      differ e = cc

      none : (n : ℕ) (b : Bool) → n ≡ 0 → b ≡ false → n ≡ cond b 1 0
      none n true empty out = absurd (differ out)
      none n false empty out = empty

  module _ (label next : Label) (c : ℕ) (g : Group) (can : CanGoOn I cuts label c g) (gone : IsGoneOn I cuts label c g next) (lines : ℕ → List Group) (lead : LeadTo I cuts label lines) where
    abbrev longer : ℕ → List Group
    longer = with_last lines c g

    abbrev start_here : ℕ
    start_here = start_of I c (stand_behind (chamber_at I c).stands (lines c)) (done_behind I c (chamber_at I c).stands (chamber_at I c).opens (lines c)) g

    -- behind the lines the group starts no later than behind the label
    start-no_later : start_here ≤ start_on I label c g
    start-no_later =
        let one = uncut-ship I c cuts g can.uncut in
        let lawful = start_of-lawful I c can.chamber (stand_before g.way) (label.ready c g.way) g in
        let ready : ready_behind I c (lines c) g.way ≤ label.ready c g.way = lead.ready c can.chamber g.way one.ship (ship-wanted I c cuts label.served g can.uncut can.missing one.ship one.held) in
        start-least I c can.chamber (stand_behind (chamber_at I c).stands (lines c)) (done_behind I c (chamber_at I c).stands (chamber_at I c).opens (lines c)) g (start_on I label c g)
        (omega (arith, ready, lawful.later)) lawful.arrived lawful.free

    longer-uncut : (d : ℕ) → d < length I.chambers → All (IsUncut I d cuts) (longer d)
    longer-uncut d known =
        elim (eqb_tells d c) [
          | inl same ↦
              subst (All (IsUncut I d cuts)) (sym (with_last-own lines c g d same.1))
              (subst (λ d. All (IsUncut I d cuts) (lines c ++ g ∷ [])) (sym same.1) (All-push (IsUncut I c cuts) (lines c) g (lead.uncut c can.chamber) can.uncut))
          | inr other ↦ subst (All (IsUncut I d cuts)) (sym (with_last-other lines c g d other.1)) (lead.uncut d known)
        ]

    longer-times : (s : ℕ) → times_over I s longer ≡ times_over I s lines + times_in g.ships s
    longer-times s =
        sum-but_one (λ d. times_on s (longer d)) (λ d. times_on s (lines d)) (times_in g.ships s) 0 (length I.chambers) c (omega arith) (omega (arith, can.chamber))
        (ap (times_on s) (with_last-own lines c g c refl) ∙ times_on-push s (lines c) g)
        (λ d other. ap (times_on s) (with_last-other lines c g d other))

    longer-once : (s : ℕ) → s < length I.ships → times_over I s longer ≡ cond (next.served s) 1 0
    longer-once s known =
        longer-times s
        ∙ subst (λ b. times_over I s lines + times_in g.ships s ≡ cond b 1 0) (sym (gone.served s known))
        (counted (label.served s) (has_number g.ships s) (times_over I s lines) (times_in g.ships s) (lead.once s known)
        (λ some. All-times (λ s. label.served s ≡ false) s g.ships can.missing some)
        (has_number-some g.ships s) (has_number-none g.ships s)
        (rising-once 0 g.ships (RisesFrom-increasing g.ships can.uncut.good.rising) s))
      where
        differ : true ≡ false → ⊥
        differ e = cc

        counted : (served held : Bool) (all own : ℕ) → all ≡ cond served 1 0 → (1 ≤ own → served ≡ false) → (1 ≤ own → held ≡ true) → (own ≡ 0 → held ≡ false) → own ≤ 1 → all + own ≡ cond (served || held) 1 0
        counted true held all own once out some none most =
            elim (leb_tells 1 own) [
              | inl here ↦ absurd (differ (out here.1))
              | inr missed ↦ omega (arith, once, missed.1)
            ]
        counted false true all own once out some none most =
            elim (leb_tells 1 own) [
              | inl here ↦ omega (arith, once, here.1, most)
              | inr missed ↦ absurd (differ (none (omega (arith, missed.1))))
            ]
        counted false false all own once out some none most =
            elim (leb_tells 1 own) [
              | inl here ↦ absurd (differ (sym (some here.1)))
              | inr missed ↦ omega (arith, once, missed.1)
            ]

    own-ready : (way : Way) (s : ℕ) → IsWanted I cuts next.served c way s → ready_behind I c (longer c) way ≤ next.ready c way
    own-ready way s wanted =
        let stand = (chamber_at I c).stands in
        let opens = (chamber_at I c).opens in
        let end : ℕ = start_here + duration_of I c g.ships in
        let here : ready_behind I c (longer c) way ≡ ready_at (chamber_at I c) (stand_after g.way) end way =
        (λ i. ready_behind I c (with_last-own lines c g c refl i) way) ∙ (λ i. ready_at (chamber_at I c) (stand-push stand (lines c) g i) (done-push I c stand opens (lines c) g i) way) in
        let less = ready_at-mono (chamber_at I c) (stand_after g.way) end (end_on I label c g) way (closures_kept I c can.chamber) (omega (arith, start-no_later)) in
        omega (arith, here, less, (gone.own way).after s wanted)

    other-ready : (d : ℕ) → d < length I.chambers → d ≢ c → (way : Way) (s : ℕ) → IsWanted I cuts next.served d way s → ready_behind I d (longer d) way ≤ next.ready d way
    other-ready d known other way s wanted =
        let here : ready_behind I d (longer d) way ≡ ready_behind I d (lines d) way = λ i. ready_behind I d (with_last-other lines c g d other i) way in
        let before = lead.ready d known way s (still-wanted I cuts label next c g gone d way s wanted) in
        let later = others-later I cuts label next c g gone d known other way s wanted in
        omega (arith, here, before, later)

    longer-flow : flow_over I longer ≤ next.flow
    longer-flow =
        let stand = (chamber_at I c).stands in
        let opens = (chamber_at I c).opens in
        let end : ℕ = start_here + duration_of I c g.ships in
        let own : ℕ = sum_by (λ s. end - (ship_at I s).arrival) g.ships in
        let here : line_flow I c (longer c) ≡ line_flow I c (lines c) + own = (λ i. line_flow I c (with_last-own lines c g c refl i)) ∙ flow-push I c stand opens (lines c) g in
        let all = sum-but_one (λ d. line_flow I d (longer d)) (λ d. line_flow I d (lines d)) own 0 (length I.chambers) c (omega arith) (omega (arith, can.chamber)) here (λ d other. λ i. line_flow I d (with_last-other lines c g d other i)) in
        let less = sum_by-le-sum_by (λ s. end - (ship_at I s).arrival) (λ s. end_on I label c g - (ship_at I s).arrival) g.ships (λ s. omega (arith, start-no_later)) in
        omega (arith, all, less, lead.flow, gone.flow)

    -- LONGER LINES LEAD to a label that has gone on,
    pub lead-gone : LeadTo I cuts next longer
    lead-gone = record {
      uncut = longer-uncut;
      once = longer-once;
      ready = λ d known way s wanted. elim (eqb_tells d c) [
        | inl same ↦
            subst (λ d. ready_behind I d (longer d) way ≤ next.ready d way) (sym same.1) (own-ready way s (subst (λ d. IsWanted I cuts next.served d way s) same.1 wanted))
        | inr other ↦ other-ready d known other.1 way s wanted
      ];
      flow = longer-flow;
    }

  -- AND THOSE THAT LEAD TO A LABEL OF ALL SHIPS are an uncut plan, which costs no more than its flow time.
  pub lead-whole : (label : Label) → ((s : ℕ) → s < length I.ships → label.served s ≡ true) → (lines : ℕ → List Group) → LeadTo I cuts label lines → IsUncutPlan I cuts lines
  lead-whole label whole lines lead = record {
    uncut = lead.uncut;
    once = λ s known. lead.once s known ∙ ap {B = ℕ} (λ b. cond b 1 0) (whole s known);
  }

  -- so a label of all ships with less flow time than a cost shows that it isn't swept
  pub lead-cheaper : (label : Label) → ((s : ℕ) → s < length I.ships → label.served s ≡ true) → (lines : ℕ → List Group) → LeadTo I cuts label lines → (cost : ℕ) → label.flow < cost → IsSwept I cuts cost → ⊥
  lead-cheaper label whole lines lead cost low swept = absurd (omega (arith, low, lead.flow, swept.least lines (lead-whole label whole lines lead)))

  -- and where its flow time is swept, they are a cheapest uncut plan
  pub lead-least : (label : Label) → ((s : ℕ) → s < length I.ships → label.served s ≡ true) → (lines : ℕ → List Group) → LeadTo I cuts label lines → IsSwept I cuts label.flow → flow_over I lines ≡ label.flow
  lead-least label whole lines lead swept = omega (arith, lead.flow, swept.least lines (lead-whole label whole lines lead))
