-- A label goes on: each group by which it may leads to a label that is met.
use Rattle.std.proofs.Common.{◌≡◌, ℕ, ℤ, pos, ◌+ℤ◌, ◌≤ℤ◌, ◌+◌, ◌*◌, ◌<◌, true, false, inl, inr, None, List, length, sum_by, refl, sym, ap, ◌∙◌, subst, arith, slice_index_or}
use Rattle.std.proofs.lemmas.List.{get_or_append_left}
use Rattle.lock_model.specs.declared.group.Group.{Group}
use Rattle.lock_model.specs.declared.way.Way.{Way}
use Rattle.lock_rules.specs.Arrival.{numbers_from}
use Rattle.sweep_rules.specs.Uncut.{IsSwept}
use Rattle.sweep_rules.specs.Label.{Label, IsFirstLabel, CanGoOn, IsGoneOn, gone_on}
use Rattle.sweep_rules.specs.Completion.{EndsBelow}
use Rattle.sweep_rules.specs.Gain.{IsGain, prices_missing, triples_missing}
use Rattle.sweep_rules.specs.Treated.{IsTreated, label_at}
use Rattle.sweep_rules.proofs.GainLemmas.{above-none, missing-paid}
use Rattle.sweep_rules.proofs.GoingLemmas.{gone_on-is}
use Rattle.sweep_rules.proofs.TreatedLemmas.{met-dropped, treated-dropped, treated-gone, treated-swept}
use Rattle.sweep_split.proofs.LateLemmas.{treated-none}
use Rattle.sweep_labels.specs.declared.label.Label.{Label as CodeLabel}
use Rattle.sweep_labels.specs.declared.label.KeptLabel.{KeptLabel}
use Rattle.sweep_labels.specs.declared.made.Made.{Made}
use Rattle.sweep_labels.specs.declared.step.Arc.{Arc}
use Rattle.sweep_labels.specs.declared.step.Step.{Step}
use Rattle.sweep_labels.specs.Putting.{open_at}
use Rattle.sweep_labels.specs.Labels.{ready_by, times_at, label_of}
use Rattle.sweep_labels.specs.Steps.{IsStepBy}
use Rattle.sweep_labels.specs.Sweeping.{labels_of}
use Rattle.sweep_labels.specs.Arcs.{IsArcBy, AreArcs, IsBeyond, IsLowWorth, gains_with}
use Rattle.sweep_labels.proofs.ArcLemmas.{own-gain, other-gain, arc-beyond}
use Rattle.sweep_labels.proofs.SweepingLemmas.{label-at, labels-length}
use Rattle.sweep.specs.declared.sweep_case.SweepCase.{SweepCase}
use Rattle.sweep.specs.declared.origin.Missing.{Missing}
use Rattle.sweep.specs.declared.origin.Origin.{Origin}
use Rattle.sweep.specs.declared.sweeper.Sweeper.{Sweeper}
use Rattle.sweep.specs.Bounds.{cuts_of, gain_in, AreGains, IsBoundAbove, IsMissing, IsOrigin, IsRoom}
use Rattle.sweep.specs.Going.{IsGrown, IsFurther, IsMetBy, IsDone, IsLedOn, IsArcOn, IsArcLed, AreArcsLed, IsWayLed, AreLed}
use Rattle.sweep.proofs.GrownLemmas.{met_on, led_on}

module _ (case : SweepCase) where
  -- the arc is a step by its group
  pub step_by : (from : CodeLabel) (step : Step) (g : Group) → IsArcOn case from step.chamber step.way step.arc g → IsStepBy case.instance.now (label_of from) g step
  step_by from step g on =
      let own : IsArcBy case.instance.now case.prices.now step.chamber (ready_by (times_at from.ready step.chamber) g.way) g step.arc =
      subst (λ way. IsArcBy case.instance.now case.prices.now step.chamber (ready_by (times_at from.ready step.chamber) way) g step.arc) (sym on.same) on.is in
      record { way = sym on.same; ships = own.ships; start = own.start; end = own.end; flow = own.flow }

  -- no label has a completion below the goal whose bound is above it
  pub bound_none : (label : CodeLabel) (missing : Missing) (gains : List ℕ) (goal : ℕ) → IsMissing case (label_of label).served missing → AreGains case (label_of label) gains
      → IsBoundAbove case label missing gains goal → EndsBelow case.instance.now (cuts_of case) goal (label_of label) → ⊥
  bound_none label missing gains goal is are above =
      above-none case.instance.now (cuts_of case) (label_of label) case.prices.now (gain_in gains) are.each goal (record { high = omega (arith, above.high, is.ships, is.triples) })

  -- a step to a label that is dropped by its bound,
  pub arc_dropped : (made : Made) (from : Origin) (step : Step) (next : CodeLabel) (missing : Missing) (gains : List ℕ) → IsOrigin case from
      → ((g : Group) → IsStepBy case.instance.now (label_of from.label) g step → IsGoneOn case.instance.now (cuts_of case) (label_of from.label) step.chamber g (label_of next))
      → missing.ships + step.arc.prices ≡ from.missing.ships → missing.triples ≡ triples_missing case.instance.now case.prices.now (label_of next).served → AreGains case (label_of next) gains → IsBoundAbove case next missing gains made.goal
      → IsArcLed case made from.label step.chamber step.way step.arc
  arc_dropped made from step next missing gains origin gone paid triples are above = record {
    each = λ g on.
        let goes = gone g (step_by from.label step g on) in
        let whole = missing-paid case.instance.now (cuts_of case) (label_of from.label) (label_of next) step.chamber g on.can goes case.prices.now in
        let is : IsMissing case (label_of next).served missing = record { ships = omega (arith, whole, paid, origin.missing.ships, on.is.pays); triples = triples } in
        record {
          next = label_of next;
          gone = goes;
          met = met-dropped case.instance.now (cuts_of case) made.goal (labels_of made.labels.items.items) (label_of next) (bound_none next missing gains made.goal is are above);
        };
  }

  -- by the soonest costs of its missing ships,
  pub arc_late : (made : Made) (from : CodeLabel) (step : Step) (next : CodeLabel)
      → ((g : Group) → IsStepBy case.instance.now (label_of from) g step → IsGoneOn case.instance.now (cuts_of case) (label_of from) step.chamber g (label_of next))
      → (EndsBelow case.instance.now (cuts_of case) made.goal (label_of next) → ⊥) → IsArcLed case made from step.chamber step.way step.arc
  arc_late made from step next gone none = record {
    each = λ g on. record {
      next = label_of next;
      gone = gone g (step_by from step g on);
      met = met-dropped case.instance.now (cuts_of case) made.goal (labels_of made.labels.items.items) (label_of next) none;
    };
  }

  -- and to one that is kept
  pub arc_kept : (made : Made) (from : CodeLabel) (step : Step) (next : CodeLabel)
      → ((g : Group) → IsStepBy case.instance.now (label_of from) g step → IsGoneOn case.instance.now (cuts_of case) (label_of from) step.chamber g (label_of next))
      → IsMetBy case made (label_of next) → IsArcLed case made from step.chamber step.way step.arc
  arc_kept made from step next gone met = record { each = λ g on. record { next = label_of next; gone = gone g (step_by from step g on); met = met } }

  -- WHERE THE ARCS ARE LED each group of the way is: those that have none are worth more than the room.
  pub way_led : (old new : Made) (from : Origin) (c : ℕ) (way : Way) (room : ℤ) (arcs : List Arc) → IsGrown old new → IsOrigin case from → IsRoom case from c old.goal room
      → AreArcs case.instance.now (cuts_of case) case.prices.now c way (ready_by (times_at from.label.ready c) way) from.label.served.bits room arcs
      → AreArcsLed case new from.label c way (length arcs) arcs → IsWayLed case new (label_of from.label) c way
  way_led old new from c way room arcs grown origin is are led = record {
    each = λ g can same. elim (are.whole g can.uncut same can.missing) [
      | inl has ↦ (led.each has.place has.within).each g (record { can = can; same = same; is = has.is })
      | inr beyond ↦ led_on case old new (label_of from.label) c g grown (far g can same beyond)
    ];
  }
    where
      far : (g : Group) → CanGoOn case.instance.now (cuts_of case) (label_of from.label) c g → g.way ≡ way
          → IsBeyond case.instance.now (cuts_of case) case.prices.now c (ready_by (times_at from.label.ready c) way) room g → IsLedOn case old (label_of from.label) c g
      far g can same beyond =
          let label = label_of from.label in
          let next = gone_on case.instance.now label c g in
          let goes = gone_on-is case.instance.now (cuts_of case) label c g in
          let beside = sum_by (gains_with (gain_in from.gains) c 0) (numbers_from 0 (length case.instance.now.chambers)) in
          let low : IsLowWorth case.instance.now (cuts_of case) case.prices.now c (label.ready c g.way) g beyond.worth =
          subst (λ way. IsLowWorth case.instance.now (cuts_of case) case.prices.now c (label.ready c way) g beyond.worth) (sym same) beyond.low in
          record {
            next = next;
            gone = goes;
            met = met-dropped case.instance.now (cuts_of case) old.goal (labels_of old.labels.items.items) next
                (arc-beyond case.instance.now (cuts_of case) label next c g can goes case.prices.now (gains_with (gain_in from.gains) c 0)
                (λ d known other. subst (IsGain case.instance.now d (cuts_of case) label case.prices.now) (sym (other-gain (gain_in from.gains) c 0 d other)) (origin.gains.each d known))
                (own-gain (gain_in from.gains) c 0 c refl) old.goal room beyond.worth
                (subst (λ triples. pos (100 * old.goal + beside + triples) ≤ℤ (room +ℤ pos (100 * from.label.flow + prices_missing case.instance.now case.prices.now label.served + 100))) origin.missing.triples
                (subst (λ ships. pos (100 * old.goal + beside + from.missing.triples) ≤ℤ (room +ℤ pos (100 * from.label.flow + ships + 100))) origin.missing.ships is.wide))
                beyond.more low);
          }

  -- the label of a number is that of the rules at its place, also once others were appended
  pub at_number : (items : List KeptLabel) (n : ℕ) (label : CodeLabel) → n < length items → ((d : KeptLabel) → label ≡ (slice_index_or items n d).label) → label_at (labels_of items) n ≡ label_of label
  at_number items n label within is =
      let d : KeptLabel = record { label = label; parent = None; chamber = 0; start = 0 } in
      label-at items n d within ∙ ap label_of (sym (is d))

  pub at_number_on : (old new : Made) (n : ℕ) (label : CodeLabel) → IsGrown old new → n < length old.labels.items.items → ((d : KeptLabel) → label ≡ (slice_index_or old.labels.items.items n d).label)
      → (d : KeptLabel) → label ≡ (slice_index_or new.labels.items.items n d).label
  at_number_on old new n label grown within is d =
      is d ∙ ap (λ (kept : KeptLabel). kept.label) (sym (ap (λ items. slice_index_or items n d) grown.appended ∙ get_or_append_left old.labels.items.items grown.more d n within))

  -- A LABEL IS TREATED where its bound is above the goal,
  pub bound_treated : (made : Made) (from : Origin) (n : ℕ) → IsOrigin case from → label_at (labels_of made.labels.items.items) n ≡ label_of from.label
      → IsBoundAbove case from.label from.missing from.gains made.goal → IsTreated case.instance.now (cuts_of case) made.goal (labels_of made.labels.items.items) n
  bound_treated made from n origin at above =
      treated-dropped case.instance.now (cuts_of case) made.goal (labels_of made.labels.items.items) n
      (subst (λ label. EndsBelow case.instance.now (cuts_of case) made.goal label → ⊥) (sym at) (bound_none from.label from.missing from.gains made.goal origin.missing origin.gains above))

  -- where its missing ships cost too much at their soonest,
  pub late_treated : (made : Made) (label : CodeLabel) (n : ℕ) → label_at (labels_of made.labels.items.items) n ≡ label_of label
      → (EndsBelow case.instance.now (cuts_of case) made.goal (label_of label) → ⊥) → IsTreated case.instance.now (cuts_of case) made.goal (labels_of made.labels.items.items) n
  late_treated made label n at none =
      treated-dropped case.instance.now (cuts_of case) made.goal (labels_of made.labels.items.items) n
      (subst (λ l. EndsBelow case.instance.now (cuts_of case) made.goal l → ⊥) (sym at) none)

  -- and where it has gone on by all chambers, some ship being missing.
  pub led_treated : (made : Made) (label : Label) (n s : ℕ) → label_at (labels_of made.labels.items.items) n ≡ label → s < length case.instance.now.ships → label.served s ≡ false
      → AreLed case made label (length case.instance.now.chambers) → IsTreated case.instance.now (cuts_of case) made.goal (labels_of made.labels.items.items) n
  led_treated made label n s at known missing led =
      treated-gone case.instance.now (cuts_of case) made.goal (labels_of made.labels.items.items) n s known (ap (λ (l : Label). l.served s) at ∙ missing)
      (subst (λ l. (c : ℕ) (g : Group) → CanGoOn case.instance.now (cuts_of case) l c g → (next : Label) × IsGoneOn case.instance.now (cuts_of case) l c g next × IsMetBy case made next) (sym at)
      (λ c g can. let one = led.each c can.chamber g can in (one.next, one.gone, one.met)))

  -- WHERE NO LABEL IS OPEN all are treated,
  pub end_done : (s t : Sweeper) (label : Label) → IsMetBy case s.made label → IsFurther case s t → ((k : ℕ) → open_at t.made.labels.are_open.items k ≡ false) → IsDone case t.made label
  end_done s t label met further closed = record {
    treated = λ k within. elim (further.sound.treated.each k (omega (arith, within, labels-length t.made.labels.items.items))) [
      | inl was ↦ absurd (apart (sym was ∙ closed k))
      | inr treated ↦ treated
    ];
    met = met_on case s.made t.made label further.grown met;
  }
    where
      apart : true ≡ false → ⊥
      apart e = cc

  -- so nothing behind the label costs less than the goal,
  pub done_none : (made : Made) (label : Label) → IsDone case made label → EndsBelow case.instance.now (cuts_of case) made.goal label → ⊥
  done_none made label done ends = treated-none case.instance.now (cuts_of case) made.goal (labels_of made.labels.items.items) done.treated label done.met ends

  -- which is swept where it was a first label.
  pub done_swept : (made : Made) (first : Label) → IsFirstLabel case.instance.now (cuts_of case) first → IsDone case made first → IsSwept case.instance.now (cuts_of case) made.goal
  done_swept made first is done = treated-swept case.instance.now (cuts_of case) made.goal (labels_of made.labels.items.items) done.treated first is done.met
