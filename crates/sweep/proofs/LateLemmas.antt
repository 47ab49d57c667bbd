-- Late costs bound labels that miss all late ships.
use Rattle.std.proofs.Common.{◌≡◌, ℕ, Bool, true, false, ◌||◌, ◌-◌, ◌<◌, ◌≤◌, not, cond, inl, inr, List, [], ◌∷◌, ◌++◌, length, length-append, sym, ap, ◌∙◌, refl, subst, arith, slice_index_or}
use Rattle.std.proofs.lemmas.Bool.Decides.{eqb_tells}
use Rattle.std.proofs.lemmas.List.{get_or_append_left}
use Rattle.std.proofs.Math.Seq.{get_or-append_seam}
use Rattle.lock_model.specs.declared.way.Way.{Way}
use Rattle.lock_model.specs.declared.way.Way.TheVariants.{Up, Down}
use Rattle.sweep_rules.specs.Completion.{EndsBelow}
use Rattle.sweep_rules.specs.Label.{Label, IsReadyFrom}
use Rattle.sweep_labels.specs.declared.label.Label.{Label as CodeLabel}
use Rattle.sweep_labels.specs.declared.ready_times.ReadyTimes.{ReadyTimes}
use Rattle.sweep_labels.specs.Ships.{is_in, AreApart}
use Rattle.sweep_labels.specs.Labels.{ready_by, times_at, label_of, AreNoLater, IsNoWorse}
use Rattle.sweep_labels.specs.declared.arrivals.Arrivals.{Arrivals}
use Rattle.sweep_labels.specs.Coming.{AreRaised, ArriveIn, AllArrive}
use Rattle.sweep_labels.specs.Steps.{AllRaised}
use Rattle.sweep_split.specs.Split.{IsNoSooner, IsLateLabel, MissesAll, HasLateCost, early_label}
use Rattle.sweep_split.proofs.SplitLemmas.{split-ends}
use Rattle.sweep_split.proofs.LateLemmas.{late-first}
use Rattle.sweep.specs.declared.sweep_case.SweepCase.{SweepCase}
use Rattle.sweep.specs.declared.late.LateShips.{LateShips}
use Rattle.sweep.specs.Bounds.{cuts_of}
use Rattle.sweep.specs.Late.{times_from, AreLateCosts}
use Rattle.sweep.specs.Soonest.{AreSteadyBefore}
use Rattle.sweep.proofs.SoonestLemmas.{some, steady}

module _ (case : SweepCase) where
  -- the label of the code that serves the late ships too has all completions of that of the rules
  pub early_same : (label : CodeLabel) (late joined left : ℕ) → ((s : ℕ) → is_in joined s ≡ (is_in label.served.bits s || is_in late s))
      → EndsBelow case.instance.now (cuts_of case) left (early_label (label_of label) (is_in late))
      → EndsBelow case.instance.now (cuts_of case) left (label_of (record { served = record { bits = joined }; ready = label.ready; flow = label.flow }))
  early_same label late joined left both ends = record {
    lines = ends.lines;
    starts = ends.starts;
    is = record {
      uncut = ends.is.uncut;
      lawful = ends.is.lawful;
      once = λ s known. ends.is.once s known ∙ ap {B = ℕ} (λ b. cond b 0 1) (sym (both s));
    };
    below = ends.below;
  }

  misses-all : (label : CodeLabel) (late : ℕ) → AreApart label.served.bits late → MissesAll case.instance.now (is_in late) (label_of label)
  misses-all label late apart = record { missing = λ s known among. by s among (is_in label.served.bits s) refl }
    where
      by : (s : ℕ) → is_in late s ≡ true → (b : Bool) → is_in label.served.bits s ≡ b → is_in label.served.bits s ≡ false
      by s among false is = is
      by s among true is = absurd (clash (sym among ∙ apart.none s is))
        where
          clash : true ≡ false → ⊥
          clash e = cc

  later-by : (a b : ReadyTimes) → AreNoLater a b → (way : Way) → ready_by a way ≤ ready_by b way
  later-by a b is Up = is.up
  later-by a b is Down = is.down

  no-sooner : (first label : CodeLabel) → IsNoWorse first label → IsNoSooner case.instance.now (cuts_of case) (label_of first).ready (label_of label)
  no-sooner first label is = record {
    later = λ c known way s wanted. later-by (times_at first.ready c) (times_at label.ready c) (is.ready.each c (omega (arith, known, case.instance.now.limits.chamber_count.1))) way;
  }

  -- WHERE ITS EARLY PART COSTS what a late cost leaves of the goal, the label has no completion below it.
  pub split_none : (first label : CodeLabel) (late goal cost left : ℕ) → AllArrive case.instance.now (cuts_of case) case.arrivals.now → AreSteadyBefore case label (length case.instance.now.chambers) → IsNoWorse first label
      → AreApart label.served.bits late → HasLateCost case.instance.now (cuts_of case) (is_in late) (label_of first).ready cost → left ≡ goal - cost
      → (EndsBelow case.instance.now (cuts_of case) left (early_label (label_of label) (is_in late)) → ⊥) → EndsBelow case.instance.now (cuts_of case) goal (label_of label) → ⊥
  split_none first label late goal cost left arrive are later apart low is none ends =
      none (subst (λ n. EndsBelow case.instance.now (cuts_of case) n (early_label (label_of label) (is_in late))) (sym is)
      (split-ends case.instance.now (cuts_of case) (label_of label) (is_in late) (label_of first).ready goal cost (steady case label arrive are) (no-sooner first label later) (misses-all label late apart) low ends))

  -- a label of the late ships alone, raised, begins with all completions of them
  pub late_is : (first label : CodeLabel) (late : ℕ) → AllArrive case.instance.now (cuts_of case) case.arrivals.now → label.flow ≡ 0 → ((s : ℕ) → s < length case.instance.now.ships → is_in label.served.bits s ≡ not (is_in late s))
      → AllRaised (times_from first) case.arrivals.now label.served.bits (length case.instance.now.chambers) label.ready → IsLateLabel case.instance.now (cuts_of case) (is_in late) (label_of first).ready (label_of label)
  late_is first label late arrive flow served raised = record {
    served = served;
    ready = λ c known way.
        let d = some case.arrivals.now c (omega (arith, known, case.level)) in
        by c (slice_index_or case.arrivals.now c d) (arrive.each c d known) (raised.each c d known) way;
    flow = flow;
  }
    where
      by : (c : ℕ) (arrivals : Arrivals) → ArriveIn case.instance.now (cuts_of case) c arrivals → AreRaised arrivals label.served.bits (times_from first c) (times_at label.ready c) → (way : Way)
          → IsReadyFrom case.instance.now (cuts_of case) (is_in label.served.bits) c way (times_from first c way) (ready_by (times_at label.ready c) way)
      by c arrivals arrive raised Up = raised.up.from case.instance.now (cuts_of case) c Up case.instance.now.limits.ship_count.1 arrive.up
      by c arrivals arrive raised Down = raised.down.from case.instance.now (cuts_of case) c Down case.instance.now.limits.ship_count.1 arrive.down

  -- SO WHAT IS SWEPT BEHIND IT is a late cost.
  pub late_low : (first label : CodeLabel) (late cost : ℕ) → IsLateLabel case.instance.now (cuts_of case) (is_in late) (label_of first).ready (label_of label)
      → (EndsBelow case.instance.now (cuts_of case) cost (label_of label) → ⊥) → HasLateCost case.instance.now (cuts_of case) (is_in late) (label_of first).ready cost
  late_low first label late cost is none = record { low = λ ends. none (late-first case.instance.now (cuts_of case) (is_in late) (label_of first).ready (label_of label) is cost ends) }

  -- one late cost more
  pub costs_more : (all : List LateShips) (first : CodeLabel) (costs : List ℕ) (cost : ℕ) → length costs < length all → AreLateCosts case all first costs
      → ((d : LateShips) → HasLateCost case.instance.now (cuts_of case) (is_in (slice_index_or all (length costs) d).ships.bits) (label_of first).ready cost) → AreLateCosts case all first (costs ++ cost ∷ [])
  costs_more all first costs cost within are own = record {
    few = λ k less. omega (arith, less, within, length-append costs (cost ∷ []));
    each = λ k d less. elim (eqb_tells k (length costs)) [
      | inl y ↦
          subst (λ k. HasLateCost case.instance.now (cuts_of case) (is_in (slice_index_or all k d).ships.bits) (label_of first).ready (slice_index_or (costs ++ cost ∷ []) k 0)) (sym y.1)
          (subst (HasLateCost case.instance.now (cuts_of case) (is_in (slice_index_or all (length costs) d).ships.bits) (label_of first).ready) (sym (get_or-append_seam costs cost [] 0)) (own d))
      | inr m ↦
          let low : k < length costs = omega (arith, less, m.1, length-append costs (cost ∷ [])) in
          subst (HasLateCost case.instance.now (cuts_of case) (is_in (slice_index_or all k d).ships.bits) (label_of first).ready) (sym (get_or_append_left costs (cost ∷ []) 0 k low)) (are.each k d low)
    ];
  }

  -- nothing costs less than no minutes
  pub zero_none : (label : Label) → EndsBelow case.instance.now (cuts_of case) 0 label → ⊥
  zero_none label ends = absurd (omega (arith, ends.below))
