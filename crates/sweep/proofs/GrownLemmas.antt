-- What was met stays so as a sweep goes on.
use Rattle.std.proofs.Common.{◌≡◌, ◌≢◌, ℕ, ◌+◌, ◌<◌, false, inl, inr, List, [], ◌++◌, length, slice_index_or, refl, sym, ap, ◌∙◌, subst, arith, slice_set, append-nil, append_assoc}
use Rattle.std.proofs.lemmas.List.{length-set}
use Rattle.std.proofs.lemmas.Bool.Decides.{eqb_tells}
use Rattle.lock_model.specs.declared.group.Group.{Group}
use Rattle.lock_model.specs.declared.way.Way.{Way}
use Rattle.lock_model.specs.declared.way.Way.TheVariants.{Up, Down}
use Rattle.sweep_rules.specs.Label.{Label, CanGoOn}
use Rattle.sweep_rules.specs.Treated.{IsTreated}
use Rattle.sweep_labels.specs.declared.label.Label.{Label as CodeLabel}
use Rattle.sweep_labels.specs.declared.label.KeptLabel.{KeptLabel}
use Rattle.sweep_labels.specs.declared.made.Made.{Made}
use Rattle.sweep_labels.specs.declared.step.Arc.{Arc}
use Rattle.sweep_labels.specs.Labels.{label_of}
use Rattle.sweep_labels.specs.Sweeping.{labels_of, AreTreated}
use Rattle.sweep_labels.specs.Made.{HasGrown, IsKept}
use Rattle.sweep_labels.specs.Arcs.{arc_at}
use Rattle.sweep_labels.proofs.MadeLemmas.{met_grown}
use Rattle.sweep_labels.proofs.SweepingLemmas.{closed-treated}
use Rattle.sweep.specs.declared.sweep_case.SweepCase.{SweepCase}
use Rattle.sweep.specs.declared.sweeper.Sweeper.{Sweeper}
use Rattle.sweep.specs.Bounds.{cuts_of, AreSameLanes}
use Rattle.sweep.specs.Late.{IsGuided}
use Rattle.sweep.specs.declared.late_bound.LateCosts.{LateCosts}
use Rattle.sweep.proofs.BoundLemmas.{lanes_on}
use Rattle.sweep_arcs.specs.declared.lane.Lane.{Lane}
use Rattle.sweep.specs.Going.{IsSound, IsGrown, IsFurther, IsMetBy, IsLedOn, IsArcLed, AreArcsLed, IsWayLed, AreLed}

pub grown_none : (items : List KeptLabel) (goal : ℕ) → HasGrown items goal items goal
grown_none items goal = record { more = []; appended = sym (append-nil items); low = omega arith }

pub grown_more : (a b c : List KeptLabel) (f g h : ℕ) → HasGrown a f b g → HasGrown b g c h → HasGrown a f c h
grown_more a b c f g h first second = record {
  more = first.more ++ second.more;
  appended = second.appended ∙ ap (λ ls. ls ++ second.more) first.appended ∙ append_assoc a first.more second.more;
  low = omega (arith, first.low, second.low);
}

module _ (case : SweepCase) where
  -- lanes that were asked are as right as before
  pub guided_on : (old new : List Lane) (known : LateCosts) → IsGuided case old known → AreSameLanes old new → IsGuided case new known
  guided_on old new known guided same = record {
    lanes = record {
      own = lanes_on case.instance.now (cuts_of case) case.prices.now 0 (length case.instance.now.chambers) old new guided.lanes.own same;
      rows = λ k d less.
          let late = slice_index_or known.late.now k d in
          lanes_on case.instance.now (cuts_of case) late.prices late.first (length case.instance.now.chambers) old new (guided.lanes.rows k d less) same;
    };
    first = guided.first;
    costs = guided.costs;
  }

  -- the sweep with other things changed than its lanes and labels is as sound, and as far on
  pub sound_same : (s t : Sweeper) → IsSound case s → IsGuided case t.lanes.now t.known → t.made ≡ s.made → IsSound case t
  sound_same s t sound guided made = record {
    arrive = sound.arrive;
    guided = guided;
    level = subst (λ (made : Made). length made.labels.are_open.items ≡ length made.labels.items.items) (sym made) sound.level;
    treated = subst (λ (made : Made). AreTreated case.instance.now (cuts_of case) made.goal made.labels.items.items made.labels.are_open.items) (sym made) sound.treated;
  }

  pub further_same : (s t : Sweeper) → IsSound case s → IsGuided case t.lanes.now t.known → t.made ≡ s.made → t.known ≡ s.known → IsFurther case s t
  further_same s t sound guided made known = record {
    sound = sound_same s t sound guided made;
    known = known;
    grown = subst (IsGrown s.made) (sym made) (grown_none s.made.labels.items.items s.made.goal);
  }

  pub further_more : (s t u : Sweeper) → IsFurther case s t → IsFurther case t u → IsFurther case s u
  further_more s t u first second = record {
    sound = second.sound;
    known = second.known ∙ first.known;
    grown = grown_more s.made.labels.items.items t.made.labels.items.items u.made.labels.items.items s.made.goal t.made.goal u.made.goal first.grown second.grown;
  }

  pub met_on : (a b : Made) (label : Label) → IsGrown a b → IsMetBy case a label → IsMetBy case b label
  met_on a b label grown met = met_grown case.instance.now (cuts_of case) a.labels.items.items b.labels.items.items a.goal b.goal label grown met

  pub led_on : (a b : Made) (from : Label) (c : ℕ) (g : Group) → IsGrown a b → IsLedOn case a from c g → IsLedOn case b from c g
  led_on a b from c g grown led = record { next = led.next; gone = led.gone; met = met_on a b led.next grown led.met }

  pub arc_led_on : (a b : Made) (from : CodeLabel) (c : ℕ) (way : Way) (arc : Arc) → IsGrown a b → IsArcLed case a from c way arc → IsArcLed case b from c way arc
  arc_led_on a b from c way arc grown led = record { each = λ g on. led_on a b (label_of from) c g grown (led.each g on) }

  pub way_led_on : (a b : Made) (from : Label) (c : ℕ) (way : Way) → IsGrown a b → IsWayLed case a from c way → IsWayLed case b from c way
  way_led_on a b from c way grown led = record { each = λ g can same. led_on a b from c g grown (led.each g can same) }

  -- one arc more, and one chamber more
  before : (k n : ℕ) → k < n + 1 → k ≢ n → k < n
  before k n less other = omega arith

  pub arcs_led_none : (a : Made) (from : CodeLabel) (c : ℕ) (way : Way) (arcs : List Arc) → AreArcsLed case a from c way 0 arcs
  arcs_led_none a from c way arcs = record { each = λ k none. absurd (omega (arith, none)) }

  pub arcs_led_more : (a b : Made) (from : CodeLabel) (c : ℕ) (way : Way) (n : ℕ) (arcs : List Arc) → IsGrown a b → IsArcLed case b from c way (arc_at arcs n)
      → AreArcsLed case a from c way n arcs → AreArcsLed case b from c way (n + 1) arcs
  arcs_led_more a b from c way n arcs grown here led = record {
    each = λ k less. elim (eqb_tells k n) [
      | inl y ↦ subst (λ k. IsArcLed case b from c way (arc_at arcs k)) (sym y.1) here
      | inr m ↦ arc_led_on a b from c way (arc_at arcs k) grown (led.each k (before k n less m.1))
    ];
  }

  pub led_none : (a : Made) (from : Label) → AreLed case a from 0
  led_none a from = record { each = λ c none. absurd (omega (arith, none)) }

  either : (b : Made) (from : Label) (n : ℕ) → IsWayLed case b from n Up → IsWayLed case b from n Down → (g : Group) → CanGoOn case.instance.now (cuts_of case) from n g → (way : Way) → g.way ≡ way → IsLedOn case b from n g
  either b from n up down g can Up is = up.each g can is
  either b from n up down g can Down is = down.each g can is

  pub led_more : (a b : Made) (from : Label) (n : ℕ) → IsGrown a b → IsWayLed case b from n Up → IsWayLed case b from n Down → AreLed case a from n → AreLed case b from (n + 1)
  led_more a b from n grown up down led = record {
    each = λ c less. elim (eqb_tells c n) [
      | inl y ↦ subst (λ c. (g : Group) → CanGoOn case.instance.now (cuts_of case) from c g → IsLedOn case b from c g) (sym y.1) (λ g can. either b from n up down g can g.way refl)
      | inr m ↦ λ g can. led_on a b from c g grown (led.each c (before c n less m.1) g can)
    ];
  }

  -- a label is kept
  pub kept_further : (s t : Sweeper) (l : KeptLabel) → IsSound case s → IsGuided case t.lanes.now t.known → t.known ≡ s.known
      → IsKept l s.made.labels.items.items s.made.labels.are_open.items s.made.goal t.made.labels.items.items t.made.labels.are_open.items t.made.goal → IsFurther case s t
  kept_further s t l sound guided known kept = record {
    sound = record {
      arrive = sound.arrive;
      guided = guided;
      level = kept.level;
      treated = kept.treated case.instance.now (cuts_of case) sound.treated;
    };
    known = known;
    grown = kept.grown;
  }

  -- a treated label is closed
  pub closed_further : (s t : Sweeper) (n : ℕ) → IsSound case s → IsGuided case t.lanes.now t.known → t.known ≡ s.known → t.made.goal ≡ s.made.goal → t.made.labels.items.items ≡ s.made.labels.items.items
      → t.made.labels.are_open.items ≡ slice_set s.made.labels.are_open.items n false
      → IsTreated case.instance.now (cuts_of case) s.made.goal (labels_of s.made.labels.items.items) n → IsFurther case s t
  closed_further s t n sound guided known goal items flags treated = record {
    sound = record {
      arrive = sound.arrive;
      guided = guided;
      level = ap length flags ∙ length-set s.made.labels.are_open.items n false ∙ sound.level ∙ ap length (sym items);
      treated =
          subst (λ goal. AreTreated case.instance.now (cuts_of case) goal t.made.labels.items.items t.made.labels.are_open.items) (sym goal)
          (subst (λ items. AreTreated case.instance.now (cuts_of case) s.made.goal items t.made.labels.are_open.items) (sym items)
          (subst (AreTreated case.instance.now (cuts_of case) s.made.goal s.made.labels.items.items) (sym flags)
          (closed-treated case.instance.now (cuts_of case) s.made.goal s.made.labels.items.items s.made.labels.are_open.items n treated sound.treated)));
    };
    known = known;
    grown = record { more = []; appended = items ∙ sym (append-nil s.made.labels.items.items); low = omega (arith, goal) };
  }
