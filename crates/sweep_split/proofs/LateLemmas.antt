-- Sweeps of late ships: what one begins with has all completions of them, and where all its labels are treated none ends below its goal.
use Rattle.std.proofs.Common.{ℕ, zero, suc, ◌+◌, ◌<◌, ◌≤◌, not, Bool, cond, List, length, inl, inr, sym, ap, ◌∙◌, subst, arith}
use Rattle.lock_model.specs.declared.instance.Instance.{Instance}
use Rattle.lock_model.specs.declared.way.Way.{Way}
use Rattle.price_rules.specs.Prices.{PlainCut}
use Rattle.sweep_rules.specs.Label.{Label}
use Rattle.sweep_rules.specs.Completion.{EndsBelow}
use Rattle.sweep_rules.specs.Gain.{IsWayOn}
use Rattle.sweep_rules.specs.Treated.{label_at, missing_count, IsMet, IsTreated}
use Rattle.sweep_rules.proofs.GainLemmas.{way_on-fewer}
use Rattle.sweep_rules.proofs.OverLemmas.{completion-on}
use Rattle.sweep_rules.proofs.ReadyLemmas.{start-ready, lawful-others, way_on-head}
use Rattle.sweep_split.specs.Split.{late_label, IsLateLabel}

module _ (I : Instance) (cuts : List PlainCut) where
  -- what a sweep of the late ships begins with has all completions of them
  pub late-first : (late : ℕ → Bool) (ready : ℕ → Way → ℕ) (first : Label) → IsLateLabel I cuts late ready first → (goal : ℕ) → EndsBelow I cuts goal (late_label late ready) → EndsBelow I cuts goal first
  late-first late ready first is goal ends = record {
    lines = ends.lines;
    starts = ends.starts;
    is = record {
      uncut = ends.is.uncut;
      lawful = λ c known. lawful-others I c (ready c) (first.ready c) (ends.lines c) (ends.starts c) (λ g rest t times line at start.
          let on = way_on-fewer I c cuts first.served (λ s. not (late s)) (λ s ship missed. is.served s ship ∙ missed) (ends.lines c)
          (completion-on I cuts (late_label late ready) ends.lines ends.starts ends.is c known) in
          let own = way_on-head I c cuts first.served g rest (subst (IsWayOn I c cuts first.served) line on) in
          start-ready I cuts first.served c (ready c g.way) (first.ready c g.way) t g (is.ready c known g.way).before own.0 own.1 start.later start.arrived) (ends.is.lawful c known);
      once = λ s known. ends.is.once s known ∙ ap {B = ℕ} (λ b. cond b 0 1) (sym (is.served s known));
    };
    below = omega (arith, ends.below, is.flow);
  }

  module _ (goal : ℕ) (labels : List Label) (treated : (k : ℕ) → k < length labels → IsTreated I cuts goal labels k) where
    abbrev Ends : ℕ → Type 0
    Ends k = EndsBelow I cuts goal (label_at labels k)

    none-later : (m : ℕ) → ((k : ℕ) → k < length labels → missing_count I (label_at labels k) < m → Ends k → ⊥)
        → (d k : ℕ) → k < length labels → missing_count I (label_at labels k) ≤ m → length labels ≤ k + d → Ends k → ⊥
    none-later m fewer zero k within few near ends = absurd (omega (arith, within, near))
    none-later m fewer (suc d) k within few near ends =
        let led = (treated k within).on goal (omega arith) ends in
        elim led.further [
          | inl less ↦ fewer led.place led.within (omega (arith, less, few)) led.ends
          | inr later ↦ none-later m fewer d led.place led.within (omega (arith, later.0, few)) (omega (arith, later.1, near)) led.ends
        ]

    none-below : (m k : ℕ) → k < length labels → missing_count I (label_at labels k) ≤ m → Ends k → ⊥
    none-below zero k within few ends = none-later zero (λ k within less ends. absurd (omega (arith, less))) (length labels) k within few (omega arith) ends
    none-below (suc m) k within few ends = none-later (suc m) (λ k within less ends. none-below m k within (omega (arith, less)) ends) (length labels) k within few (omega arith) ends

    -- where all labels are treated, a label that is met has no completion of a total below the goal
    pub treated-none : (label : Label) → IsMet I cuts goal labels label → EndsBelow I cuts goal label → ⊥
    treated-none label met ends = let one = met.by goal (omega arith) ends in none-below (missing_count I (label_at labels one.place)) one.place one.within (omega arith) one.ends
