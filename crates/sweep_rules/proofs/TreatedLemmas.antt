-- Where all labels that a sweep has made are treated, none of them ends below the goal.
use Rattle.std.proofs.Common.{◌≡◌, ℕ, zero, suc, ◌+◌, ◌<◌, ◌≤◌, Bool, true, false, cond, List, [], ◌++◌, length, ◌⊎◌, inl, inr, refl, sym, ap, ◌∙◌, subst, arith, length-append}
use Rattle.std.proofs.lemmas.Bool.Decides.{leb_tells}
use Rattle.std.proofs.lemmas.List.{get_or_append_left}
use Rattle.lock_model.specs.declared.instance.Instance.{Instance}
use Rattle.lock_model.specs.declared.group.Group.{Group}
use Rattle.lock_rules.specs.Plan.{times_in}
use Rattle.lock_rules.proofs.CountLemmas.{sum_by-counts}
use Rattle.lock_rules.proofs.ThroughputLemmas.{length-sum}
use Rattle.price_rules.specs.Prices.{PlainCut, flow_over}
use Rattle.sweep_rules.specs.Uncut.{IsSwept}
use Rattle.sweep_rules.specs.Label.{Label, IsFirstLabel, CanGoOn, IsGoneOn}
use Rattle.sweep_rules.specs.Completion.{EndsBelow, flow_completed}
use Rattle.sweep_rules.specs.Dominance.{ServesFor}
use Rattle.sweep_rules.specs.Equal.{AreSwapped, IsInOrder}
use Rattle.sweep_rules.specs.Gain.{ships_missing}
use Rattle.sweep_rules.specs.Treated.{label_at, no_label, missing_count, IsMetBelow, IsMet, IsLedBelow, IsTreated}
use Rattle.sweep_rules.proofs.FirstLemmas.{starts_in, first-completion, first-cost}
use Rattle.sweep_rules.proofs.DominanceLemmas.{serves-ends, ends-more}
use Rattle.sweep_rules.proofs.GoingLemmas.{label-goes}
use Rattle.sweep_rules.proofs.MissingLemmas.{missing-counts, missing-one, missing-none, missing-past}
use Rattle.sweep_rules.proofs.GainLemmas.{missing-sum}
use Rattle.sweep_rules.proofs.OrderLemmas.{label-goes_in_order}

-- labels of the same ships miss equally many
pub count-same : (I : Instance) (a b : Label) → ((s : ℕ) → s < length I.ships → a.served s ≡ b.served s) → missing_count I a ≡ missing_count I b
count-same I a b same =
    let one : ℕ → ℕ = λ s. 1 in
    let equal = sum_by-counts one (ships_missing I a.served) (ships_missing I b.served)
    (missing-counts I b.served (times_in (ships_missing I a.served)) (λ s known. counted s known (a.served s) refl) (missing-past I a.served)) in
    omega (arith, equal, length-sum (ships_missing I a.served), length-sum (ships_missing I b.served))
  where
    counted : (s : ℕ) → s < length I.ships → (t : Bool) → a.served s ≡ t → times_in (ships_missing I a.served) s ≡ cond (b.served s) 0 1
    counted s known true is = missing-none I a.served s is ∙ sym (ap {B = ℕ} (λ t. cond t 0 1) (sym (same s known) ∙ is))
    counted s known false is = missing-one I a.served s known is ∙ sym (ap {B = ℕ} (λ t. cond t 0 1) (sym (same s known) ∙ is))

-- a label that has gone on misses fewer ships
pub count-gone : (I : Instance) (cuts : List PlainCut) (label next : Label) (c : ℕ) (g : Group) → CanGoOn I cuts label c g → IsGoneOn I cuts label c g next → missing_count I next < missing_count I label
count-gone I cuts label next c g can gone =
    let one : ℕ → ℕ = λ s. 1 in
    omega (
      arith,
      missing-sum I cuts label next c g can gone (record { ships = []; triples = [] }) one,
      length-sum (ships_missing I label.served),
      length-sum (ships_missing I next.served),
      length-sum g.ships,
      can.uncut.good.count.0,
    )

module _ (I : Instance) (cuts : List PlainCut) (goal : ℕ) where
  -- ---- a label is met
  -- where one of the list serves for it,
  pub met-served : (labels : List Label) (place : ℕ) → place < length labels → (label : Label) → ServesFor I cuts (label_at labels place) label → IsMet I cuts goal labels label
  met-served labels place within label serves = record {
    by = λ total high ends. record {
      place = place;
      within = within;
      ends = serves-ends I cuts total (label_at labels place) label serves ends;
      fewer = omega (arith, count-same I (label_at labels place) label serves.served);
    };
  }

  -- where it has no completion of a total below the goal,
  pub met-dropped : (labels : List Label) (label : Label) → (EndsBelow I cuts goal label → ⊥) → IsMet I cuts goal labels label
  met-dropped labels label none = record { by = λ total high ends. absurd (none (ends-more I cuts total goal label high ends)) }

  -- and where it has the goal's flow time already
  pub met-costly : (labels : List Label) (label : Label) → goal ≤ label.flow → IsMet I cuts goal labels label
  met-costly labels label high = record { by = λ total low ends. absurd (omega (arith, high, low, ends.below)) }

  -- ---- a label of the list is treated
  -- where a later one serves for it,
  pub treated-served : (labels : List Label) (k place : ℕ) → k < place → place < length labels → ServesFor I cuts (label_at labels place) (label_at labels k) → IsTreated I cuts goal labels k
  treated-served labels k place later within serves = record {
    on = λ total high ends. record {
      place = place;
      within = within;
      ends = serves-ends I cuts total (label_at labels place) (label_at labels k) serves ends;
      further = inr (count-same I (label_at labels place) (label_at labels k) serves.served, later);
    };
  }

  -- where it has no completion of a total below the goal,
  pub treated-dropped : (labels : List Label) (k : ℕ) → (EndsBelow I cuts goal (label_at labels k) → ⊥) → IsTreated I cuts goal labels k
  treated-dropped labels k none = record { on = λ total high ends. absurd (none (ends-more I cuts total goal (label_at labels k) high ends)) }

  -- where it has the goal's flow time already,
  pub treated-costly : (labels : List Label) (k : ℕ) → goal ≤ (label_at labels k).flow → IsTreated I cuts goal labels k
  treated-costly labels k high = record { on = λ total low ends. absurd (omega (arith, high, low, ends.below)) }

  -- a label that a label goes on to leads further
  led-gone : (labels : List Label) (k : ℕ) (c : ℕ) (g : Group) → CanGoOn I cuts (label_at labels k) c g → (next : Label) → IsGoneOn I cuts (label_at labels k) c g next
      → (total : ℕ) → IsMetBelow I cuts total labels next → IsLedBelow I cuts total labels k
  led-gone labels k c g can next gone total met = record {
    place = met.place;
    within = met.within;
    ends = met.ends;
    further = inl (omega (arith, met.fewer, count-gone I cuts (label_at labels k) next c g can gone));
  }

  -- AND WHERE EACH LABEL THAT IT GOES ON TO IS MET, some ship being missing.
  pub treated-gone : (labels : List Label) (k s : ℕ) → s < length I.ships → (label_at labels k).served s ≡ false
      → ((c : ℕ) (g : Group) → CanGoOn I cuts (label_at labels k) c g → (next : Label) × IsGoneOn I cuts (label_at labels k) c g next × IsMet I cuts goal labels next) → IsTreated I cuts goal labels k
  treated-gone labels k s known missing gone = record {
    on = λ total high ends.
        let first = label-goes I cuts total (label_at labels k) ends s known missing in
        let next = gone first.chamber first.group first.can in
        led-gone labels k first.chamber first.group first.can next.0 next.1 total (next.2.by total high (first.ends next.0 next.1));
  }

  -- The same by groups in order alone, where the cuts have all swaps of equal ships.
  pub treated-in_order : AreSwapped I cuts → (labels : List Label) (k s : ℕ) → s < length I.ships → (label_at labels k).served s ≡ false
      → ((c : ℕ) (g : Group) → CanGoOn I cuts (label_at labels k) c g → IsInOrder I (label_at labels k).served g → (next : Label) × IsGoneOn I cuts (label_at labels k) c g next × IsMet I cuts goal labels next)
      → IsTreated I cuts goal labels k
  treated-in_order closed labels k s known missing gone = record {
    on = λ total high ends.
        let first = label-goes_in_order I cuts closed total (label_at labels k) ends s known missing in
        let next = gone first.chamber first.group first.can first.in_order in
        led-gone labels k first.chamber first.group first.can next.0 next.1 total (next.2.by total high (first.ends next.0 next.1));
  }

  -- ---- as the list grows and the goal falls
  label-kept : (labels more : List Label) (k : ℕ) → k < length labels → label_at (labels ++ more) k ≡ label_at labels k
  label-kept labels more k within = get_or_append_left labels more no_label k within

  longer : (labels more : List Label) (k : ℕ) → k < length labels → k < length (labels ++ more)
  longer labels more k within = omega (arith, within, length-append labels more)

  pub met-longer : (labels more : List Label) (label : Label) → IsMet I cuts goal labels label → IsMet I cuts goal (labels ++ more) label
  met-longer labels more label met = record {
    by = λ total high ends.
        let one = met.by total high ends in
        record {
          place = one.place;
          within = longer labels more one.place one.within;
          ends = subst (EndsBelow I cuts total) (sym (label-kept labels more one.place one.within)) one.ends;
          fewer = subst (λ l. missing_count I l ≤ missing_count I label) (sym (label-kept labels more one.place one.within)) one.fewer;
        };
  }

  pub treated-longer : (labels more : List Label) (k : ℕ) → k < length labels → IsTreated I cuts goal labels k → IsTreated I cuts goal (labels ++ more) k
  treated-longer labels more k within treated = record {
    on = λ total high ends.
        let own = label-kept labels more k within in
        let one = treated.on total high (subst (EndsBelow I cuts total) own ends) in
        let there = label-kept labels more one.place one.within in
        record {
          place = one.place;
          within = longer labels more one.place one.within;
          ends = subst (EndsBelow I cuts total) (sym there) one.ends;
          further = subst (λ l. (missing_count I l < missing_count I (label_at (labels ++ more) k)) ⊎ ((missing_count I l ≡ missing_count I (label_at (labels ++ more) k)) × (k < one.place))) (sym there)
              (subst (λ l. (missing_count I (label_at labels one.place) < missing_count I l) ⊎ ((missing_count I (label_at labels one.place) ≡ missing_count I l) × (k < one.place))) (sym own) one.further);
        };
  }

  pub met-lower : (labels : List Label) (label : Label) (less : ℕ) → less ≤ goal → IsMet I cuts goal labels label → IsMet I cuts less labels label
  met-lower labels label less low met = record { by = λ total high. met.by total (omega (arith, high, low)) }

  pub treated-lower : (labels : List Label) (k less : ℕ) → less ≤ goal → IsTreated I cuts goal labels k → IsTreated I cuts less labels k
  treated-lower labels k less low treated = record { on = λ total high. treated.on total (omega (arith, high, low)) }

  -- ---- all labels are treated
  module _ (labels : List Label) (treated : (k : ℕ) → k < length labels → IsTreated I cuts goal labels k) where
    abbrev Ends : ℕ → Type 0
    Ends k = EndsBelow I cuts goal (label_at labels k)

    none-later : (m : ℕ) → ((k : ℕ) → k < length labels → missing_count I (label_at labels k) < m → Ends k → ⊥)
        → (d k : ℕ) → k < length labels → missing_count I (label_at labels k) ≤ m → length labels ≤ k + d → Ends k → ⊥
    none-later m fewer zero k within few near ends = absurd (omega (arith, within, near))
    none-later m fewer (suc d) k within few near ends =
        let led = (treated k within).on goal (omega arith) ends in
        elim led.further [
          | inl less ↦ fewer led.place led.within (omega (arith, less, few)) led.ends
          | inr later ↦ none-later m fewer d led.place led.within (omega (arith, later.0, few)) (omega (arith, later.1, near)) led.ends
        ]

    none-below : (m k : ℕ) → k < length labels → missing_count I (label_at labels k) ≤ m → Ends k → ⊥
    none-below zero k within few ends = none-later zero (λ k within less ends. absurd (omega (arith, less))) (length labels) k within few (omega arith) ends
    none-below (suc m) k within few ends = none-later (suc m) (λ k within less ends. none-below m k within (omega (arith, less)) ends) (length labels) k within few (omega arith) ends

    -- WHERE ALL LABELS ARE TREATED and a first label is met, the goal is swept.
    pub treated-swept : (first : Label) → IsFirstLabel I cuts first → IsMet I cuts goal labels first → IsSwept I cuts goal
    treated-swept first is met = record {
      least = λ lines plan. elim (leb_tells goal (flow_over I lines)) [
        | inl high ↦ high.1
        | inr low ↦
            (let below : first.flow + flow_completed I lines (starts_in I lines) < goal = omega (arith, low.1, first-cost I cuts first is lines plan) in
            let one = met.by goal (omega arith) (record { lines = lines; starts = starts_in I lines; is = first-completion I cuts first is lines plan; below = below }) in
            absurd (none-below (missing_count I (label_at labels one.place)) one.place one.within (omega arith) one.ends))
      ];
    }
