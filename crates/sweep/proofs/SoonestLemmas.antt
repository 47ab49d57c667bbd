-- What missing ships cost at the least behind a label: chamber by chamber, and what follows from it.
use Rattle.std.proofs.Common.{◌≡◌, ℕ, Bool, ◌+◌, ◌≤◌, ◌<◌, max, inl, inr, List, [], ◌∷◌, length, sum_by, sym, subst, arith, slice_index_or}
use Rattle.std.proofs.lemmas.Bool.Decides.{eqb_tells}
use Rattle.lock_model.specs.Fleet.{ship_at, chamber_at}
use Rattle.lock_model.specs.declared.limits.TheConstants.{SHIPS}
use Rattle.lock_model.specs.declared.instance.Instance.{Instance}
use Rattle.lock_model.specs.declared.way.Way.{Way}
use Rattle.lock_model.specs.declared.way.Way.TheVariants.{Up, Down}
use Rattle.price_rules.specs.Prices.{PlainCut}
use Rattle.sweep_rules.specs.Label.{IsWanted}
use Rattle.sweep_rules.specs.Completion.{EndsBelow}
use Rattle.sweep_rules.specs.Gain.{ships_missing, triples_missing}
use Rattle.sweep_split.specs.Split.{IsSteady, other_way}
use Rattle.sweep_split.specs.Soonest.{IsSoonest}
use Rattle.sweep_split.proofs.SoonestLemmas.{soon-none}
use Rattle.sweep_labels.specs.declared.arrivals.Coming.{Coming}
use Rattle.sweep_labels.specs.declared.arrivals.Arrivals.{Arrivals}
use Rattle.sweep_labels.specs.declared.label.Label.{Label as CodeLabel}
use Rattle.sweep_labels.specs.declared.ready_times.ReadyTimes.{ReadyTimes}
use Rattle.sweep_labels.specs.Ships.{is_in}
use Rattle.sweep_labels.specs.Labels.{ready_by, times_at, label_of, AreNoLater}
use Rattle.sweep_labels.specs.Coming.{coming_at, IsListed, IsRaised, ArriveIn, AllArrive}
use Rattle.sweep.specs.declared.sweep_case.SweepCase.{SweepCase}
use Rattle.sweep.specs.declared.origin.Missing.{Missing}
use Rattle.sweep.specs.Bounds.{cuts_of, gain_in, AreGains, IsBoundAbove}
use Rattle.sweep.specs.Soonest.{soon_at, cost_from, AreLower, AreSoon, AreSoonIn, AreSoonBefore, IsSteadyIn, AreSteadyBefore}

-- no listed ship, and one more
pub lower_none : (items : List Coming) (ready pass : ℕ) (soonest : List ℕ) → AreSoon items ready pass 0 soonest
lower_none items ready pass soonest = record { each = λ k none. absurd (omega (arith, none)) }

pub lower_more : (items : List Coming) (ready pass n : ℕ) (old new : List ℕ) → AreSoon items ready pass n old
    → ((coming_at items n).ship < SHIPS → soon_at new (coming_at items n).ship + (coming_at items n).arrival ≤ max ready (coming_at items n).arrival + pass)
    → AreLower old new → AreSoon items ready pass (n + 1) new
lower_more items ready pass n old new before own lower = record {
  each = λ k less known. elim (eqb_tells k n) [
    | inl y ↦ subst (λ k. soon_at new (coming_at items k).ship + (coming_at items k).arrival ≤ max ready (coming_at items k).arrival + pass) (sym y.1) (own (subst (λ k. (coming_at items k).ship < SHIPS) y.1 known))
    | inr m ↦ omega (arith, before.each k (omega (arith, less, m.1)) known, lower.each (coming_at items k).ship)
  ];
}

lower-soon : (items : List Coming) (ready pass n : ℕ) (old new : List ℕ) → AreLower old new → AreSoon items ready pass n old → AreSoon items ready pass n new
lower-soon items ready pass n old new lower are = record { each = λ k less known. omega (arith, are.each k less known, lower.each (coming_at items k).ship) }

-- no chamber, and one more
pub soon_none : (case : SweepCase) (label : CodeLabel) (soonest : List ℕ) → AreSoonBefore case label 0 soonest
soon_none case label soonest = record { each = λ c d none. absurd (omega (arith, none)) }

pub soon_more : (case : SweepCase) (label : CodeLabel) (n : ℕ) (arrivals : Arrivals) (times : ReadyTimes) (pass : ℕ) (old new : List ℕ) → AreSoonBefore case label n old
    → ((d : Arrivals) → slice_index_or case.arrivals.now n d ≡ arrivals) → times_at label.ready n ≡ times → (chamber_at case.instance.now n).pass ≡ pass
    → AreSoonIn arrivals times pass new → AreLower old new → AreSoonBefore case label (n + 1) new
soon_more case label n arrivals times pass old new before list ready long own lower = record {
  each = λ c d less. elim (eqb_tells c n) [
    | inl y ↦
        subst (λ c. AreSoonIn (slice_index_or case.arrivals.now c d) (times_at label.ready c) (chamber_at case.instance.now c).pass new) (sym y.1)
        (subst (λ a. AreSoonIn a (times_at label.ready n) (chamber_at case.instance.now n).pass new) (sym (list d))
        (subst (λ t. AreSoonIn arrivals t (chamber_at case.instance.now n).pass new) (sym ready)
        (subst (λ p. AreSoonIn arrivals times p new) (sym long) own)))
    | inr m ↦
        let was = before.each c d (omega (arith, less, m.1)) in
        let a = slice_index_or case.arrivals.now c d in
        record {
          up = lower-soon a.up.items.items (times_at label.ready c).up (chamber_at case.instance.now c).pass (length a.up.items.items) old new lower was.up;
          down = lower-soon a.down.items.items (times_at label.ready c).down (chamber_at case.instance.now c).pass (length a.down.items.items) old new lower was.down;
        }
  ];
}

-- a chamber is steady where its minutes are no later than those that are raised
pub steady_in : (arrivals : Arrivals) (bits pass up_from down_from : ℕ) (times raised : ReadyTimes) → up_from ≤ times.down + pass → down_from ≤ times.up + pass
    → IsRaised arrivals.up.items.items bits up_from raised.up → IsRaised arrivals.down.items.items bits down_from raised.down → AreNoLater times raised
    → IsSteadyIn arrivals bits times pass
steady_in arrivals bits pass up_from down_from times raised up_low down_low up_raised down_raised later = record { soon = soon }
  where
    soon : (I : Instance) (cuts : List PlainCut) (c : ℕ) → length I.ships ≤ SHIPS → ArriveIn I cuts c arrivals → (way from : Way) (s : ℕ) → IsWanted I cuts (is_in bits) c way s
        → ready_by times way ≤ max (ready_by times from + pass) (ship_at I s).arrival
    soon I cuts c few are Up Up s wanted = omega arith
    soon I cuts c few are Down Down s wanted = omega arith
    soon I cuts c few are Up Down s wanted = omega (arith, (up_raised.from I cuts c Up few are.up).before s wanted, up_low, later.up)
    soon I cuts c few are Down Up s wanted = omega (arith, (down_raised.from I cuts c Down few are.down).before s wanted, down_low, later.down)

-- no chamber, and one more
pub steady_none : (case : SweepCase) (label : CodeLabel) → AreSteadyBefore case label 0
steady_none case label = record { each = λ c d none. absurd (omega (arith, none)) }

pub steady_more : (case : SweepCase) (label : CodeLabel) (n : ℕ) (arrivals : Arrivals) (times : ReadyTimes) (pass : ℕ) → AreSteadyBefore case label n
    → ((d : Arrivals) → slice_index_or case.arrivals.now n d ≡ arrivals) → times_at label.ready n ≡ times → (chamber_at case.instance.now n).pass ≡ pass
    → IsSteadyIn arrivals label.served.bits times pass → AreSteadyBefore case label (n + 1)
steady_more case label n arrivals times pass before list ready long own = record {
  each = λ c d less. elim (eqb_tells c n) [
    | inl y ↦
        subst (λ c. IsSteadyIn (slice_index_or case.arrivals.now c d) label.served.bits (times_at label.ready c) (chamber_at case.instance.now c).pass) (sym y.1)
        (subst (λ a. IsSteadyIn a label.served.bits (times_at label.ready n) (chamber_at case.instance.now n).pass) (sym (list d))
        (subst (λ t. IsSteadyIn arrivals label.served.bits t (chamber_at case.instance.now n).pass) (sym ready)
        (subst (λ p. IsSteadyIn arrivals label.served.bits times p) (sym long) own)))
    | inr m ↦ before.each c d (omega (arith, less, m.1))
  ];
}

-- the minutes of a ship that a chamber wants
soon_listed : (I : Instance) (items : List Coming) (ready pass : ℕ) (soonest : List ℕ) (s : ℕ) → s < SHIPS → IsListed I items s → AreSoon items ready pass (length items) soonest
    → soon_at soonest s + (ship_at I s).arrival ≤ max ready (ship_at I s).arrival + pass
soon_listed I items ready pass soonest s known listed are =
    let own = are.each listed.place listed.within (omega (arith, listed.ship, known)) in
    omega (arith, subst (λ t. soon_at soonest t + (coming_at items listed.place).arrival ≤ max ready (coming_at items listed.place).arrival + pass) listed.ship own, listed.arrival)

soon_in : (I : Instance) (cuts : List PlainCut) (served : ℕ → Bool) (c : ℕ) (arrivals : Arrivals) (times : ReadyTimes) (pass : ℕ) (soonest : List ℕ) → length I.ships ≤ SHIPS → ArriveIn I cuts c arrivals
    → AreSoonIn arrivals times pass soonest → (way : Way) (s : ℕ) → IsWanted I cuts served c way s → soon_at soonest s + (ship_at I s).arrival ≤ max (ready_by times way) (ship_at I s).arrival + pass
soon_in I cuts served c arrivals times pass soonest few arrive are Up s wanted =
    soon_listed I arrivals.up.items.items times.up pass soonest s (omega (arith, wanted.known, few)) (arrive.up.whole served s wanted) are.up
soon_in I cuts served c arrivals times pass soonest few arrive are Down s wanted =
    soon_listed I arrivals.down.items.items times.down pass soonest s (omega (arith, wanted.known, few)) (arrive.down.whole served s wanted) are.down

-- a list with a place has an element
pub some : (items : List Arrivals) (c : ℕ) → c < length items → Arrivals
some [] c none = absurd (omega (arith, none))
some (a ∷ more) c within = a

module _ (case : SweepCase) (label : CodeLabel) (arrive : AllArrive case.instance.now (cuts_of case) case.arrivals.now) where
  few : length case.instance.now.ships ≤ SHIPS
  few = case.instance.now.limits.ship_count.1

  -- a label is steady where its chambers are
  pub steady : AreSteadyBefore case label (length case.instance.now.chambers) → IsSteady case.instance.now (cuts_of case) (label_of label)
  steady are = record {
    soon = λ c known way s wanted.
        let d = some case.arrivals.now c (omega (arith, known, case.level)) in
        (are.each c d known).soon case.instance.now (cuts_of case) c few (arrive.each c d known) way (other_way way) s wanted;
  }

  -- the minutes are the soonest ones
  soonest-is : (soonest : List ℕ) → AreSoonBefore case label (length case.instance.now.chambers) soonest
      → IsSoonest case.instance.now (cuts_of case) (label_of label) (λ s. soon_at soonest s + (ship_at case.instance.now s).handling)
  soonest-is soonest are = record {
    least = λ c known way s wanted.
        let d = some case.arrivals.now c (omega (arith, known, case.level)) in
        omega (
          arith,
          soon_in case.instance.now (cuts_of case) (is_in label.served.bits) c (slice_index_or case.arrivals.now c d) (times_at label.ready c)
              (chamber_at case.instance.now c).pass soonest few (arrive.each c d known) (are.each c d known) way s wanted,
        );
  }

  pub late_none : (soonest : List ℕ) (missing : Missing) (gains : List ℕ) (goal : ℕ) → AreSteadyBefore case label (length case.instance.now.chambers)
      → AreSoonBefore case label (length case.instance.now.chambers) soonest → missing.ships ≡ sum_by (cost_from case soonest) (ships_missing case.instance.now (is_in label.served.bits))
      → missing.triples ≡ triples_missing case.instance.now case.prices.now (label_of label).served → AreGains case (label_of label) gains → IsBoundAbove case label missing gains goal
      → EndsBelow case.instance.now (cuts_of case) goal (label_of label) → ⊥
  late_none soonest missing gains goal are soon ships triples gain above =
      soon-none case.instance.now (cuts_of case) (label_of label) case.prices.now (gain_in gains) (λ s. soon_at soonest s + (ship_at case.instance.now s).handling) goal
      (steady are) (soonest-is soonest soon) gain.each (omega (arith, above.high, ships, triples))
