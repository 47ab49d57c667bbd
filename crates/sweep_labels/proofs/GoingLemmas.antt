-- A label of the code that has gone on is one of the rules that has.
use Rattle.std.proofs.Common.{◌≡◌, ◌≢◌, ℕ, ◌+◌, ◌<◌, ◌≤◌, ◌||◌, max, cond, inl, inr, Bool, true, false, nat_eq, nat_lt, List, [], ◌∷◌, length, refl, sym, ap, ◌∙◌, subst, arith, slice_index_or, slice_set}
use Rattle.std.proofs.lemmas.Bool.Decides.{eqb_tells, Decides-ltb}
use Rattle.std.proofs.lemmas.List.{get_or-set_same, get_or-set_other}
use Rattle.lock_model.specs.Fleet.{chamber_at}
use Rattle.lock_model.specs.declared.limits.TheConstants.{SHIPS}
use Rattle.lock_model.specs.declared.instance.Instance.{Instance}
use Rattle.lock_model.specs.declared.group.Group.{Group}
use Rattle.lock_model.specs.declared.way.Way.{Way}
use Rattle.lock_model.specs.declared.way.Way.TheVariants.{Up, Down}
use Rattle.lock_rules.specs.Lawful.{stand_after}
use Rattle.lock_rules.specs.Timetable.{ready_at}
use Rattle.price_rules.specs.Prices.{PlainCut}
use Rattle.sweep_rules.specs.Label.{IsReadyFrom, IsFirstLabel, IsGoneOn, start_on, end_on}
use Rattle.sweep_labels.specs.declared.arrivals.Arrivals.{Arrivals}
use Rattle.sweep_labels.specs.declared.ready_times.ReadyTimes.{ReadyTimes}
use Rattle.sweep_labels.specs.declared.label.Label.{Label as CodeLabel}
use Rattle.sweep_labels.specs.declared.step.Step.{Step}
use Rattle.sweep_labels.specs.Ships.{is_in}
use Rattle.sweep_labels.specs.Labels.{ready_by, no_times, times_at, label_of}
use Rattle.sweep_labels.specs.Coming.{IsRaised, AreRaised, ArriveIn, AllArrive}
use Rattle.sweep_labels.specs.Steps.{IsStepBy, low_by, low_first, AllRaised}

-- ---- one chamber more
pub raised_none : (low : ℕ → Way → ℕ) (arrivals : List Arrivals) (bits : ℕ) (times : List ReadyTimes) → AllRaised low arrivals bits 0 times
raised_none low arrivals bits times = record { each = λ d e none. absurd (omega (arith, none)) }

pub raised_more : (low : ℕ → Way → ℕ) (arrivals : List Arrivals) (bits n : ℕ) (times : List ReadyTimes) (own : ReadyTimes) → n < length times
    → ((e : Arrivals) → AreRaised (slice_index_or arrivals n e) bits (low n) own) → AllRaised low arrivals bits n times → AllRaised low arrivals bits (n + 1) (slice_set times n own)
raised_more low arrivals bits n times own within here all = record {
  each = λ d e less. elim (eqb_tells d n) [
    | inl y ↦
        let same : own ≡ times_at (slice_set times n own) n = sym (get_or-set_same times n own no_times within) in
        subst (λ d. AreRaised (slice_index_or arrivals d e) bits (low d) (times_at (slice_set times n own) d)) (sym y.1)
        (subst (AreRaised (slice_index_or arrivals n e) bits (low n)) same (here e))
    | inr m ↦
        let same : times_at times d ≡ times_at (slice_set times n own) d = sym (get_or-set_other times n d own no_times m.1) in
        subst (AreRaised (slice_index_or arrivals d e) bits (low d)) same (all.each d e (before d m.1 less))
  ];
}
  where
    before : (d : ℕ) → d ≢ n → d < n + 1 → d < n
    before d other less = omega arith

-- ---- a chamber is the step's, a later one, or a sooner one
eq-test : (a b : ℕ) → a ≡ b → nat_eq a b ≡ true
eq-test a b same = elim (eqb_tells a b) [ inl y ↦ y.0 | inr m ↦ absurd (m.1 same) ]

ne-test : (a b : ℕ) → a ≢ b → nat_eq a b ≡ false
ne-test a b other = elim (eqb_tells a b) [ inl y ↦ absurd (other y.1) | inr m ↦ m.0 ]

not_less : (a b : ℕ) → b ≤ a → (t : Bool) → nat_lt a b ≡ t → nat_lt a b ≡ false
not_less a b less true is = absurd (omega (arith, less, (Decides-ltb a b).0 is))
not_less a b less false is = is

pub case-own : (d c own later sooner : ℕ) → d ≡ c → cond (nat_eq d c) own (cond (nat_lt c d) later sooner) ≡ own
case-own d c own later sooner same = ap {B = ℕ} (λ b. cond b own (cond (nat_lt c d) later sooner)) (eq-test d c same)

pub case-later : (d c own later sooner : ℕ) → c < d → cond (nat_eq d c) own (cond (nat_lt c d) later sooner) ≡ later
case-later d c own later sooner less =
    ap {B = ℕ} (λ b. cond b own (cond (nat_lt c d) later sooner)) (ne-test d c (λ same. absurd (omega (arith, less, same))))
    ∙ ap {B = ℕ} (λ b. cond b later sooner) ((Decides-ltb c d).1 less)

pub case-sooner : (d c own later sooner : ℕ) → d < c → cond (nat_eq d c) own (cond (nat_lt c d) later sooner) ≡ sooner
case-sooner d c own later sooner less =
    ap {B = ℕ} (λ b. cond b own (cond (nat_lt c d) later sooner)) (ne-test d c (λ same. absurd (omega (arith, less, same))))
    ∙ ap {B = ℕ} (λ b. cond b later sooner) (not_less c d (omega (arith, less)) (nat_lt c d) refl)

-- minutes that are raised from those of a step's own chamber, of a later one, or of a sooner one
module _ (I : Instance) (label : CodeLabel) (step : Step) (arrivals : Arrivals) (bits d : ℕ) (times : ReadyTimes) where
  same-low : (low : Way → ℕ) → ((way : Way) → low way ≡ low_by I label step d way) → AreRaised arrivals bits low times → AreRaised arrivals bits (low_by I label step d) times
  same-low low same raised = record {
    up = subst (λ n. IsRaised arrivals.up.items.items bits n times.up) (same Up) raised.up;
    down = subst (λ n. IsRaised arrivals.down.items.items bits n times.down) (same Down) raised.down;
  }

  pub low_own : d ≡ step.chamber → AreRaised arrivals bits (ready_at (chamber_at I d) (stand_after step.way) step.arc.end) times → AreRaised arrivals bits (low_by I label step d) times
  low_own same = same-low (ready_at (chamber_at I d) (stand_after step.way) step.arc.end) (λ way. sym (case-own d step.chamber (ready_at (chamber_at I d) (stand_after step.way) step.arc.end way) (max (ready_by (times_at label.ready d) way) step.arc.start) (max (ready_by (times_at label.ready d) way) (step.arc.start + 1)) same))

  pub low_later : step.chamber < d → AreRaised arrivals bits (λ way. max (ready_by (times_at label.ready d) way) step.arc.start) times → AreRaised arrivals bits (low_by I label step d) times
  low_later less = same-low (λ way. max (ready_by (times_at label.ready d) way) step.arc.start) (λ way. sym (case-later d step.chamber (ready_at (chamber_at I d) (stand_after step.way) step.arc.end way) (max (ready_by (times_at label.ready d) way) step.arc.start) (max (ready_by (times_at label.ready d) way) (step.arc.start + 1)) less))

  pub low_sooner : d < step.chamber → AreRaised arrivals bits (λ way. max (ready_by (times_at label.ready d) way) (step.arc.start + 1)) times → AreRaised arrivals bits (low_by I label step d) times
  low_sooner less = same-low (λ way. max (ready_by (times_at label.ready d) way) (step.arc.start + 1)) (λ way. sym (case-sooner d step.chamber (ready_at (chamber_at I d) (stand_after step.way) step.arc.end way) (max (ready_by (times_at label.ready d) way) step.arc.start) (max (ready_by (times_at label.ready d) way) (step.arc.start + 1)) less))

-- ---- from minutes that are raised to those of the rules
raised-ready : (I : Instance) (cuts : List PlainCut) (c : ℕ) (arrivals : Arrivals) (bits : ℕ) (low : Way → ℕ) (times : ReadyTimes) → length I.ships ≤ SHIPS → ArriveIn I cuts c arrivals → AreRaised arrivals bits low times
    → (way : Way) → IsReadyFrom I cuts (is_in bits) c way (low way) (ready_by times way)
raised-ready I cuts c arrivals bits low times few arrive raised Up = raised.up.from I cuts c Up few arrive.up
raised-ready I cuts c arrivals bits low times few arrive raised Down = raised.down.from I cuts c Down few arrive.down

module _ (I : Instance) (label : CodeLabel) (step : Step) (g : Group) (is : IsStepBy I (label_of label) g step) where
  own-low : (way : Way) → low_by I label step step.chamber way ≡ ready_at (chamber_at I step.chamber) (stand_after g.way) (end_on I (label_of label) step.chamber g) way
  own-low way =
      case-own step.chamber step.chamber (ready_at (chamber_at I step.chamber) (stand_after step.way) step.arc.end way) (max (ready_by (times_at label.ready step.chamber) way) step.arc.start) (max (ready_by (times_at label.ready step.chamber) way) (step.arc.start + 1)) refl
      ∙ (λ i. ready_at (chamber_at I step.chamber) (stand_after (is.way i)) (is.end i) way)

  later-low : (d : ℕ) → step.chamber < d → (way : Way) → low_by I label step d way ≡ max (ready_by (times_at label.ready d) way) (start_on I (label_of label) step.chamber g)
  later-low d after way =
      case-later d step.chamber (ready_at (chamber_at I d) (stand_after step.way) step.arc.end way) (max (ready_by (times_at label.ready d) way) step.arc.start) (max (ready_by (times_at label.ready d) way) (step.arc.start + 1)) after
      ∙ ap (max (ready_by (times_at label.ready d) way)) is.start

  sooner-low : (d : ℕ) → d < step.chamber → (way : Way) → low_by I label step d way ≡ max (ready_by (times_at label.ready d) way) (start_on I (label_of label) step.chamber g + 1)
  sooner-low d before way =
      case-sooner d step.chamber (ready_at (chamber_at I d) (stand_after step.way) step.arc.end way) (max (ready_by (times_at label.ready d) way) step.arc.start) (max (ready_by (times_at label.ready d) way) (step.arc.start + 1)) before
      ∙ ap (λ n. max (ready_by (times_at label.ready d) way) (n + 1)) is.start

-- the first of some chambers' arrivals
head_of : (arrivals : List Arrivals) → 0 < length arrivals → Arrivals
head_of [] some = absurd (omega (arith, some))
head_of (x ∷ xs) some = x

module _ (I : Instance) (cuts : List PlainCut) (arrivals : List Arrivals) (level : length arrivals ≡ length I.chambers) (arrive : AllArrive I cuts arrivals) where
  some : Arrivals
  some = head_of arrivals (omega (arith, level, I.limits.chamber_count.0))

  ready-at : (low : ℕ → Way → ℕ) (bits : ℕ) (times : List ReadyTimes) → AllRaised low arrivals bits (length I.chambers) times
      → (d : ℕ) → d < length I.chambers → (way : Way) → IsReadyFrom I cuts (is_in bits) d way (low d way) (ready_by (times_at times d) way)
  ready-at low bits times all d known way = raised-ready I cuts d (slice_index_or arrivals d some) bits (low d) (times_at times d) (omega (arith, I.limits.ship_count.1)) (arrive.each d some known) (all.each d some known) way

  -- A FIRST LABEL,
  pub first_is : (label : CodeLabel) → ((s : ℕ) → is_in label.served.bits s ≡ false) → label.flow ≡ 0 → AllRaised (low_first I) arrivals label.served.bits (length I.chambers) label.ready → IsFirstLabel I cuts (label_of label)
  first_is label nobody free all = record {
    served = λ s known. nobody s;
    ready = λ d known way. ready-at (low_first I) label.served.bits label.ready all d known way;
    flow = free;
  }

  -- AND ONE THAT HAS GONE ON.
  pub gone_is : (label next : CodeLabel) (step : Step) (g : Group) → step.chamber < length I.chambers → IsStepBy I (label_of label) g step → ((s : ℕ) → is_in next.served.bits s ≡ (is_in label.served.bits s || is_in step.arc.ships.bits s))
      → next.flow ≡ label.flow + step.arc.flow → AllRaised (low_by I label step) arrivals next.served.bits (length I.chambers) next.ready → IsGoneOn I cuts (label_of label) step.chamber g (label_of next)
  gone_is label next step g known is joined sum all =
      let raised = ready-at (low_by I label step) next.served.bits next.ready all in
      record {
        served = λ s there. joined s ∙ ap {B = Bool} (λ b. is_in label.served.bits s || b) (is.ships s there);
        own = λ way. subst (λ low. IsReadyFrom I cuts (is_in next.served.bits) step.chamber way low (ready_by (times_at next.ready step.chamber) way)) (own-low I label step g is way) (raised step.chamber known way);
        later = λ d after there way. subst (λ low. IsReadyFrom I cuts (is_in next.served.bits) d way low (ready_by (times_at next.ready d) way)) (later-low I label step g is d after way) (raised d there way);
        sooner = λ d before way. subst (λ low. IsReadyFrom I cuts (is_in next.served.bits) d way low (ready_by (times_at next.ready d) way)) (sooner-low I label step g is d before way) (raised d (omega (arith, before, known)) way);
        flow = sum ∙ ap (λ n. label.flow + n) is.flow;
      }
