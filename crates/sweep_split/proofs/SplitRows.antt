-- A worked split: three ships of one chamber, of which the last is late.
use Rattle.std.proofs.Common.{◌≡◌, ℕ, zero, suc, ◌+◌, ◌-◌, ◌<◌, ◌≤◌, max, not, nat_eq, Bool, true, false, List, [], ◌∷◌, All, sum_by, if◌then◌else◌, inl, inr, refl, arith}
use Rattle.std.proofs.lemmas.Bool.Decides.{eqb_tells, leb_tells}
use Rattle.std.proofs.lemmas.List.Elements.{All-cons, All-nil}
use Rattle.std.proofs.lemmas.List.Sums.{sum_by-cons}
use Rattle.lock_model.specs.Fleet.{ship_at, chamber_at}
use Rattle.lock_model.specs.declared.group.Group.{Group}
use Rattle.lock_model.specs.declared.way.Way.{Way}
use Rattle.lock_model.specs.declared.way.Way.TheVariants.{Up, Down}
use Rattle.lock_model.specs.declared.way.Stand.{Stand}
use Rattle.lock_rules.specs.Lawful.{AreLawfulFrom, duration_of, stand_before, stand_after}
use Rattle.lock_rules.specs.Timetable.{ready_at}
use Rattle.lock_rules.specs.Plan.{times_in}
use Rattle.lock_rules.specs.Node.{times_on}
use Rattle.lock_rules.proofs.NodeLemmas.{increasing-RisesFrom}
use Rattle.lock_rules.proofs.SplitLemmas.{All-times}
use Rattle.lock_rules.proofs.TreeLemmas.{times_in-miss}
use Rattle.price_rules.specs.Prices.{Spares, IsUncut}
use Rattle.sweep_rules.specs.Uncut.{IsUncutPlan, times_over}
use Rattle.sweep_rules.specs.Label.{Label, IsFirstLabel, IsReadyFrom}
use Rattle.sweep_rules.specs.Completion.{AreLawfulAfter, EndsBelow, flow_starting, flow_completed}
use Rattle.sweep_rules.proofs.FirstLemmas.{starts_in, first-completion, first-cost}
use Rattle.sweep_rules.proofs.RowLock.{row}
use Rattle.sweep_rules.proofs.Rows.{up, in_order}
use Rattle.sweep_split.specs.Split.{early_label, late_label, other_way, IsSteady, IsNoSooner, MissesAll, IsLateLabel, HasLateCost}
use Rattle.sweep_split.proofs.KeptLemmas.{starts_after, after-lawful}
use Rattle.sweep_split.proofs.SplitLemmas.{split-ends}

-- the third ship is late
abbrev late : ℕ → Bool
late s = nat_eq s 2

-- the minutes at which the chambers open
abbrev opens : ℕ → Way → ℕ
opens c way = ready_at (chamber_at row c) (chamber_at row c).stands (chamber_at row c).opens way

-- the label that serves nobody
abbrev nobody : Label
nobody = record { served = λ s. false; ready = opens; flow = 0 }

-- ---- it may be split: up from minute 0, down from minute 15, and a lockage takes 30 at least
nobody-steady : IsSteady row [] nobody
nobody-steady = record { soon = λ c known way s wanted. only c known way (ship_at row s).arrival }
  where
    only : (c : ℕ) → c < 1 → (way : Way) (arrival : ℕ) → opens c way ≤ max (opens c (other_way way) + (chamber_at row c).pass) arrival
    only zero known Up arrival = omega arith
    only zero known Down arrival = omega arith
    only (suc c) known way arrival = absurd (omega (arith, known))

nobody-no_sooner : IsNoSooner row [] opens nobody
nobody-no_sooner = record { later = λ c known way s wanted. omega arith }

nobody-misses : MissesAll row late nobody
nobody-misses = record { missing = λ s known is. refl }

-- ---- the late ship arrives at minute 20, and takes 35: its late cost
sum-some : (f : ℕ → ℕ) (s : ℕ) (ss : List ℕ) → 1 ≤ times_in ss s → f s ≤ sum_by f ss
sum-some f s [] some = absurd (omega arith)
sum-some f s (t ∷ ss) some =
    elim (eqb_tells t s) [
      | inl same ↦ (let here : f t ≡ f s = λ i. f (same.1 i) in omega (arith, here, sum_by-cons f t ss))
      | inr other ↦ omega (arith, sum-some f s ss (omega (arith, some, times_in-miss s t ss other.0)), sum_by-cons f t ss)
    ]

late-line : (stand : Stand) (from : ℕ) (gs : List Group) (ts : List ℕ) → AreLawfulFrom row 0 stand from gs ts → 1 ≤ times_on 2 gs → 35 ≤ flow_starting row 0 gs ts
late-line stand from [] ts lawful some = absurd (omega arith)
late-line stand from (g ∷ gs) [] lawful some = absurd lawful
late-line stand from (g ∷ gs) (t ∷ ts) lawful some =
    elim (leb_tells 1 (times_in g.ships 2)) [
      | inl here ↦
          let arrived : 20 ≤ t = All-times (λ s. (ship_at row s).arrival ≤ t) 2 g.ships lawful.0.arrived here.1 in
          let handled = sum-some (λ s. (ship_at row s).handling) 2 g.ships here.1 in
          omega (arith, arrived, handled, sum-some (λ s. t + duration_of row 0 g.ships - (ship_at row s).arrival) 2 g.ships here.1)
      | inr none ↦ omega (arith, late-line (stand_after g.way) (t + duration_of row 0 g.ships) gs ts lawful.1 (omega (arith, some, none.1)))
    ]

late-after : (ready : Way → ℕ) (gs : List Group) (ts : List ℕ) → AreLawfulAfter row 0 ready gs ts → 1 ≤ times_on 2 gs → 35 ≤ flow_starting row 0 gs ts
late-after ready [] ts lawful some = absurd (omega arith)
late-after ready (g ∷ gs) ts lawful some = late-line (stand_before g.way) (ready g.way) (g ∷ gs) ts lawful some

late-cost : HasLateCost row [] late opens 35
late-cost = record {
  low = λ ends.
      let once : times_over row 2 ends.lines ≡ 1 = ends.is.once 2 (omega arith) in
      absurd (omega (arith, ends.below, late-after (opens 0) (ends.lines 0) (ends.starts 0) (ends.is.lawful 0 (omega arith)) (omega (arith, once))));
}

-- ---- first come, first served completes it at 225 minutes: 35, 85 - 10 and 135 - 20
single-uncut : (s : ℕ) → s < 3 → (ship_at row s).way ≡ Up → IsUncut row 0 [] (up s)
single-uncut s known way = record {
  good = record {
    rising = increasing-RisesFrom 0 (s ∷ []) (omega arith, tt);
    count = (omega arith, omega arith);
    way = All-cons (λ t. (ship_at row t).way ≡ Up) s [] way (All-nil (λ t. (ship_at row t).way ≡ Up));
  };
  known = All-cons (λ t. t < 3) s [] known (All-nil (λ t. t < 3));
  spared = All-nil (Spares row 0 (s ∷ []));
}

third-uncut : All (IsUncut row 0 []) (up 2 ∷ [])
third-uncut = All-cons (IsUncut row 0 []) (up 2) [] (single-uncut 2 (omega arith) refl) (All-nil (IsUncut row 0 []))

in_order-plan : IsUncutPlan row [] in_order
in_order-plan = record { uncut = λ c known. only c known; once = λ s known. one s known }
  where
    only : (c : ℕ) → c < 1 → All (IsUncut row c []) (in_order c)
    only zero known =
        All-cons (IsUncut row 0 []) (up 0) (up 1 ∷ up 2 ∷ []) (single-uncut 0 (omega arith) refl)
        (All-cons (IsUncut row 0 []) (up 1) (up 2 ∷ []) (single-uncut 1 (omega arith) refl) third-uncut)
    only (suc c) known = absurd (omega (arith, known))

    one : (s : ℕ) → s < 3 → times_over row s in_order ≡ 1
    one zero known = refl
    one (suc zero) known = refl
    one (suc (suc zero)) known = refl
    one (suc (suc (suc s))) known = absurd (omega (arith, known))

nobody-first : IsFirstLabel row [] nobody
nobody-first = record {
  served = λ s known. refl;
  ready = λ c known way. record { after = λ s wanted. omega arith; before = λ s wanted. omega arith };
  flow = refl;
}

nobody-ends : EndsBelow row [] 226 nobody
nobody-ends = record {
  lines = in_order;
  starts = starts_in row in_order;
  is = first-completion row [] nobody nobody-first in_order in_order-plan;
  below = omega (arith, first-cost row [] nobody nobody-first in_order in_order-plan);
}

-- SO ITS EARLY LABEL, of the first two ships, ends below 226 - 35.
early-ends : EndsBelow row [] 191 (early_label nobody late)
early-ends = split-ends row [] nobody late opens 226 35 nobody-steady nobody-no_sooner nobody-misses late-cost nobody-ends

-- ---- 36 isn't a late cost
abbrev alone : ℕ → List Group
alone c = up 2 ∷ []

alone-flow : flow_completed row alone (starts_after row opens alone) ≡ 35
alone-flow = refl

late-ends : EndsBelow row [] 36 (late_label late opens)
late-ends = record {
  lines = alone;
  starts = starts_after row opens alone;
  is = record { uncut = λ c known. only c known; lawful = λ c known. after-lawful row c known (opens c) (up 2 ∷ []); once = λ s known. one s known };
  below = omega (arith, alone-flow);
}
  where
    only : (c : ℕ) → c < 1 → All (IsUncut row c []) (alone c)
    only zero known = third-uncut
    only (suc c) known = absurd (omega (arith, known))

    one : (s : ℕ) → s < 3 → times_over row s alone ≡ (if not (late s) then 0 else 1)
    one zero known = refl
    one (suc zero) known = refl
    one (suc (suc zero)) known = refl
    one (suc (suc (suc s))) known = absurd (omega (arith, known))

late-not_more : HasLateCost row [] late opens 36 → ⊥
late-not_more cost = cost.low late-ends

-- ---- minutes raised to the late ship's arrival
abbrev arrival_of_late : ℕ → Way → ℕ
arrival_of_late c way = 20

late-ready : (c : ℕ) → c < 1 → (way : Way) → IsReadyFrom row [] (λ s. not (late s)) c way (opens c way) (arrival_of_late c way)
late-ready c known way = record {
  after = λ s wanted. early c known way;
  before = λ s wanted. third s wanted.known wanted.missing (opens c way);
}
  where
    early : (c : ℕ) → c < 1 → (way : Way) → opens c way ≤ 20
    early zero known Up = omega arith
    early zero known Down = omega arith
    early (suc c) known way = absurd (omega (arith, known))

    differ : true ≡ false → ⊥
    differ e = cc

    third : (s : ℕ) → s < 3 → not (late s) ≡ false → (low : ℕ) → 20 ≤ max low (ship_at row s).arrival
    third zero known missing low = absurd (differ missing)
    third (suc zero) known missing low = absurd (differ missing)
    third (suc (suc zero)) known missing low = omega arith
    third (suc (suc (suc s))) known missing low = absurd (omega (arith, known))

-- a sweep of the late ship may begin there
begins-late : IsLateLabel row [] late opens (late_label late arrival_of_late)
begins-late = record { served = λ s known. refl; ready = late-ready; flow = refl }
