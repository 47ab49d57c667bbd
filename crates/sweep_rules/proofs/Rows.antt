-- A worked sweep: what the laws ask is met here, and first come, first served is the swept cost.
use Rattle.std.proofs.Common.{◌≡◌, ◌≢◌, ℕ, zero, suc, ◌+◌, ◌*◌, ◌<◌, ◌≤◌, false, List, [], ◌∷◌, length, All, Contains, sum_by, refl, sym, ap, ◌∙◌, subst, arith}
use Rattle.std.proofs.lemmas.List.Elements.{All-head, All-tail, All-cons, All-nil}
use Rattle.lock_model.specs.Fleet.{ship_at, chamber_at}
use Rattle.lock_model.specs.declared.group.Group.{Group}
use Rattle.lock_model.specs.declared.way.Way.{Way}
use Rattle.lock_model.specs.declared.way.Way.TheVariants.{Up}
use Rattle.lock_model.specs.declared.way.Stand.{Stand}
use Rattle.lock_model.specs.declared.way.Stand.TheVariants.{Low, High}
use Rattle.lock_rules.specs.Lawful.{duration_of, stand_before, stand_after}
use Rattle.lock_rules.specs.Timetable.{ready_at, start_of, timetable_from}
use Rattle.lock_rules.specs.Children.{single}
use Rattle.lock_rules.specs.Node.{times_on}
use Rattle.lock_rules.specs.Bound.{flow_of}
use Rattle.lock_rules.proofs.NodeLemmas.{increasing-RisesFrom}
use Rattle.price_rules.specs.Prices.{PriceList, price_at, Spares, IsUncut, flow_over, paid_in}
use Rattle.sweep_rules.specs.Uncut.{IsUncutPlan, IsSwept, times_over}
use Rattle.sweep_rules.specs.Label.{Label, IsFirstLabel, CanGoOn, IsGoneOn, gone_on, end_on, flow_on}
use Rattle.sweep_rules.specs.Completion.{EndsBelow}
use Rattle.sweep_rules.specs.Dominance.{ServesFor}
use Rattle.sweep_rules.specs.Covering.{LabelsCover}
use Rattle.sweep_rules.specs.Gain.{IsGain, IsAbove}
use Rattle.sweep_rules.specs.Beginning.{LeadTo}
use Rattle.sweep_rules.specs.Treated.{IsTreated}
use Rattle.sweep_rules.proofs.DominanceLemmas.{serves-itself}
use Rattle.sweep_rules.proofs.TreatedLemmas.{met-served, met-dropped, treated-gone, treated-swept}
use Rattle.sweep_rules.proofs.SweptLemmas.{swept-stays}
use Rattle.sweep_rules.proofs.FirstLemmas.{starts_in, first-completion, first-cost}
use Rattle.sweep_rules.proofs.GoingLemmas.{gone_on-is}
use Rattle.sweep_rules.proofs.CoverLemmas.{cover-first}
use Rattle.sweep_rules.proofs.GainLemmas.{above-none, gain-ways, arc-none}
use Rattle.sweep_rules.proofs.BeginningLemmas.{no_lines, lead-first, lead-gone, with_last}
use Rattle.sweep_rules.proofs.RowLock.{row}

abbrev pub up : ℕ → Group
up s = single Up s

-- ---- first come, first served
abbrev pub in_order : ℕ → List Group
in_order c = up 0 ∷ up 1 ∷ up 2 ∷ []

single-uncut : (s : ℕ) → s < 3 → (ship_at row s).way ≡ Up → IsUncut row 0 [] (up s)
single-uncut s known way = record {
  good = record {
    rising = increasing-RisesFrom 0 (s ∷ []) (omega arith, tt);
    count = (omega arith, omega arith);
    way = All-cons (λ t. (ship_at row t).way ≡ Up) s [] way (All-nil (λ t. (ship_at row t).way ≡ Up));
  };
  known = All-cons (λ t. t < 3) s [] known (All-nil (λ t. t < 3));
  spared = All-nil (Spares row 0 (s ∷ []));
}

all-uncut : All (IsUncut row 0 []) (in_order 0)
all-uncut =
    All-cons (IsUncut row 0 []) (up 0) (up 1 ∷ up 2 ∷ []) (single-uncut 0 (omega arith) refl)
    (All-cons (IsUncut row 0 []) (up 1) (up 2 ∷ []) (single-uncut 1 (omega arith) refl) (All-cons (IsUncut row 0 []) (up 2) [] (single-uncut 2 (omega arith) refl) (All-nil (IsUncut row 0 []))))

in_order-plan : IsUncutPlan row [] in_order
in_order-plan = record { uncut = λ c known. only c known; once = λ s known. one s known }
  where
    only : (c : ℕ) → c < 1 → All (IsUncut row c []) (in_order c)
    only zero known = all-uncut
    only (suc c) known = absurd (omega (arith, known))

    one : (s : ℕ) → s < 3 → times_over row s in_order ≡ 1
    one zero known = refl
    one (suc zero) known = refl
    one (suc (suc zero)) known = refl
    one (suc (suc (suc s))) known = absurd (omega (arith, known))

-- 35, 85 - 10 and 135 - 20
in_order-cost : flow_over row in_order ≡ 225
in_order-cost = refl

-- ---- every uncut group of the row is one ship up
record IsOne (g : Group) : Type 0 where
  ship : ℕ
  known : ship < 3
  is : g ≡ up ship

all-up : (s : ℕ) → s < 3 → (ship_at row s).way ≡ Up
all-up zero known = refl
all-up (suc zero) known = refl
all-up (suc (suc zero)) known = refl
all-up (suc (suc (suc s))) known = absurd (omega (arith, known))

uncut-one : (g : Group) → IsUncut row 0 [] g → IsOne g
uncut-one g uncut = one g.way g.ships uncut.good.count.0 uncut.good.count.1 uncut.known uncut.good.way
  where
    one : (way : Way) (ss : List ℕ) → 1 ≤ length ss → length ss ≤ 1 → All (λ s. s < 3) ss → All (λ s. (ship_at row s).way ≡ way) ss → IsOne (record { way = way; ships = ss })
    one way [] some few known ways = absurd (omega (arith, some))
    one way (s ∷ t ∷ ss) some few known ways = absurd (omega (arith, few))
    one way (s ∷ []) some few known ways =
        let here : s < 3 = All-head (λ s. s < 3) s [] known in
        record { ship = s; known = here; is = ap (λ way. single way s) (sym (All-head (λ s. (ship_at row s).way ≡ way) s [] ways) ∙ all-up s here) }

-- the ends of n ships one after the other, added, where nobody has to be waited for
abbrev ends_from : Stand → ℕ → ℕ → ℕ
ends_from stand from zero = 0
ends_from Low from (suc n) = from + 35 + ends_from High (from + 35) n
ends_from High from (suc n) = from + 50 + ends_from High (from + 50) n

ends-later : (from later n : ℕ) → from ≤ later → ends_from High from n ≤ ends_from High later n
ends-later from later zero early = omega arith
ends-later from later (suc n) early = omega (arith, early, ends-later (from + 50) (later + 50) n (omega arith))

-- the arrivals of a line's ships, added
abbrev arrivals_on : List Group → ℕ
arrivals_on gs = 10 * times_on 1 gs + 20 * times_on 2 gs

abbrev AtLeast : Stand → ℕ → List Group → Type 0
AtLeast stand from gs = ends_from stand from (length gs) ≤ flow_of row gs (timetable_from row 0 stand from gs) + arrivals_on gs

-- the earliest end of a ship
abbrev end_one : Stand → ℕ → ℕ → ℕ
end_one stand from s = start_of row 0 stand from (up s) + duration_of row 0 (s ∷ [])

-- a ship before a line
flow-step : (stand : Stand) (from s : ℕ) (gs : List Group) → s < 3 → ((later : ℕ) → AtLeast High later gs) → AtLeast stand from (up s ∷ gs)
flow-step Low from zero gs known rest = omega (arith, rest (end_one Low from 0), ends-later (from + 35) (end_one Low from 0) (length gs) (omega arith))
flow-step Low from (suc zero) gs known rest = omega (arith, rest (end_one Low from 1), ends-later (from + 35) (end_one Low from 1) (length gs) (omega arith))
flow-step Low from (suc (suc zero)) gs known rest = omega (arith, rest (end_one Low from 2), ends-later (from + 35) (end_one Low from 2) (length gs) (omega arith))
flow-step High from zero gs known rest = omega (arith, rest (end_one High from 0), ends-later (from + 50) (end_one High from 0) (length gs) (omega arith))
flow-step High from (suc zero) gs known rest = omega (arith, rest (end_one High from 1), ends-later (from + 50) (end_one High from 1) (length gs) (omega arith))
flow-step High from (suc (suc zero)) gs known rest = omega (arith, rest (end_one High from 2), ends-later (from + 50) (end_one High from 2) (length gs) (omega arith))
flow-step stand from (suc (suc (suc s))) gs known rest = absurd (omega (arith, known))

flow-at_least : (stand : Stand) (from : ℕ) (gs : List Group) → All (IsUncut row 0 []) gs → AtLeast stand from gs
flow-at_least stand from [] all = omega arith
flow-at_least stand from (g ∷ gs) all =
    let one = uncut-one g (All-head (IsUncut row 0 []) g gs all) in
    subst (λ g. AtLeast stand from (g ∷ gs)) (sym one.is) (flow-step stand from one.ship gs one.known (λ later. flow-at_least High later gs (All-tail (IsUncut row 0 []) g gs all)))

-- a line is as long as it has ships
abbrev IsCounted : List Group → Type 0
IsCounted gs = length gs ≡ times_on 0 gs + times_on 1 gs + times_on 2 gs

count-step : (s : ℕ) (gs : List Group) → s < 3 → IsCounted gs → IsCounted (up s ∷ gs)
count-step zero gs known rest = omega (arith, rest)
count-step (suc zero) gs known rest = omega (arith, rest)
count-step (suc (suc zero)) gs known rest = omega (arith, rest)
count-step (suc (suc (suc s))) gs known rest = absurd (omega (arith, known))

line-count : (gs : List Group) → All (IsUncut row 0 []) gs → IsCounted gs
line-count [] all = refl
line-count (g ∷ gs) all =
    let one = uncut-one g (All-head (IsUncut row 0 []) g gs all) in
    subst (λ g. IsCounted (g ∷ gs)) (sym one.is) (count-step one.ship gs one.known (line-count gs (All-tail (IsUncut row 0 []) g gs all)))

-- THREE SHIPS OF ONE WAY, one at a time with equal handling: the cost of first come, first served is swept,
pub in_order-swept : IsSwept row [] 225
in_order-swept = record { least = λ lines plan. least (lines 0) (plan.uncut 0 (omega arith)) (λ s known. plan.once s known) }
  where
    long : (stand : Stand) (from : ℕ) (gs : List Group) → length gs ≡ 3 → ends_from stand from (length gs) ≡ ends_from stand from 3
    long stand from gs three = ap (ends_from stand from) three

    least : (gs : List Group) → All (IsUncut row 0 []) gs → ((s : ℕ) → s < 3 → times_over row s (λ c. gs) ≡ 1) → 225 ≤ flow_over row (λ c. gs)
    least gs all once =
        let none = once 0 (omega arith) in
        let one = once 1 (omega arith) in
        let two = once 2 (omega arith) in
        let three : length gs ≡ 3 = omega (arith, line-count gs all, none, one, two) in
        omega (arith, flow-at_least Low 0 gs all, long Low 0 gs three, one, two)

-- one less is swept too,
less-swept : IsSwept row [] 224
less-swept = swept-stays row [] [] (All-nil (Contains [])) 225 224 (omega arith) in_order-swept

-- and one more isn't.
more-not_swept : IsSwept row [] 226 → ⊥
more-not_swept swept = absurd (omega (arith, swept.least in_order in_order-plan))

-- ---- labels
-- the first label, with no minute raised to an arrival
abbrev first_row : Label
first_row = record { served = λ s. false; ready = λ c way. ready_at (chamber_at row c) (chamber_at row c).stands (chamber_at row c).opens way; flow = 0 }

first_row-is : IsFirstLabel row [] first_row
first_row-is = record {
  served = λ s known. refl;
  ready = λ c known way. record { after = λ s wanted. omega arith; before = λ s wanted. omega arith };
  flow = refl;
}

-- in_order is a completion of it, and with its 225 it ends below 226
first_row-ends : EndsBelow row [] 226 first_row
first_row-ends = record {
  lines = in_order;
  starts = starts_in row in_order;
  is = first-completion row [] first_row first_row-is in_order in_order-plan;
  below = omega (arith, first-cost row [] first_row first_row-is in_order in_order-plan);
}

-- it covers all uncut plans, and no label at all covers those below 225
first_row-covers : LabelsCover row [] 225 (first_row ∷ [])
first_row-covers = cover-first row [] 225 first_row first_row-is

none-cover : LabelsCover row [] 225 []
none-cover = record { some = λ lines plan total below high. absurd (omega (arith, below, high, in_order-swept.least lines plan)) }

-- it goes on by the first ship, from minute 0 to minute 35
goes-first : CanGoOn row [] first_row 0 (up 0)
goes-first = record { chamber = omega arith; uncut = single-uncut 0 (omega arith) refl; missing = All-cons (λ (s : ℕ). false ≡ false) 0 [] refl (All-nil (λ (s : ℕ). false ≡ false)) }

abbrev second_row : Label
second_row = gone_on row first_row 0 (up 0)

second_row-is : IsGoneOn row [] first_row 0 (up 0) second_row
second_row-is = gone_on-is row [] first_row 0 (up 0)

second_row-flow : second_row.flow ≡ 35
second_row-flow = refl

second_row-up : second_row.ready 0 Up ≡ 50
second_row-up = refl

-- the line of that ship leads to it
second_row-led : LeadTo row [] second_row (with_last no_lines 0 (up 0))
second_row-led = lead-gone row [] first_row second_row 0 (up 0) goes-first second_row-is no_lines (lead-first row [] first_row first_row-is)

-- it serves for a label of the same ship, which is ready a minute later and has a minute more of flow time
abbrev later_row : Label
later_row = record { served = second_row.served; ready = λ c way. second_row.ready c way + 1; flow = 36 }

second_row-serves : ServesFor row [] second_row later_row
second_row-serves = record { served = λ s known. refl; ready = λ c known way s wanted. omega arith; flow = omega arith }

-- ---- prices of 35 minutes: no line pays more than its flow time, so nothing ends below 105
abbrev row_prices : PriceList
row_prices = record { ships = 3500 ∷ 3500 ∷ 3500 ∷ []; triples = [] }

paid-step : (stand : Stand) (from s : ℕ) (gs : List Group) → s < 3 → ((later : ℕ) → paid_in row 0 row_prices gs ≤ 100 * flow_of row gs (timetable_from row 0 High later gs))
    → paid_in row 0 row_prices (up s ∷ gs) ≤ 100 * flow_of row (up s ∷ gs) (timetable_from row 0 stand from (up s ∷ gs))
paid-step Low from zero gs known rest = omega (arith, rest (end_one Low from 0))
paid-step Low from (suc zero) gs known rest = omega (arith, rest (end_one Low from 1))
paid-step Low from (suc (suc zero)) gs known rest = omega (arith, rest (end_one Low from 2))
paid-step High from zero gs known rest = omega (arith, rest (end_one High from 0))
paid-step High from (suc zero) gs known rest = omega (arith, rest (end_one High from 1))
paid-step High from (suc (suc zero)) gs known rest = omega (arith, rest (end_one High from 2))
paid-step stand from (suc (suc (suc s))) gs known rest = absurd (omega (arith, known))

paid-flow : (stand : Stand) (from : ℕ) (gs : List Group) → All (IsUncut row 0 []) gs → paid_in row 0 row_prices gs ≤ 100 * flow_of row gs (timetable_from row 0 stand from gs)
paid-flow stand from [] all = omega arith
paid-flow stand from (g ∷ gs) all =
    let one = uncut-one g (All-head (IsUncut row 0 []) g gs all) in
    subst (λ g. paid_in row 0 row_prices (g ∷ gs) ≤ 100 * flow_of row (g ∷ gs) (timetable_from row 0 stand from (g ∷ gs))) (sym one.is)
    (paid-step stand from one.ship gs one.known (λ later. paid-flow High later gs (All-tail (IsUncut row 0 []) g gs all)))

no-gain : IsGain row 0 [] first_row row_prices 0
no-gain = gain-ways row 0 [] first_row row_prices 0 (λ way. record { high = λ gs on. omega (arith, paid-flow (stand_before way) (first_row.ready 0 way) gs on.uncut) })

first_row-above : IsAbove row first_row row_prices (λ c. 0) 105
first_row-above = record { high = omega arith }

none-below : EndsBelow row [] 105 first_row → ⊥
none-below = above-none row [] first_row row_prices (λ c. 0) (λ c known. only c known) 105 first_row-above
  where
    only : (c : ℕ) → c < 1 → IsGain row c [] first_row row_prices 0
    only zero known = no-gain
    only (suc c) known = absurd (omega (arith, known))

-- ---- one chamber alone, so no other one has a gain
no-others : (d : ℕ) → d < 1 → d ≢ 0 → IsGain row d [] first_row row_prices 0
no-others zero known other = absurd (other refl)
no-others (suc d) known other = absurd (omega (arith, known))

-- the ship's own sum is above 105 already
first-arc : (s : ℕ) → s < 3 → 100 * 105 + 0 + 3500 < 100 * flow_on row first_row 0 (up s) + 10500 + 100
first-arc zero known = omega arith
first-arc (suc zero) known = omega arith
first-arc (suc (suc zero)) known = omega arith
first-arc (suc (suc (suc s))) known = absurd (omega (arith, known))

first-paid : (s : ℕ) → s < 3 → sum_by (price_at row_prices) (up s).ships ≡ 3500
first-paid zero known = refl
first-paid (suc zero) known = refl
first-paid (suc (suc zero)) known = refl
first-paid (suc (suc (suc s))) known = absurd (omega (arith, known))

-- so by no group it goes on to a label that ends below 105
arcs-none : (c : ℕ) (g : Group) → CanGoOn row [] first_row c g → EndsBelow row [] 105 (gone_on row first_row c g) → ⊥
arcs-none zero g can =
    let one = uncut-one g can.uncut in
    let above : 100 * 105 + 0 + sum_by (price_at row_prices) g.ships < 100 * flow_on row first_row 0 g + 10500 + 100 =
    subst (λ g. 100 * 105 + 0 + sum_by (price_at row_prices) g.ships < 100 * flow_on row first_row 0 g + 10500 + 100) (sym one.is) (omega (arith, first-arc one.ship one.known, first-paid one.ship one.known)) in
    arc-none row [] first_row (gone_on row first_row 0 g) 0 g can (gone_on-is row [] first_row 0 g) row_prices (λ c. 0) no-others
    (record { high = λ gs on. omega (arith, paid-flow (stand_after g.way) (end_on row first_row 0 g) gs on.uncut) }) 105 (omega (arith, above))
arcs-none (suc c) g can = absurd (omega (arith, can.chamber))

first_row-treated : IsTreated row [] 105 (first_row ∷ []) 0
first_row-treated =
    treated-gone row [] 105 (first_row ∷ []) 0 0 (omega arith) refl (λ c g can.
    (gone_on row first_row c g, gone_on-is row [] first_row c g, met-dropped row [] 105 (first_row ∷ []) (gone_on row first_row c g) (arcs-none c g can)))

-- the sweep of one label: 105 is swept
low-swept : IsSwept row [] 105
low-swept =
    treated-swept row [] 105 (first_row ∷ []) (λ k within. only k within) first_row first_row-is
    (met-served row [] 105 (first_row ∷ []) 0 (omega arith) first_row (serves-itself row [] first_row))
  where
    only : (k : ℕ) → k < 1 → IsTreated row [] 105 (first_row ∷ []) k
    only zero within = first_row-treated
    only (suc k) within = absurd (omega (arith, within))
