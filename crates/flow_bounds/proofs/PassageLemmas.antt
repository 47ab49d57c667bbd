-- The passages from a chamber on, by that chamber.
use Rattle.std.proofs.Common.{ℕ, suc, sum_by, ◌≡◌, ◌≤◌, ◌<◌, ◌+◌, ◌-◌, ◌∙◌, ◌∷◌, [], length, map, filter, true, false, cond, ap, arith}
use Rattle.std.proofs.lemmas.List.Sums.{sum_by-cons}
use Rattle.list_laws.proofs.Lists.{filter-all}
use Rattle.lock_model.specs.declared.instance.Instance.{Instance}
use Rattle.lock_rules.specs.Arrival.{numbers_from}
use Rattle.lock_model.specs.Fleet.{ship_at, chamber_at}
use Rattle.lock_rules.specs.Children.{single}
use Rattle.lock_rules.proofs.TimetableLemmas.{start_of-lawful}
use Rattle.lock_rules.specs.Plan.{IsLegal, cost_of}
use Rattle.lock_model.specs.declared.plan.Plan.{Plan}
use Rattle.lock_rules.proofs.BoundLemmas.{kept-bound}
use Rattle.lock_rules.specs.Arrival.{order_of}
use Rattle.lock_rules.specs.Bound.{fits_alone, passage_on, least_passage}
use Rattle.flow_bounds.specs.Least.{first_end, passages_from}

-- the chambers from c on are c and those after it
pub numbers_from-step : (c n : ℕ) → c < n → numbers_from c (n - c) ≡ c ∷ numbers_from (c + 1) (n - (c + 1))
numbers_from-step c n less =
    let many : n - c ≡ suc (n - (c + 1)) = omega arith in
    let next : suc c ≡ c + 1 = omega arith in
    ap (numbers_from c) many ∙ (λ i. c ∷ numbers_from (next i) (n - (c + 1)))

-- a chamber that takes the ship adds its passage
pub passages_from-fit : (I : Instance) (s c : ℕ) → c < length I.chambers → fits_alone I s c ≡ true → passages_from I s c ≡ passage_on I s c ∷ passages_from I s (c + 1)
passages_from-fit I s c less fits =
    ap (λ cs. map (passage_on I s) (filter (fits_alone I s) cs)) (numbers_from-step c (length I.chambers) less)
    ∙ (λ i. map (passage_on I s) (cond (fits i) (c ∷ filter (fits_alone I s) (numbers_from (c + 1) (length I.chambers - (c + 1)))) (filter (fits_alone I s) (numbers_from (c + 1) (length I.chambers - (c + 1))))))

-- another one adds nothing
pub passages_from-other : (I : Instance) (s c : ℕ) → c < length I.chambers → fits_alone I s c ≡ false → passages_from I s c ≡ passages_from I s (c + 1)
passages_from-other I s c less fits =
    ap (λ cs. map (passage_on I s) (filter (fits_alone I s) cs)) (numbers_from-step c (length I.chambers) less)
    ∙ (λ i. map (passage_on I s) (cond (fits i) (c ∷ filter (fits_alone I s) (numbers_from (c + 1) (length I.chambers - (c + 1)))) (filter (fits_alone I s) (numbers_from (c + 1) (length I.chambers - (c + 1))))))

-- a ship ends no earlier than it arrives
pub ends_after_arrival : (I : Instance) (s c : ℕ) → c < length I.chambers → (ship_at I s).arrival ≤ first_end I s c
ends_after_arrival I s c known =
    let arrived = (start_of-lawful I c known (chamber_at I c).stands (chamber_at I c).opens (single (ship_at I s).way s)).arrived 0 0 (omega arith) in
    omega (arith, arrived)

-- its passage is what lies between
pub passage_is : (I : Instance) (s c : ℕ) → passage_on I s c ≡ first_end I s c - (ship_at I s).arrival
passage_is I s c = omega (arith, sum_by-cons (λ t. first_end I s c - (ship_at I t).arrival) s [])

-- NO LEGAL PLAN COSTS LESS THAN THE LEAST PASSAGES OF ITS SHIPS.
pub no_plan_costs_less : (I : Instance) (P : Plan) → IsLegal I P → sum_by (least_passage I) (order_of I) ≤ cost_of I P
no_plan_costs_less I P legal = omega (arith, kept-bound I (λ s. false) P legal, ap (sum_by (least_passage I)) (filter-all (order_of I)))
