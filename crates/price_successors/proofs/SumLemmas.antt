-- A group's end and worth from sums: its count, handling, last arrival, arrivals and prices.
use Rattle.std.proofs.Common.{◌≡◌, ℕ, ◌+◌, ◌-◌, ◌*◌, ◌<◌, ◌≤◌, max, pos, ◌-ℤ◌, List, length, sum_by, ap, arith}
use Rattle.std.proofs.lemmas.Int.{ints}
use Rattle.std.proofs.lemmas.List.Elements.{All-weaker}
use Rattle.lock_model.specs.Fleet.{ship_at, chamber_at}
use Rattle.lock_model.specs.declared.instance.Instance.{Instance}
use Rattle.lock_model.specs.declared.group.Group.{Group}
use Rattle.lock_model.specs.declared.way.Stand.{Stand}
use Rattle.lock_rules.specs.Timetable.{first_free, ready_at, last_arrival, start_of}
use Rattle.lock_rules.specs.Lawful.{duration_of}
use Rattle.lock_rules.proofs.TimetableLemmas.{last_arrival-max, start_of-lawful}
use Rattle.price_rules.specs.Prices.{PriceList, paid_by, charged_by}
use Rattle.price_groups.specs.Worth.{end_after, worth_of}
use Rattle.price_successors.proofs.ServeLemmas.{flow-times}

module _ (I : Instance) where
  module _ (c : ℕ) (stand : Stand) (from : ℕ) (g : Group) where
    -- the start depends on the way, the last arrival and the duration alone
    pub start-sums : start_of I c stand from g ≡ first_free (chamber_at I c).closures (duration_of I c g.ships) (max (ready_at (chamber_at I c) stand from g.way) (last_arrival I 0 g.ships))
    start-sums = ap (first_free (chamber_at I c).closures (duration_of I c g.ships)) (last_arrival-max I (ready_at (chamber_at I c) stand from g.way) g.ships)

    -- the worth on the end, the count and two sums
    pub worth-sums : c < length I.chambers → (k : ℕ) (prices : PriceList)
        → worth_of I c k prices stand from g ≡ (pos (100 * (length g.ships * end_after I c stand from g) + charged_by prices g) -ℤ pos (paid_by I k prices g + 100 * sum_by (λ s. (ship_at I s).arrival) g.ships))
    worth-sums known k prices =
        let end = end_after I c stand from g in
        step (sum_by (λ s. end - (ship_at I s).arrival) g.ships) (sum_by (λ s. (ship_at I s).arrival) g.ships) (length g.ships * end) (charged_by prices g) (paid_by I k prices g)
        (flow-times I end g.ships (All-weaker (λ s. (ship_at I s).arrival ≤ start_of I c stand from g) (λ s. (ship_at I s).arrival ≤ end) (λ s h. omega (arith, h)) g.ships (start_of-lawful I c known stand from g).arrived))
      where
        step : (f a n e p : ℕ) → f + a ≡ n → (pos (100 * f + e) -ℤ pos p) ≡ (pos (100 * n + e) -ℤ pos (p + 100 * a))
        step f a n e p h = omega (arith, ints)
