-- Missing ships alone that gain nothing.
use Rattle.std.proofs.Common.{◌≡◌, ℕ, ◌+◌, ◌*◌, ◌<◌, ◌≤◌, max, ℤ, pos, ◌-ℤ◌, ◌≤ℤ◌, None, List, length, ◌∙◌, arith}
use Rattle.std.proofs.lemmas.Int.{ints}
use Rattle.std.proofs.lemmas.Nat.{mul-le}
use Rattle.lock_model.specs.declared.instance.Instance.{Instance}
use Rattle.lock_model.specs.declared.way.Stand.{Stand}
use Rattle.lock_rules.specs.Timetable.{start_of}
use Rattle.lock_rules.proofs.TimetableLemmas.{start_of-lawful, last_arrival-least}
use Rattle.price_rules.specs.Prices.{PriceList, paid_by, charged_by}
use Rattle.price_successors.specs.declared.successor.Successor.{Successor}
use Rattle.price_groups.specs.Asks.{LineAsk}
use Rattle.price_groups.specs.Worth.{arrivals_of, end_after, worth_of}
use Rattle.price_successors.specs.Successors.{IsSuccessor}
use Rattle.price_successors.specs.Dominance.{soonest, IsGainless}
use Rattle.price_successors.proofs.SumLemmas.{worth-sums}
use Rattle.price_successors.proofs.SuccessorLemmas.{rates-sum}

module _ (L : LineAsk) (known : L.chamber < length L.instance.chambers) where
  abbrev I : Instance
  I = L.instance

  abbrev c : ℕ
  c = L.chamber

  abbrev k : ℕ
  k = L.depth

  abbrev prices : PriceList
  prices = L.prices

  -- From the minute on a successor ends no sooner than its last ship, or the minute, and its duration.
  pub end-soonest : (late : ℕ) (h : Successor) → IsSuccessor L h → (stand : Stand) (from : ℕ) → late ≤ from → max late h.last + h.duration ≤ end_after I c stand from h.group
  end-soonest late h is stand from past =
      let lawful = start_of-lawful I c known stand from h.group in
      let last = last_arrival-least I 0 (start_of I c stand from h.group) h.group.ships (omega arith) lawful.arrived in
      omega (arith, past, last, lawful.later, is.sums.last, is.sums.duration)

  -- Where missing ships alone pay no more than what they are worth by then, they gain nothing.
  pub vain-successor : (late : ℕ) (h : Successor) → IsSuccessor L h → h.joins ≡ None → (soonest : ℕ) → soonest ≤ max late h.last + h.duration → h.pays ≤ 100 * (length h.group.ships * soonest) + h.charged → IsGainless L late h.joins h.group
  vain-successor late h is alone soonest bound little = record {
    alone = alone;
    gainless = λ stand from past.
        step (worth_of I c k prices stand from h.group) (length h.group.ships * end_after I c stand from h.group) (length h.group.ships * soonest) h.pays (paid_by I k prices h.group + 100 * arrivals_of I h.group.ships) h.charged (charged_by prices h.group)
        (worth-sums I c stand from h.group known k prices) (is.sums.pays ∙ rates-sum L h.group.ships) is.sums.charged little
        (mul-le (length h.group.ships) soonest (length h.group.ships) (end_after I c stand from h.group) (omega arith) (omega (arith, bound, end-soonest late h is stand from past)));
  }
    where
      step : (w : ℤ) (m n p q d f : ℕ) → w ≡ (pos (100 * m + f) -ℤ pos q) → p ≡ q → d ≡ f → p ≤ 100 * n + d → n ≤ m → pos 0 ≤ℤ w
      step w m n p q d f e same charged h j = omega (arith, ints)
