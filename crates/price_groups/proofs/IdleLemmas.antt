-- Ships of which one gains nothing: the others serve as well.
use Rattle.std.proofs.Common.{◌≡◌, ℕ, suc, ◌+◌, ◌*◌, ◌≤◌, Bool, true, false, cond, nat_lt, List, [], ◌∷◌, length, filter, Contains, sum_by, sym, ap, ◌∙◌, subst, arith}
use Rattle.std.proofs.lemmas.List.Sums.{sum_by-cons}
use Rattle.std.proofs.lemmas.List.Elements.{All-contains, All-filter, Contains-get_or}
use Rattle.list_laws.proofs.Counts.{filter-shorter}
use Rattle.lock_model.specs.Fleet.{ship_at}
use Rattle.lock_model.specs.declared.instance.Instance.{Instance}
use Rattle.lock_model.specs.declared.group.Group.{Group}
use Rattle.lock_rules.specs.Children.{insert_number}
use Rattle.lock_rules.specs.Timetable.{last_arrival}
use Rattle.lock_rules.proofs.TimetableLemmas.{last_arrival-least, last_arrival-each}
use Rattle.lock_rules.proofs.TraceLemmas.{sum_by-filter}
use Rattle.lock_rules.proofs.TreeLemmas.{length-insert_number}
use Rattle.price_rules.specs.Prices.{PriceList, charged_on}
use Rattle.price_rules.proofs.ChargeLemmas.{charged-filter}
use Rattle.price_groups.specs.Growing.{HasIdler}
use Rattle.price_groups.specs.Worth.{paid_on, arrivals_of, soonest_of, ServeFrom}

module _ (I : Instance) where
  -- fewer ships arrive no later
  last-fewer : (p : ℕ → Bool) (ships : List ℕ) → last_arrival I 0 (filter p ships) ≤ last_arrival I 0 ships
  last-fewer p ships =
      last_arrival-least I 0 (last_arrival I 0 ships) (filter p ships) (omega arith) (All-filter p (λ s. (ship_at I s).arrival ≤ last_arrival I 0 ships) ships (last_arrival-each I 0 ships))

  -- and can end no later
  soonest-fewer : (c : ℕ) (p : ℕ → Bool) (ships : List ℕ) → soonest_of I c 0 (filter p ships) ≤ soonest_of I c 0 ships
  soonest-fewer c p ships = omega (arith, last-fewer p ships, sum_by-filter (λ s. (ship_at I s).handling) p ships)

  -- a ship that gains nothing among fewer ships gains nothing among all
  pub idler-more : (c k : ℕ) (prices : PriceList) (p : ℕ → Bool) (g : Group) → HasIdler I c k prices (record { way = g.way; ships = filter p g.ships }) → HasIdler I c k prices g
  idler-more c k prices p g idler = record {
    several = omega (arith, idler.several, filter-shorter p g.ships);
    ship = idler.ship;
    held = All-contains (Contains g.ships) (filter p g.ships) idler.ship (All-filter p (Contains g.ships) g.ships (λ j d here. Contains-get_or g.ships j d here)) idler.held;
    missing = idler.missing;
    idle = omega (arith, idler.idle, soonest-fewer c p g.ships);
  }

  -- THE OTHERS SERVE AS WELL as ships of which one counts no more than their soonest end.
  pub fewer-serve : (c k : ℕ) (prices : PriceList) (p : ℕ → Bool) (s rate : ℕ) (ships : List ℕ) → insert_number s (filter p ships) ≡ ships
      → paid_on I k prices ships + 100 * arrivals_of I ships ≡ rate + (paid_on I k prices (filter p ships) + 100 * arrivals_of I (filter p ships)) → rate ≤ 100 * soonest_of I c 0 ships
      → ServeFrom I c k prices 0 (filter p ships) ships
  fewer-serve c k prices p s rate ships again sums idle = record {
    count = filter-shorter p ships;
    early = omega (arith, last-fewer p ships);
    quick = sum_by-filter (λ s. (ship_at I s).handling) p ships;
    pays =
        let more : length ships ≡ suc (length (filter p ships)) = ap length (sym again) ∙ length-insert_number s (filter p ships) in
        subst (λ n. paid_on I k prices ships + charged_on prices (filter p ships) + 100 * arrivals_of I ships + 100 * (length (filter p ships) * soonest_of I c 0 ships) ≤ paid_on I k prices (filter p ships) + charged_on prices ships + 100 * arrivals_of I (filter p ships) + 100 * (n * soonest_of I c 0 ships)) (sym more)
        (step (length (filter p ships)) (soonest_of I c 0 ships) rate (paid_on I k prices ships) (100 * arrivals_of I ships) (paid_on I k prices (filter p ships)) (100 * arrivals_of I (filter p ships)) (charged_on prices (filter p ships)) (charged_on prices ships)
        sums idle (charged-filter prices p ships));
  }
    where
      step : (n e r x a y b few all : ℕ) → x + a ≡ r + (y + b) → r ≤ 100 * e → few ≤ all → x + few + a + 100 * (n * e) ≤ y + all + b + 100 * (suc n * e)
      step n e r x a y b few all sum idle less = omega (arith, sum, idle, less)

-- a sum with a number more
pub sum-insert : (f : ℕ → ℕ) (s : ℕ) (xs : List ℕ) → sum_by f (insert_number s xs) ≡ f s + sum_by f xs
sum-insert f s [] = sum_by-cons f s []
sum-insert f s (x ∷ xs) =
    elim (nat_lt s x) as (λ b. sum_by f (cond b (s ∷ x ∷ xs) (x ∷ insert_number s xs)) ≡ f s + sum_by f (x ∷ xs)) [
      | true ↦ sum_by-cons f s (x ∷ xs)
      | false ↦ omega (arith, sum_by-cons f x xs, sum_by-cons f x (insert_number s xs), sum-insert f s xs)
    ]
