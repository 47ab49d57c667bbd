-- A bound on the cost of every plan: no chamber ends more than so many ships by each minute.
use Rattle.std.specs.Prelude.{ℕ, zero, suc, ◌+◌, ◌-◌, List, [], ◌∷◌, ◌++◌, length, map, sum_by, sum, max, take, nat_le, if◌then◌else◌}
use Rattle.std.specs.List.{flat_map}
use Rattle.lock_model.specs.Fleet.{chamber_at}
use Rattle.lock_model.specs.declared.instance.Instance.{Instance}
use Rattle.lock_rules.specs.Arrival.{numbers_from}
use Rattle.lock_rules.specs.Bound.{least_number}

-- the least arrival of all ships
abbrev pub first_arrival : Instance → ℕ
first_arrival I = least_number (map (λ s. s.arrival) I.ships)

-- the same number n times
abbrev pub copies : ℕ → ℕ → List ℕ
copies zero x = []
copies (suc n) x = x ∷ copies n x

-- Before these minutes chamber c can't have ended its first `most` ships, the next `most`, and so on; n lockages.
abbrev pub places_from : ℕ → ℕ → ℕ → ℕ → List ℕ
places_from most pass start zero = []
places_from most pass start (suc n) = copies most (start + pass) ++ places_from most pass (start + pass) n

abbrev pub places_on : Instance → ℕ → List ℕ
places_on I c = places_from (chamber_at I c).most (chamber_at I c).pass (max (chamber_at I c).opens (first_arrival I)) (length I.ships)

abbrev pub insert_rising : ℕ → List ℕ → List ℕ
insert_rising n [] = n ∷ []
insert_rising n (m ∷ ms) = if nat_le n m then n ∷ m ∷ ms else (m ∷ insert_rising n ms)

abbrev pub sorted_numbers : List ℕ → List ℕ
sorted_numbers [] = []
sorted_numbers (n ∷ ns) = insert_rising n (sorted_numbers ns)

-- the sum of the n smallest
abbrev pub sum_of_least : ℕ → List ℕ → ℕ
sum_of_least n ns = sum (take n (sorted_numbers ns))

-- The smallest minutes of all chambers, one for each ship, and all handling times, minus all arrivals, or 0 where that is below 0.
abbrev pub throughput_of : Instance → ℕ
throughput_of I =
    sum_of_least (length I.ships) (flat_map (places_on I) (numbers_from 0 (length I.chambers)))
    + sum_by (λ s. s.handling) I.ships
    - sum_by (λ s. s.arrival) I.ships
