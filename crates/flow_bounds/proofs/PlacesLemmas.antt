-- The least of all minutes is the least of the chambers' next ones.
use Rattle.std.proofs.Common.{◌≡◌, ℕ, zero, suc, ◌+◌, ◌<◌, ◌≤◌, List, [], ◌∷◌, ◌++◌, length, All, sum, take, cond, refl, sym, ap, ◌∙◌, subst, arith, inl, inr, append_assoc, slice_index_or, slice_set}
use Rattle.std.proofs.lemmas.Bool.Decides.{leb_tells}
use Rattle.std.proofs.lemmas.List.{get_or_default}
use Rattle.std.proofs.lemmas.List.Elements.{All-head, All-tail, All-cons, All-nil, All-weaker, All-append}
use Rattle.std.specs.List.{flat_map}
use Rattle.std.proofs.lemmas.Grind.{flat_map-append}
use Rattle.lock_model.specs.declared.instance.Instance.{Instance}
use Rattle.lock_rules.specs.Arrival.{numbers_from}
use Rattle.lock_rules.proofs.LineLemmas.{numbers_more}
use Rattle.lock_rules.specs.Throughput.{copies, places_from, places_on, insert_rising, sorted_numbers, sum_of_least}
use Rattle.lock_rules.proofs.ThroughputLemmas.{sum-cons, All-insert_rising}
use Rattle.lock_rules.proofs.ChildLemmas.{All-flat_map}
use Rattle.flow_bounds.specs.declared.places.Places.{Places}
use Rattle.flow_bounds.specs.Places.{minutes_of, all_minutes, no_places, places_at, minute_at, IsEnough}

-- a least number goes to the front
insert-least : (x : ℕ) (ys : List ℕ) → All (λ y. x ≤ y) ys → insert_rising x ys ≡ x ∷ ys
insert-least x [] least = refl
insert-least x (y ∷ ys) least =
    elim (leb_tells x y) [
      | inl low ↦ ap (λ b. cond b (x ∷ y ∷ ys) (y ∷ insert_rising x ys)) low.0
      | inr high ↦ absurd (omega (arith, high.1, All-head (λ y. x ≤ y) y ys least))
    ]

-- and other numbers go behind it
insert-behind : (x y : ℕ) (ys : List ℕ) → x ≤ y → All (λ z. x ≤ z) ys → insert_rising y (x ∷ ys) ≡ x ∷ insert_rising y ys
insert-behind x y ys low least =
    elim (leb_tells y x) [
      | inl under ↦
          let same : y ≡ x = omega (arith, under.1) in
          ap (λ b. cond b (y ∷ x ∷ ys) (x ∷ insert_rising y ys)) under.0
          ∙ subst (λ y. y ∷ x ∷ ys ≡ x ∷ insert_rising y ys) (sym same) (ap (λ zs. x ∷ zs) (sym (insert-least x ys least)))
      | inr over ↦ ap (λ b. cond b (y ∷ x ∷ ys) (x ∷ insert_rising y ys)) over.0
    ]

All-sorted : (Q : ℕ → Type 0) (xs : List ℕ) → All Q xs → All Q (sorted_numbers xs)
All-sorted Q [] all = all
All-sorted Q (x ∷ xs) all = All-insert_rising Q x (sorted_numbers xs) (All-head Q x xs all) (All-sorted Q xs (All-tail Q x xs all))

All-without : (Q : ℕ → Type 0) (xs ys : List ℕ) (x : ℕ) → All Q (xs ++ x ∷ ys) → All Q (xs ++ ys)
All-without Q [] ys x all = All-tail Q x ys all
All-without Q (z ∷ xs) ys x all = All-cons Q z (xs ++ ys) (All-head Q z (xs ++ x ∷ ys) all) (All-without Q xs ys x (All-tail Q z (xs ++ x ∷ ys) all))

-- sorting begins with a least number, wherever it stands
pub sorted-least : (x : ℕ) (xs ys : List ℕ) → All (λ y. x ≤ y) (xs ++ x ∷ ys) → sorted_numbers (xs ++ x ∷ ys) ≡ x ∷ sorted_numbers (xs ++ ys)
sorted-least x [] ys least = insert-least x (sorted_numbers ys) (All-sorted (λ y. x ≤ y) ys (All-tail (λ y. x ≤ y) x ys least))
sorted-least x (z ∷ xs) ys least =
    let rest = All-tail (λ y. x ≤ y) z (xs ++ x ∷ ys) least in
    ap (insert_rising z) (sorted-least x xs ys rest)
    ∙ insert-behind x z (sorted_numbers (xs ++ ys)) (All-head (λ y. x ≤ y) z (xs ++ x ∷ ys) least) (All-sorted (λ y. x ≤ y) (xs ++ ys) (All-without (λ y. x ≤ y) xs ys x rest))

copies-late : (x n v : ℕ) → x ≤ v → All (λ y. x ≤ y) (copies n v)
copies-late x zero v late = All-nil (λ y. x ≤ y)
copies-late x (suc n) v late = All-cons (λ y. x ≤ y) v (copies n v) late (copies-late x n v late)

places-late : (x most pass low n : ℕ) → x ≤ low → All (λ y. x ≤ y) (places_from most pass low n)
places-late x most pass low zero late = All-nil (λ y. x ≤ y)
places-late x most pass low (suc n) late =
    All-append (λ y. x ≤ y) (copies most (low + pass)) (places_from most pass (low + pass) n)
    (copies-late x most (low + pass) (omega arith))
    (places-late x most pass (low + pass) n (omega arith))

minutes-late : (x : ℕ) (p : Places) → x ≤ p.minute → All (λ y. x ≤ y) (minutes_of p)
minutes-late x p late =
    All-append (λ y. x ≤ y) (copies p.left p.minute) (places_from p.most p.pass p.minute p.later)
    (copies-late x p.left p.minute late)
    (places-late x p.most p.pass p.minute p.later late)

-- where the next minute of a chamber stands among all
minute-parts : (x : ℕ) (ps : List Places) (i : ℕ) (d q : Places) → i < length ps → minutes_of (slice_index_or ps i d) ≡ x ∷ minutes_of q
    → (xs : List ℕ) × ((ys : List ℕ) × ((all_minutes ps ≡ xs ++ x ∷ ys) × (all_minutes (slice_set ps i q) ≡ xs ++ ys)))
minute-parts x [] i d q less first = absurd (omega arith)
minute-parts x (p ∷ ps) zero d q less first = ([], (minutes_of q ++ all_minutes ps, (ap (λ ms. ms ++ all_minutes ps) first, refl)))
minute-parts x (p ∷ ps) (suc i) d q less first =
    let rest = minute-parts x ps i d q (omega arith) first in
    let xs = rest.0 in
    let ys = rest.1.0 in
    let before = ap (λ ms. minutes_of p ++ ms) rest.1.1.0 ∙ sym (append_assoc (minutes_of p) xs (x ∷ ys)) in
    let after = ap (λ ms. minutes_of p ++ ms) rest.1.1.1 ∙ sym (append_assoc (minutes_of p) xs ys) in
    (minutes_of p ++ xs, (ys, (before, after)))

-- TAKING THE LEAST: it and the others' least sum to the least of all.
pub take-least : (ps : List Places) (i n m : ℕ) (q : Places) → i < length ps → m ≡ suc n → minutes_of (places_at ps i) ≡ minute_at ps i ∷ minutes_of q
    → ((k : ℕ) → k < length ps → minute_at ps i ≤ minute_at ps k)
    → sum_of_least m (all_minutes ps) ≡ minute_at ps i + sum_of_least n (all_minutes (slice_set ps i q))
take-least ps i n m q less count first least =
    let x = minute_at ps i in
    let late : All (λ r. x ≤ r.minute) ps = λ k d here. omega (arith, least k here, ap (λ r. r.minute) (get_or_default ps k d no_places here)) in
    let all = All-flat_map (λ y. x ≤ y) minutes_of ps (All-weaker (λ r. x ≤ r.minute) (λ r. All (λ y. x ≤ y) (minutes_of r)) (minutes-late x) ps late) in
    let parts = minute-parts x ps i no_places q less first in
    let xs = parts.0 in
    let ys = parts.1.0 in
    let sorted = sorted-least x xs ys (subst (All (λ y. x ≤ y)) parts.1.1.0 all) in
    ap (λ k. sum_of_least k (all_minutes ps)) count
    ∙ ap (λ ms. sum_of_least (suc n) ms) parts.1.1.0
    ∙ ap (λ ms. sum (take (suc n) ms)) sorted
    ∙ sum-cons x (take n (sorted_numbers (xs ++ ys)))
    ∙ ap (λ ms. x + sum_of_least n ms) (sym parts.1.1.1)

-- the minutes of one chamber more
pub places-more : (I : Instance) (ps : List Places) (p : Places) (k : ℕ) → all_minutes ps ≡ flat_map (places_on I) (numbers_from 0 k) → minutes_of p ≡ places_on I k
    → all_minutes (ps ++ p ∷ []) ≡ flat_map (places_on I) (numbers_from 0 (k + 1))
places-more I ps p k so_far own =
    let here : 0 + k ≡ k = omega arith in
    flat_map-append minutes_of ps (p ∷ [])
    ∙ (λ i. so_far i ++ (own i ++ []))
    ∙ ap (λ c. flat_map (places_on I) (numbers_from 0 k) ++ (places_on I c ++ [])) (sym here)
    ∙ sym (flat_map-append (places_on I) (numbers_from 0 k) ((0 + k) ∷ []))
    ∙ ap (flat_map (places_on I)) (sym (numbers_more 0 k))

-- what is enough for one minute more is enough
pub enough-less : (n : ℕ) (p : Places) → IsEnough (suc n) p → IsEnough n p
enough-less n p h = record { later = omega (arith, h.later); left = λ some. h.left (omega arith); most = h.most; pass = h.pass; minute = h.minute }
