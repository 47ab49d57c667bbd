-- The turn law: a deck has fewer cases than the law allows, so it is never hard for so many turns.
use Rattle.std.proofs.Common.{◌≡◌, ℕ, zero, suc, ◌+◌, ◌-◌, ◌*◌, ◌/◌, ◌^◌, ◌<◌, ◌≤◌, List, [], ◌∷◌, ◌++◌, length, map, filter, flat_map, cond, not, inl, inr, refl, sym, ap, ◌∙◌, subst, arith, Bool, nat_eq, length-append}
use Rattle.std.specs.List.{AllByRecursion}
use Rattle.std.proofs.Math.Nat.{pow-zero, pow-suc, mul-le-mul, mul-le-mul_left, mul-div_cancel_left}
use Rattle.std.proofs.lemmas.Nat.{pow-add}
use Rattle.std.proofs.lemmas.Bool.Decides.{eqb_tells}
use Rattle.std.proofs.lemmas.List.{length-map, map-append}
use Rattle.list_laws.proofs.Counts.{filter-shorter}
use Rattle.list_laws.proofs.ByRecursion.{all-append}
use Rattle.lock_model.specs.Deck.{Deck}
use Rattle.lock_model.specs.declared.placement.Rank.TheVariants.{Left, Right}
use Rattle.lock_model.specs.declared.placement.Moor.TheVariants.{Ship}
use Rattle.lock_rules.specs.Arrival.{numbers_from}
use Rattle.lock_rules.specs.Size.{turn_limit}
use Rattle.lock_rules.proofs.LineLemmas.{length-numbers}
use Rattle.refute_rules.specs.Values.{others}
use Rattle.refute_rules.specs.declared.choices.Berth.{Berth}
use Rattle.refute_rules.specs.declared.choices.Decision.{Decision}
use Rattle.refute_rules.specs.declared.choices.Decision.TheVariants.{BerthOf, PairOf}
use Rattle.refute_rules.specs.declared.choices.Choice.{Choice}
use Rattle.refute_rules.specs.declared.choices.Choice.TheVariants.{Lies}
use Rattle.refute_rules.specs.Choices.{options_of, berths_of, decisions}
use Rattle.refute_rules.specs.Listing.{cases_from, AreThose}
use Rattle.refute_rules.specs.Cases.{IsConsistent, IsHard, cases_of}

-- ---- cases by the numbers of options

-- how many options each decision has
abbrev widths_of : Deck → List Decision → List ℕ
widths_of d ds = map (λ x. length (options_of d x)) ds

-- how many cases there are, and how many of them are whole
abbrev all_cases : List ℕ → ℕ
all_cases [] = 1
all_cases (w ∷ ws) = 1 + w * all_cases ws

abbrev whole_cases : List ℕ → ℕ
whole_cases [] = 1
whole_cases (w ∷ ws) = w * whole_cases ws

length-flat : {X Y : Type 0} (f : X → List Y) (n : ℕ) → ((x : X) → length (f x) ≡ n) → (xs : List X) → length (flat_map f xs) ≡ length xs * n
length-flat f n each [] = omega arith
length-flat f n each (x ∷ xs) = omega (arith, length-append (f x) (flat_map f xs), each x, length-flat f n each xs)

length-cases : (d : Deck) (ds : List Decision) (case : List Choice) → length (cases_from (options_of d) ds case) ≡ all_cases (widths_of d ds)
length-cases d [] case = refl
length-cases d (next ∷ left) case =
    let each = length-flat (λ choice. cases_from (options_of d) left (case ++ choice ∷ [])) (all_cases (widths_of d left)) (λ choice. length-cases d left (case ++ choice ∷ [])) (options_of d next) in
    omega (arith, each)

-- where each decision has two options at least, the shorter cases are fewer than the whole ones
cases-few : (ws : List ℕ) → AllByRecursion (λ w. 2 ≤ w) ws → all_cases ws + 1 ≤ 2 * whole_cases ws
cases-few [] some = omega arith
cases-few (w ∷ ws) some =
    let rest = cases-few ws some.1 in
    let more : w * (all_cases ws + 1) ≤ w * (2 * whole_cases ws) = mul-le-mul_left w rest in
    omega (arith, more, some.0)

whole-append : (xs ys : List ℕ) → whole_cases (xs ++ ys) ≡ whole_cases xs * whole_cases ys
whole-append [] ys = omega arith
whole-append (x ∷ xs) ys = let rest = whole-append xs ys in let more = ap (λ n. x * n) rest in omega (arith, more)

-- ---- the numbers of options

-- one of n ships has n - 1 others
others-few : (i low n : ℕ) → low ≤ i → i < low + n → length (filter (λ k. not (nat_eq k i)) (numbers_from low n)) + 1 ≤ n
others-few i low zero from to = absurd (omega (arith, from, to))
others-few i low (suc n) from to =
    let rest : List ℕ = numbers_from (suc low) n in
    let test : ℕ → Bool = λ k. not (nat_eq k i) in
    elim (eqb_tells low i) [
      | inl y ↦ let skip = ap (λ t. length (cond (not t) (low ∷ filter test rest) (filter test rest))) y.0 in omega (arith, skip, filter-shorter test rest, length-numbers (suc low) n)
      | inr m ↦
          let keep = ap (λ t. length (cond (not t) (low ∷ filter test rest) (filter test rest))) m.0 in
          let later = others-few i (suc low) n (omega (arith, from, m.1)) (omega (arith, to)) in
          omega (arith, keep, later)
    ]

-- a ship has two berths at its quays, and two at each other ship
berths-few : (n i : ℕ) → i < n → length (berths_of n i) ≤ 2 * n
berths-few n i less =
    let each = length-flat {Y = Berth} (λ k. record { rank = Left; moor = Ship k } ∷ record { rank = Right; moor = Ship k } ∷ []) 2 (λ k. refl) (others n i) in
    omega (arith, each, others-few i 0 n (omega arith) (omega (arith, less)))

pairs-whole : (d : Deck) (n : ℕ) (ns : List ℕ) → whole_cases (widths_of d (map (λ i. PairOf i n) ns)) ≡ 4 ^ length ns
pairs-whole d n [] = refl
pairs-whole d n (i ∷ ns) = omega (arith, pairs-whole d n ns, pow-suc 4 (length ns))

-- the numbers of options of the decisions that bring ship n
abbrev widths_at : Deck → ℕ → List ℕ
widths_at d n = widths_of d (BerthOf n ∷ map (λ i. PairOf i n) (numbers_from 0 n))

widths-suc : (d : Deck) (n : ℕ) → widths_of d (decisions (suc n)) ≡ widths_of d (decisions n) ++ widths_at d n
widths-suc d n = map-append (λ x. length (options_of d x)) (decisions n) (BerthOf n ∷ map (λ i. PairOf i n) (numbers_from 0 n))

-- 0 + 1 + .. + (n - 1)
abbrev pub pairs_below : ℕ → ℕ
pairs_below zero = 0
pairs_below (suc n) = pairs_below n + n

berths-width : (d : Deck) (n : ℕ) → length (options_of d (BerthOf n)) ≡ length (berths_of (length d.ships) n)
berths-width d n = length-map (berths_of (length d.ships) n) (Lies n)

widths-few : (d : Deck) (n : ℕ) → n ≤ length d.ships → whole_cases (widths_of d (decisions n)) ≤ (2 * length d.ships) ^ n * 4 ^ pairs_below n
widths-few d zero room = omega (arith, ap (λ k. k * 4 ^ 0) (pow-zero (2 * length d.ships)))
widths-few d (suc n) room =
    let many = 2 * length d.ships in
    let old = widths-few d n (omega (arith, room)) in
    let here : whole_cases (widths_at d n) ≤ many * 4 ^ n = mul-le-mul (omega (arith, berths-width d n, berths-few (length d.ships) n room)) (omega (arith, pairs-whole d n (numbers_from 0 n), ap (λ k. 4 ^ k) (length-numbers 0 n))) in
    let both : whole_cases (widths_of d (decisions n)) * whole_cases (widths_at d n) ≤ (many ^ n * 4 ^ pairs_below n) * (many * 4 ^ n) = mul-le-mul old here in
    let whole = ap whole_cases (widths-suc d n) ∙ whole-append (widths_of d (decisions n)) (widths_at d n) in
    let right : many ^ suc n * 4 ^ pairs_below (suc n) ≡ (many ^ n * 4 ^ pairs_below n) * (many * 4 ^ n) = ap (λ k. k * 4 ^ pairs_below (suc n)) (pow-suc many n) ∙ ap (λ k. (many ^ n * many) * k) (pow-add 4 (pairs_below n) n) ∙ omega arith in
    omega (arith, both, whole, right)

-- every decision has two options at least
pairs-two : (d : Deck) (n : ℕ) (ns : List ℕ) → AllByRecursion (λ w. 2 ≤ w) (widths_of d (map (λ i. PairOf i n) ns))
pairs-two d n [] = tt
pairs-two d n (i ∷ ns) = (omega arith, pairs-two d n ns)

widths-two : (d : Deck) (n : ℕ) → AllByRecursion (λ w. 2 ≤ w) (widths_of d (decisions n))
widths-two d zero = tt
widths-two d (suc n) =
    let here : 2 ≤ length (options_of d (BerthOf n)) = omega (arith, berths-width d n) in
    subst (AllByRecursion (λ w. 2 ≤ w)) (sym (widths-suc d n)) (all-append (λ w. 2 ≤ w) (widths_of d (decisions n)) (widths_at d n) (widths-two d n) (here, pairs-two d n (numbers_from 0 n)))

-- ---- the law

pairs-twice : (n : ℕ) → n * (n - 1) ≡ 2 * pairs_below n
pairs-twice zero = refl
pairs-twice (suc zero) = refl
pairs-twice (suc (suc n)) =
    let rest = pairs-twice (suc n) in
    let one_less : suc n - 1 ≡ n = omega arith in
    let more : suc (suc n) - 1 ≡ suc n = omega arith in
    omega (arith, rest, ap (λ k. suc n * k) one_less, ap (λ k. suc (suc n) * k) more)

pub pairs-half : (n : ℕ) → n * (n - 1) / 2 ≡ pairs_below n
pairs-half n = ap (λ k. k / 2) (pairs-twice n) ∙ mul-div_cancel_left (pairs_below n) (omega arith)

-- a deck has fewer cases than the law allows
pub all-cases-few : (d : Deck) → length (cases_of d) < turn_limit (length d.ships)
all-cases-few d =
    let n = length d.ships in
    let few = cases-few (widths_of d (decisions n)) (widths-two d n) in
    let law = ap (λ k. 2 * (2 * n) ^ n * 4 ^ k) (pairs-half n) in
    omega (arith, few, length-cases d (decisions n) [], widths-few d n (omega arith), law)

those-few : {X : Type 0} (P : X → Type 0) (xs ys : List X) → AreThose P xs ys → length ys ≤ length xs
those-few P [] ys h = omega (arith, ap length h)
those-few P (x ∷ xs) [] h = omega arith
those-few P (x ∷ xs) (y ∷ ys) (inl h) = omega (arith, those-few P xs ys h.2)
those-few P (x ∷ xs) (y ∷ ys) (inr h) = let rest = those-few P xs (y ∷ ys) h.1 in omega (arith, rest)

-- THE TURN LAW: a deck is hard for fewer turns than the law allows.
pub hard-few : (d : Deck) (t : ℕ) → IsHard d t → t < turn_limit (length d.ships)
hard-few d t hard =
    let more = hard.more in
    omega (arith, all-cases-few d, those-few (IsConsistent d) more.begun more.found more.those, more.count, length-append more.begun more.left, ap length more.split)
