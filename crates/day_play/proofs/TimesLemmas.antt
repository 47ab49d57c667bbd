-- How often a number stands in a list: rising numbers once, and lists in order by their counts.
use Rattle.std.proofs.Common.{◌≡◌, ◌≢◌, ℕ, zero, suc, ◌+◌, ◌<◌, ◌≤◌, List, [], ◌∷◌, length, cond, nat_eq, eq-eqb, inl, inr, refl, ap, sym, subst, ◌∙◌, arith, slice_index_or, AllPairs}
use Rattle.std.specs.List.Sorted.{IsStrictlyIncreasing}
use Rattle.std.proofs.lemmas.Bool.Decides.{eqb_tells, leb_tells}
use Rattle.std.proofs.lemmas.List.Kept.{AllPairs-from_increasing}
use Rattle.lock_model.specs.Ships.{RisesFrom}
use Rattle.lock_model.specs.declared.plan.Lockage.{Lockage}
use Rattle.lock_rules.proofs.AmongLemmas.{among-times_in}
use Rattle.lock_rules.specs.Plan.{times_in, served_in}
use Rattle.lock_rules.specs.Lines.{no_lockage}
use Rattle.lock_rules.proofs.CountLemmas.{without, times_in-without}
use Rattle.lock_rules.proofs.SplitLemmas.{RisesFrom-increasing}
use Rattle.lock_rules.proofs.TreeLemmas.{times_in-hit, times_in-miss}
use Rattle.day_play.specs.Order.{IsOrdered}
use Rattle.list_laws.specs.Among.{IsAmong}
use Rattle.day_play.proofs.OrderLemmas.{ordered-above}

pub times_in-own : (x : ℕ) (xs : List ℕ) → times_in (x ∷ xs) x ≡ 1 + times_in xs x
times_in-own x xs = times_in-hit x x xs (eq-eqb x x refl)

pub times_in-among : (xs : List ℕ) (x : ℕ) → IsAmong xs x → 1 ≤ times_in xs x
times_in-among [] x h = absurd h
times_in-among (y ∷ ys) x (inl e) = subst (λ x. 1 ≤ times_in (y ∷ ys) x) e (omega (arith, times_in-own y ys))
times_in-among (y ∷ ys) x (inr h) = more (cond (nat_eq y x) 1 0) (times_in ys x) (times_in-among ys x h)
  where
    more : (a b : ℕ) → 1 ≤ b → 1 ≤ a + b
    more a b h = omega (arith, h)

pub times_in-absent : (xs : List ℕ) (x : ℕ) → (IsAmong xs x → ⊥) → times_in xs x ≡ 0
times_in-absent [] x h = refl
times_in-absent (y ∷ ys) x h =
    elim (eqb_tells y x) [
      | inl same ↦ absurd (h (inl same.1))
      | inr other ↦ omega (arith, times_in-miss x y ys other.0, times_in-absent ys x (λ among. h (inr among)))
    ]

rises-below : (low : ℕ) (xs : List ℕ) (x : ℕ) → RisesFrom low xs → x < low → times_in xs x ≡ 0
rises-below low [] x h less = refl
rises-below low (y ∷ ys) x h less =
    elim (eqb_tells y x) [
      | inl same ↦ absurd (omega (arith, same.1, h.0, less))
      | inr other ↦ omega (arith, times_in-miss x y ys other.0, rises-below (suc y) ys x h.1 (omega (arith, h.0, less)))
    ]

rises-once : (low : ℕ) (xs : List ℕ) (x : ℕ) → RisesFrom low xs → times_in xs x ≤ 1
rises-once low [] x h = omega arith
rises-once low (y ∷ ys) x h =
    elim (eqb_tells y x) [
      | inl same ↦ omega (arith, times_in-hit x y ys same.0, rises-below (suc y) ys x h.1 (omega (arith, same.1)))
      | inr other ↦ omega (arith, times_in-miss x y ys other.0, rises-once (suc y) ys x h.1)
    ]

-- rising numbers stand once each
pub increasing-once : (xs : List ℕ) (x : ℕ) → IsStrictlyIncreasing xs → times_in xs x ≤ 1
increasing-once xs x rising = rises-once 0 xs x (RisesFrom-increasing xs rising)

pub increasing-place : (xs : List ℕ) (k j : ℕ) → IsStrictlyIncreasing xs → k < length xs → j < length xs → slice_index_or xs k 0 ≡ slice_index_or xs j 0 → k ≡ j
increasing-place xs k j rising within inside same =
    let pairs : AllPairs (λ x y. x < y) xs = AllPairs-from_increasing xs rising in
    elim (leb_tells (suc k) j) [
      | inl less ↦ absurd (omega (arith, same, pairs k j 0 less.1 inside))
      | inr more ↦ elim (leb_tells (suc j) k) [
        | inl less ↦ absurd (omega (arith, same, pairs j k 0 less.1 within))
        | inr least ↦ omega (arith, more.1, least.1)
      ]
    ]

length-without : (x : ℕ) (ys : List ℕ) → 1 ≤ times_in ys x → length ys ≡ suc (length (without x ys))
length-without x [] h = absurd (omega (arith, h))
length-without x (y ∷ ys) h =
    elim (eqb_tells y x) [
      | inl same ↦ ap (λ b. suc (length (cond b ys (y ∷ without x ys)))) (sym same.0)
      | inr other ↦ ap suc (length-without x ys (omega (arith, h, times_in-miss x y ys other.0))) ∙ ap (λ b. suc (length (cond b ys (y ∷ without x ys)))) (sym other.0)
    ]

-- a list that holds no number more often than another is no longer
pub length-counts : (xs ys : List ℕ) → ((x : ℕ) → times_in xs x ≤ times_in ys x) → length xs ≤ length ys
length-counts [] ys few = omega arith
length-counts (x ∷ xs) ys few =
    let some : 1 ≤ times_in ys x = omega (arith, few x, times_in-own x xs) in
    let rest = length-counts xs (without x ys) (λ s. less (cond (nat_eq x s) 1 0) (times_in xs s) (times_in ys s) (times_in (without x ys) s) (few s) (times_in-without x s ys some)) in
    omega (arith, rest, length-without x ys some)
  where
    less : (a b c d : ℕ) → a + b ≤ c → c ≡ a + d → b ≤ d
    less a b c d h e = omega (arith, h, e)

-- so many numbers that differ are no more than those among which they are
pub length-among : (xs ys : List ℕ) → IsStrictlyIncreasing xs → ((x : ℕ) → IsAmong xs x → IsAmong ys x) → length xs ≤ length ys
length-among xs ys rising among = length-counts xs ys few
  where
    few : (x : ℕ) → times_in xs x ≤ times_in ys x
    few x =
        elim (leb_tells 1 (times_in xs x)) [
          | inl some ↦ omega (arith, increasing-once xs x rising, times_in-among ys x (among x (among-times_in xs x some.1)))
          | inr none ↦ omega (arith, none.1)
        ]

-- each key is below all later ones
abbrev pub IsRising : (ℕ → ℕ) → List ℕ → Type 0
IsRising key [] = Unit {0}
IsRising key (x ∷ xs) = ((y : ℕ) → IsAmong xs y → key x < key y) × IsRising key xs

-- TWO LISTS IN ORDER that hold each number equally often are the same where the keys of one rise.
pub ordered-same : (key : ℕ → ℕ) (low : ℕ) (xs ys : List ℕ) → IsOrdered key low xs → IsRising key ys → ((x : ℕ) → times_in xs x ≡ times_in ys x) → xs ≡ ys
ordered-same key low [] [] order rising same = refl
ordered-same key low [] (y ∷ ys) order rising same = absurd (omega (arith, same y, times_in-own y ys))
ordered-same key low (x ∷ xs) [] order rising same = absurd (omega (arith, same x, times_in-own x xs))
ordered-same key low (x ∷ xs) (y ∷ ys) order rising same =
    elim (eqb_tells x y) [
      | inl here ↦
          let rest = ordered-same key (key x) xs ys order.1 rising.1 (λ s. drop_head (cond (nat_eq x s) 1 0) (times_in xs s) (times_in ys s) (same s ∙ ap (λ x. cond (nat_eq x s) 1 0 + times_in ys s) (sym here.1))) in
          ap (λ x. x ∷ xs) here.1 ∙ ap (λ rest. y ∷ rest) rest
      | inr other ↦ absurd (apart other.1)
    ]
  where
    drop_head : (a b c : ℕ) → a + b ≡ a + c → b ≡ c
    drop_head a b c e = omega (arith, e)

    apart : x ≢ y → ⊥
    apart other =
        let later : key y < key x = elim (among-times_in (y ∷ ys) x (omega (arith, same x, times_in-own x xs))) [
          | inl e ↦ absurd (other (sym e))
          | inr among ↦ rising.0 x among
        ] in
        let sooner : key x ≤ key y = elim (among-times_in (x ∷ xs) y (omega (arith, same y, times_in-own y ys))) [
          | inl e ↦ absurd (other e)
          | inr among ↦ ordered-above key (key x) xs y order.1 among
        ] in
        absurd (omega (arith, later, sooner))

-- how many of some lockages serve a ship that only one of them has
module _ (s : ℕ) where
  served_in-none : (ls : List Lockage) → ((p : ℕ) → p < length ls → times_in (slice_index_or ls p no_lockage).ships s ≡ 0) → served_in ls s ≡ 0
  served_in-none [] none = refl
  served_in-none (l ∷ ls) none =
      let here : times_in l.ships s ≡ 0 = none 0 (omega arith) in
      omega (arith, here, served_in-none ls (λ p within. none (suc p) (omega (arith, within))))

  pub served_in-one : (ls : List Lockage) (q : ℕ) → q < length ls
      → ((p : ℕ) → p < length ls → times_in (slice_index_or ls p no_lockage).ships s ≤ 1)
      → 1 ≤ times_in (slice_index_or ls q no_lockage).ships s
      → ((p : ℕ) → p < length ls → 1 ≤ times_in (slice_index_or ls p no_lockage).ships s → p ≡ q)
      → served_in ls s ≡ 1
  served_in-one [] q within few some only = absurd (omega (arith, within))
  served_in-one (l ∷ ls) zero within few some only =
      let here : times_in l.ships s ≤ 1 = few 0 (omega arith) in
      omega (arith, here, some, served_in-none ls (λ p inside. none p inside))
    where
      none : (p : ℕ) → p < length ls → times_in (slice_index_or ls p no_lockage).ships s ≡ 0
      none p inside =
          elim (leb_tells 1 (times_in (slice_index_or ls p no_lockage).ships s)) [
            | inl held ↦ absurd (omega (arith, only (suc p) (omega (arith, inside)) held.1))
            | inr empty ↦ omega (arith, empty.1)
          ]
  served_in-one (l ∷ ls) (suc q) within few some only =
      let rest = served_in-one ls q (omega (arith, within)) (λ p inside. few (suc p) (omega (arith, inside))) some (λ p inside held. omega (arith, only (suc p) (omega (arith, inside)) held)) in
      elim (leb_tells 1 (times_in l.ships s)) [
        | inl held ↦ absurd (omega (arith, only 0 (omega arith) held.1))
        | inr empty ↦ omega (arith, empty.1, rest)
      ]
