-- Rising sets of ships, and their numbers.
use Rattle.std.proofs.Common.{◌≡◌, ℕ, zero, suc, ◌+◌, ◌^◌, ◌<◌, ◌≤◌, List, [], ◌∷◌, ◌++◌, length, take, get_or, All, ◌⊎◌, inl, inr, refl, ap, arith}
use Rattle.std.proofs.Math.Nat.{pow-suc}
use Rattle.std.proofs.lemmas.Bool.Decides.{eqb_tells}
use Rattle.std.proofs.lemmas.List.{get_or-take, length-take-le}
use Rattle.std.proofs.lemmas.List.Elements.{All-cons, All-from_get_or}
use Rattle.std.proofs.lemmas.List.Kept.{AllPairs-from_increasing}
use Rattle.std.specs.List.{AllByRecursion}
use Rattle.std.specs.List.Sorted.{IsStrictlyIncreasing}
use Rattle.lock_model.specs.Ships.{RisesFrom}
use Rattle.ship_shapes.specs.Lanes.{Passage, AreAllCrowded, along_of}
use Rattle.ship_shapes.specs.Jams.{number_of, AreBefore, along_before}

-- ship b is the last of these
pub record EndsIn (low b : ℕ) (S : List ℕ) : Type 0 where
  pub others : List ℕ
  pub joined : S ≡ others ++ b ∷ []
  pub rising : RisesFrom low others
  pub below : AllByRecursion (λ i. i < b) others

-- rising ships up to b leave b out or end in it
pub split-last : (low b : ℕ) (S : List ℕ) → RisesFrom low S → AllByRecursion (λ i. i < suc b) S → AllByRecursion (λ i. i < b) S ⊎ EndsIn low b S
split-last low b [] rising below = inl tt
split-last low b (x ∷ S) rising below =
    elim (eqb_tells x b) [
      | inl y ↦ inr (last x S y.1 rising below)
      | inr n ↦ let less : x < b = let differ = n.1 in omega (arith, below.0, differ) in put x S rising less (split-last (suc x) b S rising.1 below.1)
    ]
  where
    last : (x : ℕ) (S : List ℕ) → x ≡ b → RisesFrom low (x ∷ S) → AllByRecursion (λ i. i < suc b) (x ∷ S) → EndsIn low b (x ∷ S)
    last x [] e rising below = record { others = []; joined = ap (λ z. z ∷ []) e; rising = tt; below = tt }
    last x (y ∷ S) e rising below = absurd (omega (arith, e, rising.1.0, below.1.0))

    put : (x : ℕ) (S : List ℕ) → RisesFrom low (x ∷ S) → x < b → AllByRecursion (λ i. i < b) S ⊎ EndsIn (suc x) b S → AllByRecursion (λ i. i < b) (x ∷ S) ⊎ EndsIn low b (x ∷ S)
    put x S rising less (inl h) = inl (less, h)
    put x S rising less (inr h) = inr (record { others = x ∷ h.others; joined = ap (λ t. x ∷ t) h.joined; rising = (rising.0, h.rising); below = (less, h.below) })

pub number-append : (S T : List ℕ) → number_of (S ++ T) ≡ number_of S + number_of T
number-append [] T = omega arith
number-append (x ∷ S) T = omega (arith, number-append S T)

-- a set of ships before b has a number below 2 to the power b
pub number-less : (b low : ℕ) (S : List ℕ) → RisesFrom low S → AllByRecursion (λ i. i < b) S → number_of S < 2 ^ b
number-less zero low [] rising below = omega arith
number-less zero low (x ∷ S) rising below = absurd (omega (arith, below.0))
number-less (suc b) low S rising below =
    elim (split-last low b S rising below) [
      | inl h ↦ omega (arith, number-less b low S rising h, pow-suc 2 b)
      | inr h ↦ omega (arith, ap number_of h.joined, number-append h.others (b ∷ []), number-less b low h.others h.rising h.below, pow-suc 2 b)
    ]

pub along-append : (lane : Passage) (S T : List ℕ) → along_of lane (S ++ T) ≡ along_of lane S + along_of lane T
along-append lane [] T = omega arith
along-append lane (x ∷ S) T = omega (arith, along-append lane S T)

-- ships before b need no more than all of these
pub along-most : (lane : Passage) (b low : ℕ) (S : List ℕ) → RisesFrom low S → AllByRecursion (λ i. i < b) S → along_of lane S ≤ along_before lane b
along-most lane zero low [] rising below = omega arith
along-most lane zero low (x ∷ S) rising below = absurd (omega (arith, below.0))
along-most lane (suc b) low S rising below =
    elim (split-last low b S rising below) [
      | inl h ↦ omega (arith, along-most lane b low S rising h)
      | inr h ↦ omega (arith, ap (along_of lane) h.joined, along-append lane h.others (b ∷ []), along-most lane b low h.others h.rising h.below)
    ]

pub crowded-behind : (lane : Passage) (S T : List ℕ) → AreAllCrowded lane (S ++ T) → AreAllCrowded lane T
crowded-behind lane [] T h = h
crowded-behind lane (x ∷ S) T h = crowded-behind lane S T h.1

pub before-none : (S : List ℕ) → AreBefore 0 S → S ≡ []
before-none [] h = refl
before-none (x ∷ S) h = absurd (omega (arith, h.below.0))

-- rising ships below n from a number on are few
pub few-above : (n low : ℕ) (S : List ℕ) → low ≤ n → RisesFrom low S → AllByRecursion (λ i. i < n) S → low + length S ≤ n
few-above n low [] less rising below = omega arith
few-above n low (x ∷ S) less rising below = omega (arith, rising.0, few-above n (suc x) S (omega (arith, below.0)) rising.1 below.1)

-- a ship before others, and the first of these
pub first_rising : (ship i : ℕ) (T : List ℕ) → IsStrictlyIncreasing T → All (λ x. ship < x) T → i < length T → All (λ s. s < get_or T i 0) (ship ∷ take i T)
first_rising ship i T rising after here =
    let least : (k : ℕ) → k < length (take i T) → get_or (take i T) k 0 < get_or T i 0 = λ k known.
    let less : k < i = omega (arith, known, length-take-le i T (omega (arith, here))) in
    rw get_or-take (AllPairs-from_increasing T rising k i 0 less here) in
    All-cons (λ s. s < get_or T i 0) ship (take i T) (after i 0 here) (All-from_get_or (λ s. s < get_or T i 0) (take i T) 0 least)
