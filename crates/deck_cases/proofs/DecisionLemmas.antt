-- The lists of decisions as they grow.
use Rattle.std.proofs.Common.{◌≡◌, ℕ, zero, suc, ◌+◌, ◌*◌, ◌<◌, ◌≤◌, List, [], ◌∷◌, ◌++◌, length, map, flat_map, get_or, refl, sym, ap, ◌∙◌, subst, arith}
use Rattle.std.proofs.lemmas.List.{append_assoc, map-append, length-append, length-map}
use Rattle.std.proofs.lemmas.Grind.{flat_map-append}
use Rattle.std.proofs.lemmas.Nat.{mul-le}
use Rattle.std.proofs.lemmas.List.Elements.{All-from_recursion}
use Rattle.std.specs.List.{AllByRecursion}
use Rattle.lock_model.specs.declared.limits.TheConstants.{DECISIONS, MOST}
use Rattle.list_laws.proofs.ByRecursion.{all-append}
use Rattle.lock_model.specs.Deck.{Deck}
use Rattle.lock_rules.specs.Arrival.{numbers_from}
use Rattle.lock_rules.proofs.LineLemmas.{length-numbers, numbers_more}
use Rattle.refute_rules.specs.declared.choices.Decision.{Decision}
use Rattle.refute_rules.specs.declared.choices.Decision.TheVariants.{BerthOf, PairOf, XOf}
use Rattle.refute_rules.specs.Choices.{decisions, spot_decisions}
use Rattle.refute_rules.specs.Values.{spot_values}
use Rattle.refute_rules.proofs.Among.{all-map, all-flat_map, all-weaker, all-numbers}
use Rattle.deck_cases.specs.Asked.{IsAsked}

numbers-next : (n : ℕ) → numbers_from 0 (n + 1) ≡ numbers_from 0 n ++ n ∷ []
numbers-next n = let e : 0 + n ≡ n = omega arith in numbers_more 0 n ∙ ap (λ k. numbers_from 0 n ++ k ∷ []) e

-- a ship's berth, and its pairs with the first of the lower ships
abbrev pub pairs_upto : ℕ → ℕ → List Decision
pairs_upto ship other = decisions ship ++ BerthOf ship ∷ map (λ i. PairOf i ship) (numbers_from 0 other)

pub pairs_begun : (ds : List Decision) (ship : ℕ) → ds ≡ decisions ship → ds ++ BerthOf ship ∷ [] ≡ pairs_upto ship 0
pairs_begun ds ship e = ap (λ u. u ++ BerthOf ship ∷ []) e

pub pairs_more : (ds : List Decision) (ship other : ℕ) → ds ≡ pairs_upto ship other → ds ++ PairOf other ship ∷ [] ≡ pairs_upto ship (other + 1)
pairs_more ds ship other e =
    let f : ℕ → Decision = λ i. PairOf i ship in
    ap (λ u. u ++ PairOf other ship ∷ []) e
    ∙ append_assoc (decisions ship) (BerthOf ship ∷ map f (numbers_from 0 other)) (PairOf other ship ∷ [])
    ∙ ap (λ u. decisions ship ++ BerthOf ship ∷ u) (sym (map-append f (numbers_from 0 other) (other ∷ [])))
    ∙ ap (λ u. decisions ship ++ BerthOf ship ∷ map f u) (sym (numbers-next other))

pub pairs_whole : (ship : ℕ) → pairs_upto ship ship ≡ decisions (ship + 1)
pairs_whole ship = let e : suc ship ≡ ship + 1 = omega arith in ap decisions e

upto-length : (ship other : ℕ) → length (pairs_upto ship other) ≡ length (decisions ship) + 1 + other
upto-length ship other =
    omega (arith, length-append (decisions ship) (BerthOf ship ∷ map (λ i. PairOf i ship) (numbers_from 0 other)), length-map (numbers_from 0 other) (λ i. PairOf i ship), length-numbers 0 other)

twice : (n : ℕ) → 2 * length (decisions n) ≡ n * (n + 1)
twice zero = refl
twice (suc n) = omega (arith, twice n, upto-length n n)

-- there is room for the decisions of eight ships
pub pairs_room : (ds : List Decision) (ship other : ℕ) → ds ≡ pairs_upto ship other → ship < MOST → other < ship → length ds < DECISIONS
pairs_room ds ship other e less in_range =
    omega (arith, ap length e, upto-length ship other, twice ship, mul-le ship (ship + 1) 7 8 (omega arith) (omega arith))

pub berth_room : (ds : List Decision) (ship : ℕ) → ds ≡ decisions ship → ship < MOST → length ds < DECISIONS
berth_room ds ship e less = omega (arith, ap length e, twice ship, mul-le ship (ship + 1) 7 8 (omega arith) (omega arith))

abbrev spot_pair : ℕ → List Decision
spot_pair i = BerthOf i ∷ XOf i ∷ []

pub spots_more : (ds : List Decision) (ship : ℕ) → ds ≡ spot_decisions ship → (ds ++ BerthOf ship ∷ []) ++ XOf ship ∷ [] ≡ spot_decisions (ship + 1)
spots_more ds ship e =
    ap (λ u. (u ++ BerthOf ship ∷ []) ++ XOf ship ∷ []) e
    ∙ append_assoc (spot_decisions ship) (BerthOf ship ∷ []) (XOf ship ∷ [])
    ∙ sym (ap (flat_map spot_pair) (numbers-next ship) ∙ flat_map-append spot_pair (numbers_from 0 ship) (ship ∷ []))

spots-length : (low n : ℕ) → length (flat_map spot_pair (numbers_from low n)) ≡ 2 * n
spots-length low zero = refl
spots-length low (suc n) = omega (arith, spots-length (suc low) n)

pub spots_room : (ds : List Decision) (ship : ℕ) → ds ≡ spot_decisions ship → ship < MOST → length ds < 16
spots_room ds ship e less = omega (arith, ap length e, spots-length 0 ship)

-- the decisions are about ships of the deck, and there are few of them
module _ (d : Deck) (values : List ℕ) where
  abbrev AreAsked : List Decision → Type 0
  AreAsked list = AllByRecursion (IsAsked d values) list

  pairs-asked : (m : ℕ) → m < length d.ships → AreAsked (map (λ i. PairOf i m) (numbers_from 0 m))
  pairs-asked m known =
      all-map (IsAsked d values) (λ i. PairOf i m) (numbers_from 0 m)
      (all-weaker (λ k. (0 ≤ k) × (k < 0 + m)) (λ k. IsAsked d values (PairOf k m)) (λ k h. let less = h.1 in record { asked = (omega (arith, less, known), known, omega (arith, less)) }) (numbers_from 0 m) (all-numbers 0 m))

  cases-asked : (m : ℕ) → m ≤ length d.ships → AreAsked (decisions m)
  cases-asked zero h = tt
  cases-asked (suc m) h =
      let known : m < length d.ships = omega (arith, h) in
      all-append (IsAsked d values) (decisions m) (BerthOf m ∷ map (λ i. PairOf i m) (numbers_from 0 m)) (cases-asked m (omega (arith, h))) (record { asked = known }, pairs-asked m known)

  spots-asked : values ≡ spot_values d → AreAsked (spot_decisions (length d.ships))
  spots-asked e =
      all-flat_map (IsAsked d values) spot_pair (numbers_from 0 (length d.ships))
      (all-weaker (λ k. (0 ≤ k) × (k < 0 + length d.ships)) (λ k. AreAsked (spot_pair k)) (λ k h. let less = h.1 in let known : k < length d.ships = omega (arith, less) in (record { asked = known }, (record { asked = (known, e) }, tt))) (numbers_from 0 (length d.ships)) (all-numbers 0 (length d.ships)))

  each-asked : (list : List Decision) → AreAsked list → (k : ℕ) → k < length list → IsAsked d values (get_or list k (BerthOf 0))
  each-asked list h k here = All-from_recursion (IsAsked d values) list h k (BerthOf 0) here

  pub case-asked : (list : List Decision) → list ≡ decisions (length d.ships) → (k : ℕ) → k < length list → IsAsked d values (get_or list k (BerthOf 0))
  case-asked list e = each-asked list (subst AreAsked (sym e) (cases-asked (length d.ships) (omega arith)))

  pub spot-asked : (list : List Decision) → list ≡ spot_decisions (length d.ships) → values ≡ spot_values d → (k : ℕ) → k < length list → IsAsked d values (get_or list k (BerthOf 0))
  spot-asked list e is = each-asked list (subst AreAsked (sym e) (spots-asked is))

pub case-few : (n : ℕ) → n ≤ MOST → length (decisions n) ≤ DECISIONS
case-few n few = omega (arith, twice n, mul-le n (n + 1) 8 9 few (omega (arith, few)))

pub spot-few : (n : ℕ) → n ≤ MOST → length (spot_decisions n) ≤ 16
spot-few n few = omega (arith, spots-length 0 n, few)

-- what `push_ship` goes by
pub ruleset of_decisions = (pairs_begun, pairs_more, pairs_whole, pairs_room, berth_room)
