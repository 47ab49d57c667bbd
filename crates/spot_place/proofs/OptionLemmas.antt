-- The spot decisions that a case leaves, and the options of a berth by number.
use Rattle.std.proofs.Common.{◌≡◌, ℕ, zero, suc, ◌+◌, ◌*◌, ◌/◌, ◌-◌, ◌<◌, ◌≤◌, List, [], ◌∷◌, length, flat_map, drop, cond, nat_lt, true, false, inl, inr, refl, sym, ap, ◌∙◌, subst, arith, slice_index_or}
use Rattle.std.proofs.lemmas.Bool.Decides.{leb_tells}
use Rattle.std.proofs.lemmas.List.{get_or-map, length-map}
use Rattle.lock_model.specs.Deck.{Deck}
use Rattle.lock_model.specs.declared.placement.Moor.{Moor}
use Rattle.lock_model.specs.declared.placement.Moor.TheVariants.{Quay, Ship}
use Rattle.lock_rules.specs.Arrival.{numbers_from}
use Rattle.refute_rules.specs.Values.{spot_values}
use Rattle.refute_rules.specs.declared.choices.Berth.{Berth}
use Rattle.refute_rules.specs.declared.choices.Decision.{Decision}
use Rattle.refute_rules.specs.declared.choices.Decision.TheVariants.{BerthOf, XOf}
use Rattle.refute_rules.specs.declared.choices.Choice.TheVariants.{Before, LiesAt}
use Rattle.refute_rules.specs.Choices.{berths_of, options_of, spot_decisions, IsKnownMoor}
use Rattle.case_search.specs.Rules.{options_first}
use Rattle.deck_cases.specs.Berths.{first_berth}
use Rattle.deck_cases.specs.Asked.{IsMoorOfOthers}
use Rattle.deck_cases.proofs.OptionLemmas.{moor_known}

-- ---- decisions

abbrev spot_pair : ℕ → List Decision
spot_pair i = BerthOf i ∷ XOf i ∷ []

module _ (d : Deck) where
  berth-from : (low n k t i : ℕ) → k < n → t ≡ k + k → i ≡ low + k → options_first (options_of d) (drop t (flat_map spot_pair (numbers_from low n))) ≡ options_of d (BerthOf i)
  berth-from low zero k t i h e g = absurd (omega (arith, h))
  berth-from low (suc n) zero zero i h e g = let same : low ≡ i = omega (arith, g) in ap (λ j. options_of d (BerthOf j)) same
  berth-from low (suc n) zero (suc t) i h e g = absurd (omega (arith, e))
  berth-from low (suc n) (suc k) zero i h e g = absurd (omega (arith, e))
  berth-from low (suc n) (suc k) (suc zero) i h e g = absurd (omega (arith, e))
  berth-from low (suc n) (suc k) (suc (suc t)) i h e g = berth-from (suc low) n k t i (omega (arith, h)) (omega (arith, e)) (omega (arith, g))

  place-from : (low n k t i : ℕ) → k < n → t ≡ suc (k + k) → i ≡ low + k → options_first (options_of d) (drop t (flat_map spot_pair (numbers_from low n))) ≡ options_of d (XOf i)
  place-from low zero k t i h e g = absurd (omega (arith, h))
  place-from low (suc n) zero zero i h e g = absurd (omega (arith, e))
  place-from low (suc n) zero (suc zero) i h e g = let same : low ≡ i = omega (arith, g) in ap (λ j. options_of d (XOf j)) same
  place-from low (suc n) zero (suc (suc t)) i h e g = absurd (omega (arith, e))
  place-from low (suc n) (suc k) zero i h e g = absurd (omega (arith, e))
  place-from low (suc n) (suc k) (suc zero) i h e g = absurd (omega (arith, e))
  place-from low (suc n) (suc k) (suc (suc t)) i h e g = place-from (suc low) n k t i (omega (arith, h)) (omega (arith, e)) (omega (arith, g))

  none-from : (low n t : ℕ) → n + n ≤ t → options_first (options_of d) (drop t (flat_map spot_pair (numbers_from low n))) ≡ []
  none-from low zero zero e = refl
  none-from low zero (suc t) e = refl
  none-from low (suc n) zero e = absurd (omega (arith, e))
  none-from low (suc n) (suc zero) e = absurd (omega (arith, e))
  none-from low (suc n) (suc (suc t)) e = none-from (suc low) n t (omega (arith, e))

  pub berth-next : (n k t : ℕ) → k < n → t ≡ k + k → options_first (options_of d) (drop t (spot_decisions n)) ≡ options_of d (BerthOf k)
  berth-next n k t h e = berth-from 0 n k t k h e (omega arith)

  pub place-next : (n k t : ℕ) → k < n → t ≡ suc (k + k) → options_first (options_of d) (drop t (spot_decisions n)) ≡ options_of d (XOf k)
  place-next n k t h e = place-from 0 n k t k h e (omega arith)

  pub none-next : (n t : ℕ) → n + n ≤ t → options_first (options_of d) (drop t (spot_decisions n)) ≡ []
  none-next n t h = none-from 0 n t h

pub decisions-length : (n : ℕ) → length (spot_decisions n) ≡ n + n
decisions-length n = from 0 n
  where
    from : (low n : ℕ) → length (flat_map spot_pair (numbers_from low n)) ≡ n + n
    from low zero = refl
    from low (suc n) = let rest = from (suc low) n in omega (arith, rest)

-- ---- berths

-- the host of an option is a ship of the deck
known-moor : (d : Deck) (i : ℕ) (m : Moor) → IsMoorOfOthers d i m → IsKnownMoor d m
known-moor d i Quay h = tt
known-moor d i (Ship k) h = h.0

pub known-option : (d : Deck) (i option : ℕ) (b : Berth) → i < length d.ships → option < 2 * length d.ships → b ≡ slice_index_or (berths_of (length d.ships) i) option first_berth → IsKnownMoor d b.moor
known-option d i option b known few e = known-moor d i b.moor (moor_known d i option b known few e)

-- ---- options

pub place-choice : (d : Deck) (i option : ℕ) → option < length (spot_values d) → slice_index_or (options_of d (XOf i)) option (Before 0 0) ≡ LiesAt i (slice_index_or (spot_values d) option 0)
place-choice d i option h = get_or-map (LiesAt i) (spot_values d) option 0 (Before 0 0) h

pub place-count : (d : Deck) (i : ℕ) → length (options_of d (XOf i)) ≡ length (spot_values d)
place-count d i = length-map (spot_values d) (LiesAt i)
