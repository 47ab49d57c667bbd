-- The spot case with an option taken, and with its last option taken back.
use Rattle.std.proofs.Common.{◌≡◌, ℕ, suc, ◌+◌, ◌*◌, ◌-◌, ◌<◌, ◌≤◌, List, [], ◌∷◌, ◌++◌, length, take, inl, inr, refl, sym, ap, ◌∙◌, arith, slice_index_or}
use Rattle.std.proofs.lemmas.Bool.Decides.{leb_tells}
use Rattle.refute_rules.specs.Values.{spot_values}
use Rattle.refute_rules.specs.declared.choices.Decision.TheVariants.{BerthOf, XOf}
use Rattle.refute_rules.specs.declared.choices.Choice.{Choice}
use Rattle.refute_rules.specs.declared.choices.Choice.TheVariants.{Before, LiesAt}
use Rattle.refute_rules.specs.Choices.{options_of, berths_of, spot_decisions}
use Rattle.case_search.specs.Rules.{options_at, with_option}
use Rattle.refute_rules.specs.declared.choices.Berth.{Berth}
use Rattle.deck_cases.specs.Berths.{first_berth}
use Rattle.spot_place.specs.Rules.{spot_rules}
use Rattle.spot_place.specs.SpotCase.{OnWay, case_on, IsOnWay}
use Rattle.spot_place.proofs.StepLemmas.{case-length, push-berth, push-place, pop-berth, pop-place, before-last}
use Rattle.deck_cases.proofs.OptionLemmas.{berth_choice, berth_count}
use Rattle.spot_place.proofs.OptionLemmas.{berth-next, place-next, none-next, place-choice, place-count, decisions-length}

module _ (s new : OnWay) where
  pub berth-taken : (m : Berth) (ship option : ℕ) → ship ≡ length s.berths → m ≡ slice_index_or (berths_of (length s.deck.ships) ship) option first_berth → length s.berths < length s.deck.ships → length s.berths ≡ length s.places → option < 2 * length s.deck.ships → new ≡ record { deck = s.deck; berths = s.berths ++ m ∷ []; places = s.places } → case_on new ≡ case_on s ++ slice_index_or (options_of s.deck (BerthOf (length s.berths))) option (Before 0 0) ∷ []
  berth-taken m ship option e is room step few grown =
      let choice = berth_choice s.deck (length s.berths) option m room few (is ∙ ap (λ i. slice_index_or (berths_of (length s.deck.ships) i) option first_berth) e) in
      ap case_on grown ∙ push-berth s.berths s.places m step ∙ ap (λ (c : Choice). case_on s ++ c ∷ []) choice

  pub place-taken : (x option : ℕ) → x ≡ slice_index_or (spot_values s.deck) option 0 → length s.berths ≡ suc (length s.places) → option < length (spot_values s.deck) → new ≡ record { deck = s.deck; berths = s.berths; places = s.places ++ x ∷ [] } → case_on new ≡ case_on s ++ slice_index_or (options_of s.deck (XOf (length s.places))) option (Before 0 0) ∷ []
  place-taken x option e step few grown =
      let choice = place-choice s.deck (length s.places) option few in
      ap case_on grown ∙ push-place s.berths s.places x step ∙ ap (λ (c : Choice). case_on s ++ c ∷ []) (ap (LiesAt (length s.places)) e ∙ sym choice)

-- ---- the options of the next decision

module _ (s : OnWay) (way : IsOnWay s.deck s.berths s.places) where
  long : length (case_on s) ≡ length s.berths + length s.places
  long = case-length s.berths s.places way.behind

  pub next-berth : length s.berths ≡ length s.places → length s.berths < length s.deck.ships → options_at (spot_rules s.deck) (case_on s) ≡ options_of s.deck (BerthOf (length s.berths))
  next-berth step room = let l = long in berth-next s.deck (length s.deck.ships) (length s.berths) (length (case_on s)) room (omega (arith, l, step))

  pub next-place : length s.berths ≡ suc (length s.places) → options_at (spot_rules s.deck) (case_on s) ≡ options_of s.deck (XOf (length s.places))
  next-place step = let l = long in place-next s.deck (length s.deck.ships) (length s.places) (length (case_on s)) (omega (arith, step, way.ships)) (omega (arith, l, step))

  pub next-none : length s.berths ≡ length s.places → length s.deck.ships ≤ length s.berths → options_at (spot_rules s.deck) (case_on s) ≡ []
  next-none step full = let l = long in none-next s.deck (length s.deck.ships) (length (case_on s)) (omega (arith, l, step, full))

  -- an option of the next decision
  pub has-room : length s.berths ≡ length s.places → (option : ℕ) → option < length (options_at (spot_rules s.deck) (case_on s)) → length s.berths < length s.deck.ships
  has-room step option h = elim (leb_tells (suc (length s.berths)) (length s.deck.ships)) [
    | inl y ↦ y.1
    | inr n ↦ let none = ap (λ (cs : List Choice). length cs) (next-none step (omega (arith, n.1))) in absurd (omega (arith, h, none))
  ]

  pub berth-option_few : length s.berths ≡ length s.places → (option : ℕ) → option < length (options_at (spot_rules s.deck) (case_on s)) → option < 2 * length s.deck.ships
  berth-option_few step option h =
      let room = has-room step option h in
      let all = ap (λ (cs : List Choice). length cs) (next-berth step room) in
      let count = berth_count s.deck (length s.berths) room in
      omega (arith, h, all, count)

  pub place-option_few : length s.berths ≡ suc (length s.places) → (option : ℕ) → option < length (options_at (spot_rules s.deck) (case_on s)) → option < length (spot_values s.deck)
  place-option_few step option h =
      let all = ap (λ (cs : List Choice). length cs) (next-place step) in
      let count = place-count s.deck (length s.places) in
      omega (arith, h, all, count)

  pub with_berth : (new : List Choice) (option : ℕ) → length s.berths ≡ length s.places → option < length (options_at (spot_rules s.deck) (case_on s)) → new ≡ case_on s ++ slice_index_or (options_of s.deck (BerthOf (length s.berths))) option (Before 0 0) ∷ [] → new ≡ with_option (spot_rules s.deck) (case_on s) option
  with_berth new option step h e = e ∙ ap (λ (cs : List Choice). case_on s ++ slice_index_or cs option (Before 0 0) ∷ []) (sym (next-berth step (has-room step option h)))

  pub with_place : (new : List Choice) (option : ℕ) → length s.berths ≡ suc (length s.places) → new ≡ case_on s ++ slice_index_or (options_of s.deck (XOf (length s.places))) option (Before 0 0) ∷ [] → new ≡ with_option (spot_rules s.deck) (case_on s) option
  with_place new option step e = e ∙ ap (λ (cs : List Choice). case_on s ++ slice_index_or cs option (Before 0 0) ∷ []) (sym (next-place step))

  pub some-place : 0 < length (case_on s) → length s.berths ≡ length s.places → 0 < length s.places
  some-place h step = let l = long in omega (arith, l, h, step)

  pub whole-length : length s.places ≡ length s.deck.ships → length (case_on s) ≡ length (spot_decisions (length s.deck.ships))
  whole-length full =
      let l = long in
      let all = decisions-length (length s.deck.ships) in
      omega (arith, l, all, full, way.behind, way.ships)

  pub length-whole : length (case_on s) ≡ length (spot_decisions (length s.deck.ships)) → length s.places ≡ length s.deck.ships
  length-whole e =
      let l = long in
      let all = decisions-length (length s.deck.ships) in
      omega (arith, l, all, e, way.behind, way.ahead, way.ships)

  -- ---- the last option taken back

  pub berth-back : (new : OnWay) → length s.berths ≡ suc (length s.places) → new ≡ record { deck = s.deck; berths = take (length s.places) s.berths; places = s.places } → (before : List Choice) (last : Choice) → case_on s ≡ before ++ last ∷ [] → case_on new ≡ before
  berth-back new step shrunk before last e =
      let l = long in
      before-last (case_on s) before (case_on new) last (length s.places + length s.places) e (omega (arith, l, step)) (ap case_on shrunk ∙ pop-berth (length s.places) s.berths s.places step refl)

  pub place-back : (new : OnWay) → 0 < length s.places → length s.berths ≡ length s.places → new ≡ record { deck = s.deck; berths = s.berths; places = take (length s.places - 1) s.places } → (before : List Choice) (last : Choice) → case_on s ≡ before ++ last ∷ [] → case_on new ≡ before
  place-back new some step shrunk before last e =
      let l = long in
      let n : length s.places ≡ suc (length s.places - 1) = omega (arith, some) in
      before-last (case_on s) before (case_on new) last (suc ((length s.places - 1) + (length s.places - 1))) e (omega (arith, l, step, some)) (ap case_on shrunk ∙ pop-place (length s.places - 1) s.berths s.places (step ∙ n) n)
