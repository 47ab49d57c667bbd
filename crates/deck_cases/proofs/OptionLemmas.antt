-- The options of a decision by number.
use Rattle.std.proofs.Common.{◌≡◌, ◌≢◌, ℕ, suc, ◌+◌, ◌-◌, ◌*◌, ◌/◌, ◌<◌, ◌≤◌, List, length, cond, nat_lt, slice_index_or, inl, inr, sym, ap, ◌∙◌, subst, arith}
use Rattle.std.proofs.lemmas.Bool.Decides.{leb_tells}
use Rattle.std.proofs.lemmas.List.{length-map, get_or-map}
use Rattle.lock_model.specs.Deck.{Deck}
use Rattle.refute_rules.specs.Values.{spot_values}
use Rattle.refute_rules.specs.declared.choices.Berth.{Berth}
use Rattle.refute_rules.specs.declared.choices.Decision.TheVariants.{BerthOf, XOf}
use Rattle.refute_rules.specs.declared.choices.Choice.TheVariants.{Lies, Before, LiesAt}
use Rattle.refute_rules.specs.Choices.{berths_of, options_of}
use Rattle.deck_cases.specs.Asked.{IsMoorOfOthers, IsAsked}
use Rattle.deck_cases.specs.Berths.{first_berth}
use Rattle.deck_cases.proofs.BerthLemmas.{berths-length, quay-at, host-at}

pub berth_count : (d : Deck) (i : ℕ) → i < length d.ships → length (options_of d (BerthOf i)) ≡ 2 * length d.ships
berth_count d i h = length-map (berths_of (length d.ships) i) (Lies i) ∙ berths-length (length d.ships) i h

pub x_count : (d : Deck) (values : List ℕ) (i : ℕ) → IsAsked d values (XOf i) → length (options_of d (XOf i)) ≡ length values
x_count d values i h = length-map (spot_values d) (LiesAt i) ∙ sym (ap length h.asked.1)

pub x_choice : (d : Deck) (values : List ℕ) (i option : ℕ) → IsAsked d values (XOf i) → option < length values → slice_index_or (options_of d (XOf i)) option (Before 0 0) ≡ LiesAt i (slice_index_or values option 0)
x_choice d values i option h less = ap (λ vs. slice_index_or (options_of d (XOf i)) option (Before 0 0)) h.asked.1 ∙ get_or-map (LiesAt i) (spot_values d) option 0 (Before 0 0) (subst (λ vs. option < length vs) h.asked.1 less) ∙ ap (λ vs. LiesAt i (slice_index_or vs option 0)) (sym h.asked.1)

pub berth_at : (d : Deck) (i option : ℕ) → i < length d.ships → option < 2 * length d.ships → slice_index_or (options_of d (BerthOf i)) option (Before 0 0) ≡ Lies i (slice_index_or (berths_of (length d.ships) i) option first_berth)
berth_at d i option h l = let n = berths-length (length d.ships) i h in get_or-map (Lies i) (berths_of (length d.ships) i) option first_berth (Before 0 0) (omega (arith, n, l))

pub berth_choice : (d : Deck) (i option : ℕ) (b : Berth) → i < length d.ships → option < 2 * length d.ships → b ≡ slice_index_or (berths_of (length d.ships) i) option first_berth → Lies i b ≡ slice_index_or (options_of d (BerthOf i)) option (Before 0 0)
berth_choice d i option b h l e = ap (Lies i) e ∙ sym (berth_at d i option h l)

pub moor_known : (d : Deck) (i option : ℕ) (b : Berth) → i < length d.ships → option < 2 * length d.ships → b ≡ slice_index_or (berths_of (length d.ships) i) option first_berth → IsMoorOfOthers d i b.moor
moor_known d i option b h l e = subst (λ b. IsMoorOfOthers d i b.moor) (sym e) (elim (leb_tells 2 option) [
  | inl y ↦ subst (λ b. IsMoorOfOthers d i b.moor) (sym (host-at (length d.ships) i option h y.1 l)) (other y.1)
  | inr n ↦ subst (λ b. IsMoorOfOthers d i b.moor) (sym (quay-at (length d.ships) i option (let few = n.1 in omega (arith, few)))) tt
])
  where
    other : 2 ≤ option → (cond (nat_lt (option / 2 - 1) i) (option / 2 - 1) (option / 2 - 1 + 1) < length d.ships) × (cond (nat_lt (option / 2 - 1) i) (option / 2 - 1) (option / 2 - 1 + 1) ≢ i)
    other two = elim (leb_tells (suc (option / 2 - 1)) i) [
      | inl y ↦ subst (λ b. (cond b (option / 2 - 1) (option / 2 - 1 + 1) < length d.ships) × (cond b (option / 2 - 1) (option / 2 - 1 + 1) ≢ i)) (sym y.0) (let less = y.1 in (omega (arith, less, h), omega (arith, less)))
      | inr n ↦ subst (λ b. (cond b (option / 2 - 1) (option / 2 - 1 + 1) < length d.ships) × (cond b (option / 2 - 1) (option / 2 - 1 + 1) ≢ i)) (sym n.0) (let more = n.1 in (omega (arith, two, l), omega (arith, more)))
    ]
