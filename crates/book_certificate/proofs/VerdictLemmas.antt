-- A book whose verdict is Optimal has no slot that is open, held or parked.
use Rattle.std.proofs.Common.{◌≡◌, ℕ, zero, suc, ◌<◌, List, [], ◌∷◌, inl, inr, ◌⊎◌, length, refl, sym, ap, ◌∙◌, arith, Bool, true, false, cond, ◌||◌, Some, None, slice_index_or, true≢false}
use Rattle.std.proofs.lemmas.Bool.{or_right}
use Rattle.std.specs.declared.option.Option.{Option}
use Rattle.std.specs.List.{list_any}
use Rattle.lock_model.specs.declared.verdict.Verdict.TheVariants as verdict
use Rattle.book_rules.specs.declared.book.SlotState.{SlotState}
use Rattle.book_rules.specs.declared.book.SlotState.TheVariants as slot
use Rattle.book_rules.specs.Book.{Slot, Book, no_slot, slot_at, is_fresh, is_back, is_held, is_parked, is_live, has_slot, first_slot}
use Rattle.lock_rules.specs.Node.{Node}
use Rattle.book_rules.specs.Verdict.{low_of, parked_verdict, turns_verdict, verdict_of}
use Rattle.book_rules.proofs.SlotLemmas.{first_slot-at, first_slot-none}

-- open or held
abbrev is_open : SlotState → Bool
is_open state = is_fresh state || is_back state || is_held state

any-at : (test : Slot → Bool) (xs : List Slot) (id : ℕ) → id < length xs → test (slice_index_or xs id no_slot) ≡ true → list_any test xs ≡ true
any-at test [] id known e = absurd (omega (arith, known))
any-at test (x ∷ xs) zero known e = ap (λ t. t || list_any test xs) e
any-at test (x ∷ xs) (suc id) known e = or_right (test x) (list_any test xs) (any-at test xs id (omega (arith, known)) e)

live-either : (s : SlotState) → is_live s ≡ true → (is_open s ≡ true) ⊎ (is_parked s ≡ true)
live-either slot.Fresh e = inl refl
live-either slot.Back e = inl refl
live-either (slot.Held w) e = inl refl
live-either (slot.Parked c p) e = inr refl
live-either _ e = absurd (true≢false (sym e))

parked-turns : (b : Book) (node : Node) (s : SlotState) → is_parked s ≡ true → parked_verdict b node s ≡ verdict.Optimal → ⊥
parked-turns b node (slot.Parked c p) e f = cc
parked-turns b node _ e f = true≢false (sym e)

pub live-verdict : (b : Book) (id : ℕ) → id < length b.slots → is_live (slot_at b id).state ≡ true → verdict_of b ≡ verdict.Optimal → ⊥
live-verdict b id known live e = by_open (has_slot b is_open) refl
  where
    by_first : is_parked (slot_at b id).state ≡ true → (o : Option ℕ) → first_slot b is_parked ≡ o → turns_verdict b o ≡ verdict.Optimal → ⊥
    by_first parked None none f = true≢false (sym parked ∙ first_slot-none b is_parked none id known)
    by_first parked (Some first) some f = parked-turns b (slot_at b first).node (slot_at b first).state (first_slot-at b is_parked first some).1 f

    told : (t : Bool) → has_slot b is_open ≡ t → cond t (verdict.OpenNodes b.used (low_of b)) (turns_verdict b (first_slot b is_parked)) ≡ verdict.Optimal
    told t same = sym (ap (λ s. cond s (verdict.OpenNodes b.used (low_of b)) (turns_verdict b (first_slot b is_parked))) same) ∙ e

    by_open : (t : Bool) → has_slot b is_open ≡ t → ⊥
    by_open true some = let nodes = told true some in absurd cc
    by_open false none =
        elim (live-either (slot_at b id).state live) [
          | inl shut ↦ true≢false (sym (any-at (λ (s : Slot). is_open s.state) b.slots id known shut) ∙ none)
          | inr parked ↦ by_first parked (first_slot b is_parked) refl (told false none)
        ]
