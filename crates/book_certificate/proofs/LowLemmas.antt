-- Each open leaf shows what the book's verdict says.
use Rattle.std.proofs.Common.{◌≡◌, ℕ, zero, suc, ◌<◌, ◌≤◌, List, [], ◌∷◌, length, map, filter, ◌⊎◌, inl, inr, refl, sym, ap, subst, arith, Bool, true, false, cond, ◌||◌, Some, None, slice_index_or, min}
use Rattle.std.specs.declared.option.Option.{Option}
use Rattle.std.proofs.lemmas.Bool.Decides.{leb_tells}
use Rattle.lock_model.specs.declared.instance.Instance.{Instance}
use Rattle.lock_model.specs.declared.verdict.Verdict.{Verdict}
use Rattle.lock_model.specs.declared.verdict.Verdict.TheVariants as verdict
use Rattle.list_laws.specs.Among.{IsAmong}
use Rattle.lock_rules.specs.Node.{Node}
use Rattle.lock_rules.specs.Bound.{bound_of}
use Rattle.closing_rules.specs.ListedPrices.{IsPricedBy}
use Rattle.closing_rules.proofs.BelowLemmas.{least-below}
use Rattle.book_rules.specs.declared.book.ShownLow.{ShownLow}
use Rattle.book_rules.specs.declared.book.SlotState.{SlotState}
use Rattle.book_rules.specs.declared.book.SlotState.TheVariants as slot
use Rattle.book_rules.specs.Book.{Slot, Book, no_slot, slot_at, slot_low, low_by, best_cost, is_fresh, is_back, is_held, is_parked, is_live, has_slot, first_slot}
use Rattle.book_rules.specs.Cover.{KeepsBook}
use Rattle.book_rules.specs.States.{KeepsStates}
use Rattle.book_rules.specs.Lows.{IsReachedLow, KeepsLows}
use Rattle.book_rules.specs.Verdict.{low_of, parked_verdict, turns_verdict, verdict_of}
use Rattle.certificate_rules.specs.declared.certificate.Mark.{Mark}
use Rattle.certificate_rules.specs.Certificates.{cuts_in}
use Rattle.certificate_rules.specs.Low.{ShowsCost, EndsShowing}
use Rattle.certificate_rules.proofs.LeastLemmas.{among-below}
use Rattle.certificate_rules.proofs.LowLemmas.{priced-less}
use Rattle.book_certificate.specs.Preorder.{open_mark, mark_of, mark_at}
use Rattle.book_certificate.specs.Certified.{cert_cut, certified_low}
use Rattle.book_certificate.proofs.ClosingLemmas.{same-cuts, slots-end}
use Rattle.book_certificate.proofs.TreeLemmas.{EndSlots}
use Rattle.book_certificate.proofs.VerdictLemmas.{live-verdict}

-- ---- the low of the book

abbrev live_lows : List Slot → List ℕ
live_lows xs = map slot_low (filter (λ (s : Slot). is_live s.state) xs)

abbrev lows_with : Bool → Slot → List Slot → List ℕ
lows_with t x xs = map slot_low (cond t (x ∷ filter (λ (s : Slot). is_live s.state) xs) (filter (λ (s : Slot). is_live s.state) xs))

live-low : (xs : List Slot) (id : ℕ) → id < length xs → is_live (slice_index_or xs id no_slot).state ≡ true → IsAmong (live_lows xs) (slot_low (slice_index_or xs id no_slot))
live-low [] id known live = absurd (omega (arith, known))
live-low (x ∷ xs) zero known live = subst (λ t. IsAmong (lows_with t x xs) (slot_low x)) (sym live) (inl refl)
live-low (x ∷ xs) (suc id) known live = later (is_live x.state) (live-low xs id (omega (arith, known)) live)
  where
    later : (t : Bool) → IsAmong (live_lows xs) (slot_low (slice_index_or xs id no_slot)) → IsAmong (lows_with t x xs) (slot_low (slice_index_or xs id no_slot))
    later true h = inr h
    later false h = h

-- it is no more than what is known of a live slot
low-least : (b : Book) (id : ℕ) → id < length b.slots → is_live (slot_at b id).state ≡ true → low_of b ≤ slot_low (slot_at b id)
low-least b id known live =
    let least = least-below (slot_low (slot_at b id)) (live_lows b.slots) (among-below (slot_low (slot_at b id)) (slot_low (slot_at b id)) (live_lows b.slots) (live-low b.slots id known live) (omega arith)) in
    omega (arith, least)

-- ---- the verdict

parked-low : (b : Book) (node : Node) (s : SlotState) (cost : ℕ) → (parked_verdict b node s ≡ verdict.Optimal) ⊎ (certified_low cost (parked_verdict b node s) ≡ min (low_of b) cost)
parked-low b node (slot.Parked c p) cost = inr refl
parked-low b node slot.Fresh cost = inl refl
parked-low b node slot.Back cost = inl refl
parked-low b node (slot.Held w) cost = inl refl
parked-low b node (slot.Split first) cost = inl refl
parked-low b node (slot.Closed why) cost = inl refl

turns-low : (b : Book) (o : Option ℕ) (cost : ℕ) → (turns_verdict b o ≡ verdict.Optimal) ⊎ (certified_low cost (turns_verdict b o) ≡ min (low_of b) cost)
turns-low b None cost = inl refl
turns-low b (Some id) cost = parked-low b (slot_at b id).node (slot_at b id).state cost

either-low : (b : Book) (t : Bool) (o : Option ℕ) (cost : ℕ)
    → (cond t (verdict.OpenNodes b.used (low_of b)) (turns_verdict b o) ≡ verdict.Optimal) ⊎ (certified_low cost (cond t (verdict.OpenNodes b.used (low_of b)) (turns_verdict b o)) ≡ min (low_of b) cost)
either-low b true o cost = inr refl
either-low b false o cost = turns-low b o cost

-- it is Optimal, or says the low of the book
verdict-low : (b : Book) (cost : ℕ) → (verdict_of b ≡ verdict.Optimal) ⊎ (certified_low cost (verdict_of b) ≡ min (low_of b) cost)
verdict-low b cost = either-low b (has_slot b (λ state. is_fresh state || is_back state || is_held state)) (first_slot b is_parked) cost

pub most-low : (cost : ℕ) (V : Verdict) → certified_low cost V ≤ cost
most-low cost verdict.Optimal = omega arith
most-low cost (verdict.OpenNodes used low) = omega arith
most-low cost (verdict.OpenTurns chamber ships turns low) = omega arith

-- so what the verdict says is no more than what is known of a live slot
slot-above : (b : Book) (cost id : ℕ) → id < length b.slots → is_live (slot_at b id).state ≡ true → certified_low cost (verdict_of b) ≤ slot_low (slot_at b id)
slot-above b cost id known live =
    elim (verdict-low b cost) [
      | inl done ↦ absurd (live-verdict b id known live done)
      | inr low ↦ let least = low-least b id known live in omega (arith, low, least)
    ]

-- ---- the marks

module _ (b : Book) (keeps : KeepsBook b) (states : KeepsStates b) (lows : KeepsLows b) (n : ℕ) where
  abbrev I : Instance
  I = b.case.instance

  abbrev own_bound : ℕ → ℕ
  own_bound id = bound_of I (slot_at b id).node.depth (slot_at b id).node.lines

  -- a mark shows n of the node of a slot
  abbrev Shows : ℕ → Mark → Type 0
  Shows id = ShowsCost I (map cert_cut b.cuts) b.prices n (slot_at b id).node.depth (slot_at b id).node.lines

  open-shows : (id : ℕ) (shown : Option ShownLow) → IsReachedLow I b.cuts b.prices (slot_at b id).node shown → n ≤ low_by (own_bound id) shown → Shows id (open_mark shown)
  open-shows id None h low = low
  open-shows id (Some known) h low =
      elim (leb_tells n (own_bound id)) [
        | inl within ↦ inl within.1
        | inr past ↦
            let node = (slot_at b id).node in
            let less : n ≤ known.cost = omega (arith, low, past.1) in
            inr (priced-less I (cuts_in I (map cert_cut b.cuts)) b.prices known.prices node.depth node.lines known.cost n less
            (subst (λ cuts. IsPricedBy I cuts b.prices known.prices node.depth node.lines known.cost) (same-cuts I b.cuts) h))
      ]

  -- where n is no more than what is known of each live slot, all marks show it
  module _ (above : (id : ℕ) → id < length b.slots → is_live (slot_at b id).state ≡ true → n ≤ slot_low (slot_at b id)) where
    slot-shows : (id : ℕ) → id < length b.slots → Shows id (mark_at b id)
    slot-shows id known = go (slot_at b id).state refl
      where
        told : (state : SlotState) → (slot_at b id).state ≡ state → Shows id (mark_of (slot_at b id).shown state) → Shows id (mark_at b id)
        told state is = subst (Shows id) (sym (ap (mark_of (slot_at b id).shown) is))

        low : is_live (slot_at b id).state ≡ true → n ≤ low_by (own_bound id) (slot_at b id).shown
        low live = subst (λ m. n ≤ low_by m (slot_at b id).shown) (keeps.slots id no_slot known).bound (above id known live)

        opened : is_live (slot_at b id).state ≡ true → Shows id (open_mark (slot_at b id).shown)
        opened live = open-shows id (slot_at b id).shown (lows.lows id no_slot known) (low live)

        go : (state : SlotState) → (slot_at b id).state ≡ state → Shows id (mark_at b id)
        go (slot.Split first) is = told (slot.Split first) is tt
        go (slot.Closed why) is = told (slot.Closed why) is tt
        go slot.Fresh is = told slot.Fresh is (opened (ap is_live is))
        go slot.Back is = told slot.Back is (opened (ap is_live is))
        go (slot.Held w) is = told (slot.Held w) is (opened (ap is_live is))
        go (slot.Parked c p) is = told (slot.Parked c p) is (opened (ap is_live is))

    pub slots-show : EndSlots b (EndsShowing I (best_cost b) (map cert_cut b.cuts) b.prices n)
    slots-show = record { slot = λ id known whole. ((slots-end b keeps states lows).slot id known whole, slot-shows id known) }

-- they show what the verdict says
pub verdict-shown : (b : Book) → KeepsBook b → KeepsStates b → KeepsLows b → EndSlots b (EndsShowing b.case.instance (best_cost b) (map cert_cut b.cuts) b.prices (certified_low (best_cost b) (verdict_of b)))
verdict-shown b keeps states lows = slots-show b keeps states lows (certified_low (best_cost b) (verdict_of b)) (λ id known live. slot-above b (best_cost b) id known live)
