-- One slot takes another state; the table of hands.
use Rattle.std.proofs.Common.{◌≡◌, ◌≢◌, ℕ, zero, suc, ◌<◌, ◌≤◌, List, [], ◌∷◌, length, refl, sym, ap, ◌∙◌, arith, Bool, true, false, Some, None, slice_index_or, slice_set, inl, inr, true≢false}
use Rattle.std.proofs.lemmas.Bool.{false≢true}
use Rattle.std.proofs.lemmas.Option.{none-some, same_Some}
use Rattle.std.specs.declared.option.Option.{Option}
use Rattle.std.proofs.lemmas.Bool.Decides.{eqb_tells}
use Rattle.std.proofs.lemmas.List.{length-set, get_or-set_same, get_or-set_other}
use Rattle.book_rules.specs.declared.book.SlotState.{SlotState}
use Rattle.book_rules.specs.declared.book.SlotState.TheVariants as slot
use Rattle.book_rules.specs.Book.{Slot, no_slot, is_held}
use Rattle.book_rules.specs.Book.{Book, first_slot, has_slot, is_held_by, slot_at}
use Rattle.std.proofs.lemmas.List.Folds.{Any-from_list_any, list_any_at}
use Rattle.lock_model.specs.declared.limits.TheConstants.{WORKERS}
use Rattle.book_rules.proofs.WorkerLemmas.{same-worker}
use Rattle.book_rules.proofs.SlotLemmas.{held-is, held_by-is, held_by-itself, first_slot-at, first_slot-none}
use Rattle.book_core.specs.Tables.{state_in, hand_at, AreHands}
use Rattle.book_core.specs.Changes.{slot_in, stateless, set_state, Changes, let_go, has_some}
use Rattle.closing_rules.specs.declared.grounds.Ground.TheVariants as by

pub set-changes : (slots : List Slot) (id : ℕ) (state : SlotState) → id < length slots → Changes slots id state (set_state slots id state)
set-changes slots id state known =
    let new : Slot = record (slot_in slots id) { state = state } in
    let here : slot_in (set_state slots id state) id ≡ new = get_or-set_same slots id new no_slot known in
    record {
      known = known;
      count = length-set slots id new;
      here = ap (λ (s : Slot). s.state) here;
      others = λ k other. ap (λ (s : Slot). s.state) (get_or-set_other slots id k new no_slot other);
      rest = λ k. elim (eqb_tells k id) [
        | inl y ↦ ap (λ i. stateless (slot_in (set_state slots id state) i)) y.1 ∙ ap stateless here ∙ ap (λ i. stateless (slot_in slots i)) (sym y.1)
        | inr n ↦ ap stateless (get_or-set_other slots id k new no_slot n.1)
      ];
    }

-- a hand that isn't empty is one of the table
pub hand-known : (hands : List (Option ℕ)) (w id : ℕ) → hand_at hands w ≡ Some id → w < length hands
hand-known [] w id e = absurd (none-some id e)
hand-known (h ∷ hs) zero id e = omega arith
hand-known (h ∷ hs) (suc w) id e = let rest = hand-known hs w id e in omega (arith, rest)

not-held : (state : SlotState) (w : ℕ) → is_held state ≡ false → state ≢ slot.Held w
not-held state w e h = true≢false (sym (ap is_held h) ∙ e)

module _ (old new : List Slot) (id : ℕ) (state : SlotState) (change : Changes old id state new) (hands : List (Option ℕ)) (good : AreHands old hands) where
  -- a slot that no worker holds takes a state in which none does
  pub hands-kept : is_held (state_in old id) ≡ false → is_held state ≡ false → AreHands new hands
  hands-kept before after = record {
    nine = good.nine;
    held = λ v k e. elim (eqb_tells k id) [
      | inl y ↦ absurd (not-held (state_in old id) v before (ap (state_in old) (sym y.1) ∙ good.held v k e))
      | inr n ↦ change.others k n.1 ∙ good.held v k e
    ];
    hand = λ v k e. elim (eqb_tells k id) [
      | inl y ↦ absurd (not-held state v after (sym change.here ∙ ap (state_in new) (sym y.1) ∙ e))
      | inr n ↦ good.hand v k (sym (change.others k n.1) ∙ e)
    ];
  }

  -- a worker gives its slot away
  hands-freed : (w : ℕ) → state_in old id ≡ slot.Held w → is_held state ≡ false → AreHands new (slice_set hands w None)
  hands-freed w before after =
      let has = good.hand w id before in
      let known = hand-known hands w id has in
      record {
        nine = length-set hands w None ∙ good.nine;
        held = λ v k e. elim (eqb_tells v w) [
          | inl y ↦ absurd (none-some k (sym (get_or-set_same hands w None None known) ∙ ap (hand_at (slice_set hands w None)) (sym y.1) ∙ e))
          | inr n ↦
              let is = good.held v k (sym (get_or-set_other hands w v None None n.1) ∙ e) in
              elim (eqb_tells k id) [
                | inl y ↦ absurd (n.1 (same-worker v w (sym is ∙ ap (state_in old) y.1 ∙ before)))
                | inr m ↦ change.others k m.1 ∙ is
              ]
        ];
        hand = λ v k e. elim (eqb_tells k id) [
          | inl y ↦ absurd (not-held state v after (sym change.here ∙ ap (state_in new) (sym y.1) ∙ e))
          | inr n ↦
              let in_hand = good.hand v k (sym (change.others k n.1) ∙ e) in
              elim (eqb_tells v w) [
                | inl y ↦ absurd (n.1 (same_Some k id (sym in_hand ∙ ap (hand_at hands) y.1 ∙ has)))
                | inr m ↦ get_or-set_other hands w v None None m.1 ∙ in_hand
              ]
        ];
      }

  by_state : (o : SlotState) → state_in old id ≡ o → is_held state ≡ false → AreHands new (let_go o hands)
  by_state (slot.Held w) e after = hands-freed w e after
  by_state slot.Fresh e after = hands-kept (ap is_held e) after
  by_state slot.Back e after = hands-kept (ap is_held e) after
  by_state (slot.Parked c p) e after = hands-kept (ap is_held e) after
  by_state (slot.Split first) e after = hands-kept (ap is_held e) after
  by_state (slot.Closed why) e after = hands-kept (ap is_held e) after

  -- the slot leaves the hand that holds it, if one does
  pub hands-let_go : is_held state ≡ false → AreHands new (let_go (state_in old id) hands)
  hands-let_go after = by_state (state_in old id) refl after

-- a worker whose hand is empty takes a slot that no worker holds
pub hands-given : (old new : List Slot) (id w : ℕ) → Changes old id (slot.Held w) new → (hands : List (Option ℕ)) → AreHands old hands
    → w ≤ WORKERS → hand_at hands w ≡ None → is_held (state_in old id) ≡ false → AreHands new (slice_set hands w (Some id))
hands-given old new id w change hands good worker empty before =
    let known : w < length hands = omega (arith, good.nine, worker) in
    record {
      nine = length-set hands w (Some id) ∙ good.nine;
      held = λ v k e. elim (eqb_tells v w) [
        | inl y ↦
            let is : k ≡ id = same_Some k id (sym e ∙ ap (hand_at (slice_set hands w (Some id))) y.1 ∙ get_or-set_same hands w (Some id) None known) in
            ap (state_in new) is ∙ change.here ∙ ap slot.Held (sym y.1)
        | inr n ↦
            let is = good.held v k (sym (get_or-set_other hands w v (Some id) None n.1) ∙ e) in
            elim (eqb_tells k id) [
              | inl y ↦ absurd (not-held (state_in old id) v before (ap (state_in old) (sym y.1) ∙ is))
              | inr m ↦ change.others k m.1 ∙ is
            ]
      ];
      hand = λ v k e. elim (eqb_tells k id) [
        | inl y ↦
            let is : w ≡ v = same-worker w v (sym change.here ∙ ap (state_in new) (sym y.1) ∙ e) in
            ap (hand_at (slice_set hands w (Some id))) (sym is) ∙ get_or-set_same hands w (Some id) None known ∙ ap Some (sym y.1)
        | inr n ↦
            let in_hand = good.hand v k (sym (change.others k n.1) ∙ e) in
            elim (eqb_tells v w) [
              | inl y ↦ absurd (none-some k (sym empty ∙ ap (hand_at hands) (sym y.1) ∙ in_hand))
              | inr m ↦ get_or-set_other hands w v (Some id) None m.1 ∙ in_hand
            ]
      ];
    }

-- the old table serves new slots in which the same workers hold the same slots
pub hands-same : (old new : List Slot) (hands : List (Option ℕ)) → AreHands old hands
    → ((w id : ℕ) → state_in old id ≡ slot.Held w → state_in new id ≡ slot.Held w) → ((w id : ℕ) → state_in new id ≡ slot.Held w → state_in old id ≡ slot.Held w) → AreHands new hands
hands-same old new hands good there back = record { nine = good.nine; held = λ w id e. there w id (good.held w id e); hand = λ w id e. good.hand w id (back w id e) }

-- a slot that isn't closed by its bound is one of the slots
pub state-known : (slots : List Slot) (id : ℕ) → state_in slots id ≢ slot.Closed by.Bound → id < length slots
state-known [] id other = absurd (other refl)
state-known (s ∷ ss) zero other = omega arith
state-known (s ∷ ss) (suc id) other = let rest = state-known ss id other in omega (arith, rest)

pub held-open : (w : ℕ) → slot.Held w ≢ slot.Closed by.Bound
held-open w e = true≢false (ap is_held e)

-- the hand of a worker tells the slot that it holds
pub first-held : (b : Book) (hands : List (Option ℕ)) (w : ℕ) → AreHands b.slots hands → hand_at hands w ≡ first_slot b (is_held_by w)
first-held b hands w good = by_first (first_slot b (is_held_by w)) refl
  where
    by_hand : (o : Option ℕ) → hand_at hands w ≡ o → first_slot b (is_held_by w) ≡ None → o ≡ None
    by_hand None g e = refl
    by_hand (Some id) g e =
        let is = good.held w id g in
        let known = state-known b.slots id (λ h. held-open w (sym is ∙ h)) in
        absurd (true≢false (sym (held_by-itself w) ∙ ap (is_held_by w) (sym is) ∙ first_slot-none b (is_held_by w) e id known))

    by_first : (o : Option ℕ) → first_slot b (is_held_by w) ≡ o → hand_at hands w ≡ o
    by_first None e = by_hand (hand_at hands w) refl e
    by_first (Some id) e = good.hand w id (held_by-is w (slot_at b id).state (first_slot-at b (is_held_by w) id e).1)

pub hand-past : (hands : List (Option ℕ)) (w : ℕ) → length hands ≤ w → hand_at hands w ≡ None
hand-past [] w past = refl
hand-past (h ∷ hs) zero past = absurd (omega (arith, past))
hand-past (h ∷ hs) (suc w) past = hand-past hs w (omega (arith, past))

hand-some : (hands : List (Option ℕ)) (w id : ℕ) → hand_at hands w ≡ Some id → has_some hands ≡ true
hand-some [] w id e = absurd (none-some id e)
hand-some (None ∷ hs) zero id e = absurd (none-some id e)
hand-some (None ∷ hs) (suc w) id e = hand-some hs w id e
hand-some (Some k ∷ hs) w id e = refl

some-hand : (hands : List (Option ℕ)) → has_some hands ≡ true → (w : ℕ) × (id : ℕ) × (hand_at hands w ≡ Some id)
some-hand [] e = absurd (false≢true e)
some-hand (None ∷ hs) e = let rest = some-hand hs e in (suc rest.0, rest.1, rest.2)
some-hand (Some k ∷ hs) e = (0, k, refl)

-- some hand holds a slot where some slot is held
pub some-held : (b : Book) (hands : List (Option ℕ)) → AreHands b.slots hands → has_some hands ≡ has_slot b is_held
some-held b hands good = by_value (has_some hands) (has_slot b is_held) refl refl
  where
    by_value : (s t : Bool) → has_some hands ≡ s → has_slot b is_held ≡ t → s ≡ t
    by_value true true e f = refl
    by_value false false e f = refl
    by_value true false e f =
        let hand = some-hand hands e in
        let is = good.held hand.0 hand.1 hand.2 in
        let known = state-known b.slots hand.1 (λ h. held-open hand.0 (sym is ∙ h)) in
        absurd (true≢false (sym (list_any_at (λ (s : Slot). is_held s.state) b.slots hand.1 no_slot known (ap is_held is)) ∙ f))
    by_value false true e f =
        let any = Any-from_list_any (λ (s : Slot). is_held s.state) b.slots f in
        let held = held-is any.1.state any.4 in
        let state : state_in b.slots any.0 ≡ slot.Held held.0 = default_of b.slots any.0 any.1 any.2 any.3 ∙ held.1 in
        absurd (true≢false (sym (hand-some hands held.0 any.0 (good.hand held.0 any.0 state)) ∙ e))
      where
        default_of : (xs : List Slot) (k : ℕ) (s : Slot) → k < length xs → slice_index_or xs k s ≡ s → (slice_index_or xs k no_slot).state ≡ s.state
        default_of [] k s known is = absurd (omega (arith, known))
        default_of (x ∷ xs) zero s known is = ap (λ (t : Slot). t.state) is
        default_of (x ∷ xs) (suc k) s known is = default_of xs k s (omega (arith, known)) is
