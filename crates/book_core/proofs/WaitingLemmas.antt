-- The list of splits that wait with Fresh children.
use Rattle.std.proofs.Common.{◌≡◌, ◌≢◌, ℕ, zero, suc, ◌<◌, ◌≤◌, List, [], ◌∷◌, ◌++◌, length, refl, sym, ap, ◌∙◌, subst, arith, false, inl, inr, true≢false}
use Rattle.std.proofs.lemmas.Bool.Decides.{eqb_tells, leb_tells}
use Rattle.std.proofs.Math.ListN.{get_or-append}
use Rattle.list_laws.proofs.Lists.{length-push}
use Rattle.book_rules.specs.declared.book.SlotState.{SlotState}
use Rattle.book_rules.specs.declared.book.SlotState.TheVariants as slot
use Rattle.book_rules.specs.Book.{Slot, is_fresh}
use Rattle.book_rules.specs.NextSlot.{is_split}
use Rattle.book_core.specs.declared.waiting.Waiting.{Waiting}
use Rattle.book_core.specs.Tables.{state_in, waiting_at, IsWaiting, IsInEntry, AreWaiting}
use Rattle.book_core.specs.Changes.{Changes, slot_in}
use Rattle.closing_rules.specs.declared.grounds.Ground.TheVariants as by

-- Of new slots: their parents are the old ones, no slot becomes Fresh, and what is split stays so.
pub record Settles (old new : List Slot) : Type 0 where
  pub count : length old ≤ length new
  pub parent : (k : ℕ) → k < length old → (slot_in new k).parent ≡ (slot_in old k).parent
  pub fresh : (k : ℕ) → state_in new k ≡ slot.Fresh → state_in old k ≡ slot.Fresh
  pub split : (k first : ℕ) → state_in old k ≡ slot.Split first → state_in new k ≡ slot.Split first

fresh-known : (slots : List Slot) (k : ℕ) → state_in slots k ≡ slot.Fresh → k < length slots
fresh-known [] k e = absurd (closed e)
  where
    closed : (slot.Closed by.Bound) ≡ slot.Fresh → ⊥
    closed h = cc
fresh-known (s ∷ ss) zero e = omega arith
fresh-known (s ∷ ss) (suc k) e = let rest = fresh-known ss k e in omega (arith, rest)

pub waiting-kept : (old new : List Slot) → Settles old new → (waiting : List Waiting) → AreWaiting old waiting → AreWaiting new waiting
waiting-kept old new settle waiting good = record {
  each = λ k known. entry (waiting_at waiting k) (good.each k known);
  rising = good.rising;
  all = λ id some e. good.all id some (settle.fresh id e);
}
  where
    entry : (w : Waiting) → IsWaiting old w → IsWaiting new w
    entry w h = record {
      split = settle.split w.split w.first h.split;
      within = omega (arith, h.within, settle.count);
      child = λ id from before. settle.parent id (omega (arith, before, h.within)) ∙ h.child id from before;
      order = h.order;
      only = λ id some e parent. let was = settle.fresh id e in h.only id some was (sym (settle.parent id (fresh-known old id was)) ∙ parent);
    }

pub settles : (old new : List Slot) (id : ℕ) (state : SlotState) → Changes old id state new → is_fresh state ≡ false → is_split (state_in old id) ≡ false → Settles old new
settles old new id state change after before = record {
  count = omega (arith, change.count);
  parent = λ k known. ap (λ (s : Slot). s.parent) (change.rest k);
  fresh = λ k e. elim (eqb_tells k id) [
    | inl y ↦ absurd (true≢false (sym (ap is_fresh (sym change.here ∙ ap (state_in new) (sym y.1) ∙ e)) ∙ after))
    | inr n ↦ sym (change.others k n.1) ∙ e
  ];
  split = λ k first e. elim (eqb_tells k id) [
    | inl y ↦ absurd (true≢false (sym (ap is_split (ap (state_in old) (sym y.1) ∙ e)) ∙ before))
    | inr n ↦ change.others k n.1 ∙ e
  ];
}

-- ---- a slot is split

first-at : (xs : List Waiting) (w : Waiting) (k : ℕ) → k < length xs → waiting_at (xs ++ w ∷ []) k ≡ waiting_at xs k
first-at xs w k known = get_or-append xs (w ∷ []) (record { split = 0; first = 0; end = 0 }) k known

last-at : (xs : List Waiting) (w : Waiting) → waiting_at (xs ++ w ∷ []) (length xs) ≡ w
last-at [] w = refl
last-at (x ∷ xs) w = last-at xs w

-- The slots with children behind them: slot id is split, what was there stays, and each child has it as its parent.
pub record Grows (old : List Slot) (id : ℕ) (new : List Slot) : Type 0 where
  pub count : length old ≤ length new
  pub held : is_split (state_in old id) ≡ false
  pub split : state_in new id ≡ slot.Split (length old)
  pub others : (k : ℕ) → k < length old → k ≢ id → state_in new k ≡ state_in old k
  pub parents : (k : ℕ) → k < length old → (slot_in new k).parent ≡ (slot_in old k).parent
  pub kids : (k : ℕ) → length old ≤ k → k < length new → (slot_in new k).parent ≡ id
  pub childless : (k : ℕ) → 0 < k → k < length old → (slot_in old k).parent ≡ id → ⊥

pub waiting-grown : (old new : List Slot) (id : ℕ) → Grows old id new → (ws : List Waiting) → AreWaiting old ws → (w : Waiting) → w ≡ record { split = id; first = length old; end = length new } → AreWaiting new (ws ++ w ∷ [])
waiting-grown old new id grow ws good w is = record {
  each = λ k known. elim (leb_tells (suc k) (length ws)) [
    | inl y ↦ subst (IsWaiting new) (sym (first-at ws w k y.1)) (entry (waiting_at ws k) (good.each k y.1))
    | inr n ↦
        let same : k ≡ length ws = omega (arith, known, n.1, length-push ws w) in
        subst (IsWaiting new) (sym (ap (waiting_at (ws ++ w ∷ [])) same ∙ last-at ws w ∙ is)) own
  ];
  rising = λ k l less known. elim (leb_tells (suc l) (length ws)) [
    | inl y ↦
        let near : k < length ws = omega (arith, less, y.1) in
        let at_k = ap (λ (v : Waiting). v.first) (first-at ws w k near) in
        let at_l = ap (λ (v : Waiting). v.first) (first-at ws w l y.1) in
        let rises = good.rising k l less y.1 in
        omega (arith, at_k, at_l, rises)
    | inr n ↦
        let same : l ≡ length ws = omega (arith, known, n.1, length-push ws w) in
        let near : k < length ws = omega (arith, less, same) in
        let at_k = ap (λ (v : Waiting). v.first) (first-at ws w k near) in
        let at_l = ap (λ (v : Waiting). v.first) (ap (waiting_at (ws ++ w ∷ [])) same ∙ last-at ws w ∙ is) in
        let order = (good.each k near).order in
        let within = (good.each k near).within in
        omega (arith, at_k, at_l, order, within)
  ];
  all = λ k some e. elim (leb_tells (suc k) (length old)) [
    | inl y ↦ let found = good.all k some (was-fresh k y.1 e) in (found.0, kept k found.0 found.1)
    | inr n ↦
        let last : waiting_at (ws ++ w ∷ []) (length ws) ≡ record { split = id; first = length old; end = length new } = last-at ws w ∙ is in
        let from = ap (λ (v : Waiting). v.first) last in
        let before = ap (λ (v : Waiting). v.end) last in
        let known = fresh-known new k e in
        (length ws, record { known = omega (arith, length-push ws w); from = omega (arith, from, n.1); before = omega (arith, before, known) })
  ];
}
  where
    fresh-split : slot.Fresh ≡ slot.Split (length old) → ⊥
    fresh-split h = cc

    was-fresh : (k : ℕ) → k < length old → state_in new k ≡ slot.Fresh → state_in old k ≡ slot.Fresh
    was-fresh k known e = elim (eqb_tells k id) [
      | inl y ↦ absurd (fresh-split (sym e ∙ ap (state_in new) y.1 ∙ grow.split))
      | inr n ↦ sym (grow.others k known n.1) ∙ e
    ]

    split-known : (slots : List Slot) (k first : ℕ) → state_in slots k ≡ slot.Split first → k < length slots
    split-known [] k first e = absurd (closed e)
      where
        closed : (slot.Closed by.Bound) ≡ slot.Split first → ⊥
        closed h = cc
    split-known (s ∷ ss) zero first e = omega arith
    split-known (s ∷ ss) (suc k) first e = let rest = split-known ss k first e in omega (arith, rest)

    entry : (v : Waiting) → IsWaiting old v → IsWaiting new v
    entry v h =
        let other : v.split ≢ id = λ same. true≢false (sym (ap is_split h.split) ∙ ap (λ k. is_split (state_in old k)) same ∙ grow.held) in
        record {
          split = grow.others v.split (split-known old v.split v.first h.split) other ∙ h.split;
          within = omega (arith, h.within, grow.count);
          child = λ k from before. let known : k < length old = omega (arith, before, h.within) in grow.parents k known ∙ h.child k from before;
          order = h.order;
          only = λ k some e parent. elim (leb_tells (suc k) (length old)) [
            | inl y ↦ h.only k some (was-fresh k y.1 e) (sym (grow.parents k y.1) ∙ parent)
            | inr n ↦ absurd (other (sym parent ∙ grow.kids k (omega (arith, n.1)) (fresh-known new k e)))
          ];
        }

    own : IsWaiting new (record { split = id; first = length old; end = length new })
    own = record {
      split = grow.split;
      within = omega arith;
      child = λ k from before. grow.kids k from before;
      order = grow.count;
      only = λ k some e parent. elim (leb_tells (suc k) (length old)) [
        | inl y ↦ absurd (grow.childless k some y.1 (sym (grow.parents k y.1) ∙ parent))
        | inr n ↦ (omega (arith, n.1), fresh-known new k e)
      ];
    }

    kept : (k place : ℕ) → IsInEntry ws k place → IsInEntry (ws ++ w ∷ []) k place
    kept k place h =
        let known = h.known in
        let same = first-at ws w place known in
        let from = ap (λ (v : Waiting). v.first) same in
        let before = ap (λ (v : Waiting). v.end) same in
        let low = h.from in
        let high = h.before in
        record { known = omega (arith, known, length-push ws w); from = omega (arith, low, from); before = omega (arith, high, before) }
