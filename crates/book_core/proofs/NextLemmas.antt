-- The Fresh slot that is taken next.
use Rattle.std.proofs.Common.{◌≡◌, ◌≢◌, ℕ, zero, suc, ◌<◌, ◌≤◌, List, [], ◌∷◌, length, take, refl, sym, ap, ◌∙◌, subst, arith, Bool, true, false, slice_index_or, inl, inr, Some, None, true≢false}
use Rattle.std.specs.Prelude.{IfSome, IfNone}
use Rattle.std.specs.declared.option.Option.{Option}
use Rattle.std.proofs.lemmas.Bool.Decides.{eqb_tells, leb_tells}
use Rattle.std.proofs.lemmas.List.{get_or-take, length-take-le}
use Rattle.lock_model.specs.declared.instance.Instance.{Instance}
use Rattle.book_rules.specs.declared.book.SlotState.TheVariants as slot
use Rattle.book_rules.specs.Book.{Book, Slot, slot_at, is_fresh}
use Rattle.book_rules.specs.NextSlot.{next_fresh}
use Rattle.book_rules.specs.Waiting.{IsFreshChild}
use Rattle.book_rules.proofs.SlotLemmas.{fresh-is}
use Rattle.book_rules.proofs.NextLemmas.{next_fresh-is, next_fresh-none}
use Rattle.book_core.specs.declared.stored_slot.StoredSlot.{StoredSlot}
use Rattle.book_core.specs.declared.waiting.Waiting.{Waiting}
use Rattle.book_core.specs.Stored.{slots_of, IsStoredAs}
use Rattle.book_core.specs.Tables.{state_in, waiting_at, IsWaiting, IsInEntry, AreWaiting}
use Rattle.book_core.specs.Changes.{slot_in}
use Rattle.book_core.specs.Next.{stored_at, HasNoFresh, IsLeastIn, IsLeastUpTo, StandsBefore, IsNext, HasNoneFresh}
use Rattle.book_core.specs.Keeps.{IsSound}
use Rattle.book_core.proofs.HandLemmas.{state-known}
use Rattle.book_core.proofs.StoredLemmas.{stored-at}
use Rattle.book_core.proofs.KeptLemmas.{length-slots, slot-past}
use Rattle.closing_rules.specs.declared.grounds.Ground.TheVariants as by

stored-past : (ss : List StoredSlot) (id : ℕ) → length ss ≤ id → stored_at ss id ≡ record { bound = 0; shown = None; state = slot.Closed by.Bound; parent = 0; number = 0 }
stored-past [] id past = refl
stored-past (s ∷ ss) zero past = absurd (omega (arith, past))
stored-past (s ∷ ss) (suc id) past = stored-past ss id (omega (arith, past))

-- what is stored at any number, behind the last slot too
pub stored-any : (I : Instance) (ss : List StoredSlot) (id : ℕ) → IsStoredAs (stored_at ss id) (slot_in (slots_of I ss) id)
stored-any I ss id = elim (leb_tells (suc id) (length ss)) [
  | inl y ↦ stored-at I [] ss id (record { bound = 0; shown = None; state = slot.Closed by.Bound; parent = 0; number = 0 }) y.1
  | inr n ↦
      let past : length ss ≤ id = omega (arith, n.1) in
      let is = slot-past (slots_of I ss) id (omega (arith, past, length-slots I ss)) in
      let stored = stored-past ss id past in
      record {
        parent = ap (λ (s : Slot). s.parent) is ∙ ap (λ (s : StoredSlot). s.parent) (sym stored);
        number = ap (λ (s : Slot). s.number) is ∙ ap (λ (s : StoredSlot). s.number) (sym stored);
        bound = ap (λ (s : Slot). s.bound) is ∙ ap (λ (s : StoredSlot). s.bound) (sym stored);
        shown = ap (λ (s : Slot). s.shown) is ∙ ap (λ (s : StoredSlot). s.shown) (sym stored);
        state = ap (λ (s : Slot). s.state) is ∙ ap (λ (s : StoredSlot). s.state) (sym stored);
      }
]

-- the value at a place, whatever the default
waiting-any : (ws : List Waiting) (k : ℕ) (w : Waiting) → k < length ws → w ≡ slice_index_or ws k w → waiting_at ws k ≡ w
waiting-any [] k w known is = absurd (omega (arith, known))
waiting-any (v ∷ ws) zero w known is = sym is
waiting-any (v ∷ ws) (suc k) w known is = waiting-any ws k w (omega (arith, known)) is

module _ (I : Instance) (ss : List StoredSlot) (ws : List Waiting) (good : AreWaiting (slots_of I ss) ws) (n : ℕ) (count : suc n ≡ length ws) (last : Waiting) (is : last ≡ slice_index_or ws n last) where
  abbrev slots : List Slot
  slots = slots_of I ss

  last-is : waiting_at ws n ≡ last
  last-is = waiting-any ws n last (omega (arith, count)) is

  pub last-waits : IsWaiting slots last
  last-waits = subst (IsWaiting slots) last-is (good.each n (omega (arith, count)))

  state-stored : (k : ℕ) → state_in slots k ≡ slot.Fresh → (stored_at ss k).state ≡ slot.Fresh
  state-stored k e = sym (stored-any I ss k).state ∙ e

  -- where the last split has no Fresh child it leaves the list
  pub waiting-popped : HasNoFresh ss last.first last.end → (ws' : List Waiting) → ws' ≡ take n ws → AreWaiting slots ws'
  waiting-popped none ws' shorter = subst (AreWaiting slots) (sym shorter) (record {
    each = λ k known.
        let less : k < n = omega (arith, known, length-take-le n ws (omega (arith, count))) in
        subst (IsWaiting slots) (sym (get_or-take n ws k (record { split = 0; first = 0; end = 0 }) less)) (good.each k (omega (arith, less, count)));
    rising = λ k l less known.
        let far : l < n = omega (arith, known, length-take-le n ws (omega (arith, count))) in
        let near : k < n = omega (arith, less, far) in
        let at_k = ap (λ (w : Waiting). w.first) (get_or-take n ws k (record { split = 0; first = 0; end = 0 }) near) in
        let at_l = ap (λ (w : Waiting). w.first) (get_or-take n ws l (record { split = 0; first = 0; end = 0 }) far) in
        let old = good.rising k l less (omega (arith, far, count)) in
        omega (arith, at_k, at_l, old);
    all = λ id some e. let found = good.all id some e in (found.0, stays id e found.0 found.1);
  })
    where
      stays : (id : ℕ) → state_in slots id ≡ slot.Fresh → (place : ℕ) → IsInEntry ws id place → IsInEntry (take n ws) id place
      stays id e place h = elim (eqb_tells place n) [
        | inl y ↦
            let same : waiting_at ws place ≡ last = ap (waiting_at ws) y.1 ∙ last-is in
            let from : last.first ≤ id = subst (λ (w : Waiting). w.first ≤ id) same h.from in
            let before : id < last.end = subst (λ (w : Waiting). id < w.end) same h.before in
            absurd (none.each id from before (state-stored id e))
        | inr m ↦
            let known = h.known in
            let less : place < n = omega (arith, known, count, m.1) in
            let same = get_or-take n ws place (record { split = 0; first = 0; end = 0 }) less in
            record {
              known = omega (arith, less, length-take-le n ws (omega (arith, count)));
              from = subst (λ (w : Waiting). w.first ≤ id) (sym same) h.from;
              before = subst (λ (w : Waiting). id < w.end) (sym same) h.before;
            }
      ]

  -- its best Fresh child is next
  pub least-next : (id : ℕ) → IsLeastIn ss last.first last.end id → IsNext slots id
  least-next id h = record {
    entry = last;
    waits = last-waits;
    from = h.from;
    before = h.before;
    fresh = (stored-any I ss id).state ∙ h.fresh;
    least = λ other from before e. let best = (h.best other from before (state-stored other e)).least in omega (arith, best, (stored-any I ss id).bound, (stored-any I ss other).bound);
    tie = λ other from before e less. let best = (h.best other from before (state-stored other e)).tie less in omega (arith, best, (stored-any I ss id).bound, (stored-any I ss other).bound);
    last = λ other some e. let found = good.all other some e in stands other found.0 found.1;
  }
    where
      stands : (other place : ℕ) → IsInEntry ws other place → StandsBefore slots last.first other
      stands other place h = record {
        entry = waiting_at ws place;
        waits = good.each place h.known;
        from = h.from;
        before = h.before;
        least = at_most;
      }
        where
          at_most : (waiting_at ws place).first ≤ last.first
          at_most = elim (eqb_tells place n) [
            | inl y ↦ let same = ap (λ (w : Waiting). w.first) (ap (waiting_at ws) y.1 ∙ last-is) in omega (arith, same)
            | inr m ↦
                let known = h.known in
                let less : place < n = omega (arith, known, count, m.1) in
                let rises = good.rising place n less (omega (arith, count)) in
                let same = ap (λ (w : Waiting). w.first) last-is in
                omega (arith, rises, same)
          ]

some-number : (n : ℕ) → n ≢ 0 → 0 < n
some-number zero other = absurd (other refl)
some-number (suc n) other = omega arith

split-same : (m n : ℕ) → slot.Split m ≡ slot.Split n → m ≡ n
split-same m n e = cc

fresh-open : slot.Fresh ≢ slot.Closed by.Bound
fresh-open e = cc

module _ (b : Book) (sound : IsSound b) (root : is_fresh (slot_at b 0).state ≡ false) where
  not-root : (id : ℕ) → (slot_at b id).state ≡ slot.Fresh → id ≢ 0
  not-root id e zero_is = true≢false (sym (ap is_fresh (ap (λ k. (slot_at b k).state) (sym zero_is) ∙ e)) ∙ root)

  -- the children of the next one's split
  pub next-is : (id : ℕ) → IsNext b.slots id → next_fresh b ≡ Some id
  next-is id h =
      let child : IsFreshChild b h.entry.split id = record {
        known = state-known b.slots id (λ e. fresh-open (sym h.fresh ∙ e));
        some = not-root id h.fresh;
        fresh = h.fresh;
        below = h.waits.child id h.from h.before;
      } in
      next_fresh-is b sound.parts.family root h.entry.split h.entry.first id
      (record {
        split = h.waits.split;
        last = λ other p f kid split.
            let some = kid.some in
            let stands = h.last other (omega (arith, some)) kid.fresh in
            let same : p ≡ stands.entry.split = sym kid.below ∙ stands.waits.child other stands.from stands.before in
            let first : f ≡ stands.entry.first = split-same f stands.entry.first (sym split ∙ ap (λ k. (slot_at b k).state) same ∙ stands.waits.split) in
            let least = stands.least in
            omega (arith, first, least);
      })
      (record {
        child = child;
        least = λ other kid. let within = h.waits.only other (some-number other kid.some) kid.fresh kid.below in h.least other within.0 within.1 kid.fresh;
        tie = λ other kid less. let within = h.waits.only other (some-number other kid.some) kid.fresh kid.below in h.tie other within.0 within.1 kid.fresh less;
      })

  pub next-none : HasNoneFresh b.slots → next_fresh b ≡ None
  next-none none = next_fresh-none b (λ id known. by_state id (is_fresh (slot_at b id).state) refl)
    where
      by_state : (id : ℕ) (t : Bool) → is_fresh (slot_at b id).state ≡ t → t ≡ false
      by_state id false e = refl
      by_state id true e =
          let is = fresh-is (slot_at b id).state e in
          let some = not-root id is in
          absurd (none.each id (omega (arith, some)) is)

-- what the list of waiting splits gives
pub next-value : (b : Book) → IsSound b → is_fresh (slot_at b 0).state ≡ false → (slots : List Slot) → slots ≡ b.slots → (o : Option ℕ) → IfSome o (IsNext slots) → IfNone o (HasNoneFresh slots) → o ≡ next_fresh b
next-value b sound root slots same (Some id) some none = sym (next-is b sound root id (subst (λ s. IsNext s id) same some))
next-value b sound root slots same None some none = sym (next-none b sound root (subst HasNoneFresh same none))

-- the best of the Fresh slots up to the end, where the walk has come to it or past it
pub up-to-end : (ss : List StoredSlot) (first end id : ℕ) (o : Option ℕ) → (first ≤ end → id ≤ end) → end ≤ id → (end < first → id ≡ first) → IsLeastUpTo ss first id o → IsLeastUpTo ss first end o
up-to-end ss first end id o up past empty least = elim (leb_tells first end) [
  | inl y ↦ let same : id ≡ end = omega (arith, up y.1, past) in subst (λ e. IsLeastUpTo ss first e o) same least
  | inr n ↦ by_best o least
]
  where
    by_best : (p : Option ℕ) → IsLeastUpTo ss first id p → IsLeastUpTo ss first end p
    by_best None h = record { each = λ k from before fresh. h.each k from (omega (arith, before, past)) fresh }
    by_best (Some k) h = elim (leb_tells first end) [
      | inl y ↦ let same : id ≡ end = omega (arith, up y.1, past) in subst (λ e. IsLeastIn ss first e k) same h
      | inr n ↦ let from = h.from in let before = h.before in let at = empty n.1 in absurd (omega (arith, from, before, at))
    ]
