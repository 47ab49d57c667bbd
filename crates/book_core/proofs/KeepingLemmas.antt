-- What is shown of a slot changes, and nothing else of the slots; the entries of costs that were shown.
use Rattle.std.proofs.Common.{◌≡◌, ℕ, zero, suc, ◌+◌, ◌*◌, ◌<◌, ◌≤◌, List, [], ◌∷◌, ◌++◌, length, length-append, vec_len, vec_capacity, refl, sym, ap, ◌∙◌, subst, arith, Bool, false, cond, count_by, slice_index_or, slice_set, inl, inr, Some, None, Ok, Err, IfOk, IfErr}
use Rattle.std.specs.Result.{IsErr}
use Rattle.std.specs.declared.result.Result.{Result}
use Rattle.std.proofs.lemmas.Bool.{false≢true}
use Rattle.std.specs.declared.option.Option.{Option}
use Rattle.std.proofs.lemmas.Bool.Decides.{eqb_tells}
use Rattle.std.proofs.lemmas.List.{length-set, get_or-set_same, get_or-set_other}
use Rattle.std.proofs.lemmas.List.Sums.{sum_by-append, count_by_more_no}
use Rattle.lock_model.specs.declared.instance.Instance.{Instance}
use Rattle.lock_rules.specs.Node.{Node}
use Rattle.book_rules.specs.declared.book.Entry.{Entry}
use Rattle.book_rules.specs.declared.book.Entry.TheVariants as entry
use Rattle.book_rules.specs.declared.book.ShownLow.{ShownLow}
use Rattle.book_rules.specs.Book.{Book, Slot, no_slot}
use Rattle.book_rules.specs.History.{is_show_low}
use Rattle.book_rules.specs.Step.{low_shown}
use Rattle.book_core.specs.declared.book.Book.TheInside.{Inside}
use Rattle.book_core.specs.declared.stored_slot.StoredSlot.{StoredSlot}
use Rattle.book_core.specs.declared.waiting.Waiting.{Waiting}
use Rattle.book_core.specs.Changes.{slot_in}
use Rattle.book_core.specs.Keeps.{AreTables, CountsLows}
use Rattle.book_core.specs.Seen.{seen, IsKept}
use Rattle.book_core.specs.Stored.{node_after, slot_with, slots_after, slots_of}
use Rattle.book_core.specs.Tables.{state_in}
use Rattle.book_core.proofs.HeldLemmas.{KeepsNodes}
use Rattle.book_core.proofs.KeptLemmas.{length-slots}
use Rattle.book_core.proofs.WaitingLemmas.{waiting-kept}

-- ---- what is told with a refusal

-- nothing is told of a value
pub no_value : {T E : Type 0} (P : T → Type 0) (r : Result T E) → IsErr r → IfOk r P
no_value P (Ok x) err = absurd (false≢true err)
no_value P (Err e) err = tt

-- what holds anyway
pub if_refused : {T E : Type 0} {P : Type 0} (r : Result T E) → P → IfErr r (λ _. P)
if_refused (Ok x) p = tt
if_refused (Err e) p = p

-- ---- the entries of costs that were shown

one-added : (es : List Entry) (e : Entry) (new : List Entry) → new ≡ es ++ e ∷ [] → count_by is_show_low new ≡ count_by is_show_low es + count_by is_show_low (e ∷ [])
one-added es e new more = ap (count_by is_show_low) more ∙ sum_by-append (λ x. cond (is_show_low x) 1 0) es (e ∷ [])

-- another entry
pub lows-kept : (es : List Entry) (n : ℕ) (e : Entry) (new : List Entry) → CountsLows es n → is_show_low e ≡ false → new ≡ es ++ e ∷ [] → CountsLows new n
lows-kept es n e new old other more =
    let one : count_by is_show_low (e ∷ []) ≡ 0 = count_by_more_no is_show_low (e ∷ []) 0 e (omega arith) other in
    record { count = omega (arith, old.count, one-added es e new more, one) }

-- one more cost
pub lows-more : (es : List Entry) (n : ℕ) (id : ℕ) (low : ShownLow) (new : List Entry) (m : ℕ) → CountsLows es n → m ≡ n + 1 → new ≡ es ++ entry.ShowLow id low ∷ [] → CountsLows new m
lows-more es n id low new m old next more =
    let one : count_by is_show_low (entry.ShowLow id low ∷ []) ≡ 1 = refl in
    record { count = omega (arith, old.count, one-added es (entry.ShowLow id low) new more, one, next) }

-- ---- slots that keep all but what is shown of them

abbrev pub unshown : Slot → Slot
unshown s = record s { shown = None }

pub record KeepsRest (old new : List Slot) : Type 0 where
  pub count : length new ≡ length old
  pub rest : (k : ℕ) → unshown (slot_in new k) ≡ unshown (slot_in old k)

abbrev pub show_in : List Slot → ℕ → Option ShownLow → List Slot
show_in slots id shown = slice_set slots id (record (slot_in slots id) { shown = shown })

pub shown-rest : (slots : List Slot) (id : ℕ) (shown : Option ShownLow) → id < length slots → KeepsRest slots (show_in slots id shown)
shown-rest slots id shown known =
    let new : Slot = record (slot_in slots id) { shown = shown } in
    let here : slot_in (show_in slots id shown) id ≡ new = get_or-set_same slots id new no_slot known in
    record {
      count = length-set slots id new;
      rest = λ k. elim (eqb_tells k id) [
        | inl y ↦ ap (λ i. unshown (slot_in (show_in slots id shown) i)) y.1 ∙ ap unshown here ∙ ap (λ i. unshown (slot_in slots i)) (sym y.1)
        | inr n ↦ ap unshown (get_or-set_other slots id k new no_slot n.1)
      ];
    }

module _ (old new : List Slot) (keeps : KeepsRest old new) where
  state-rest : (k : ℕ) → state_in new k ≡ state_in old k
  state-rest k = ap (λ (s : Slot). s.state) (keeps.rest k)

  pub nodes-rest : KeepsNodes old new
  nodes-rest = record { count = omega (arith, keeps.count); node = λ k known. ap (λ (s : Slot). s.node) (keeps.rest k) }

  pub tables-rest : (ended : List Bool) (hands : List (Option ℕ)) (back : List ℕ) (waiting : List Waiting) → AreTables old ended hands back waiting → AreTables new ended hands back waiting
  tables-rest ended hands back waiting tables = record {
    hands_are = record {
      nine = tables.hands_are.nine;
      held = λ w k e. state-rest k ∙ tables.hands_are.held w k e;
      hand = λ w k e. tables.hands_are.hand w k (sym (state-rest k) ∙ e);
    };
    back_are = record {
      rising = tables.back_are.rising;
      each = λ k among. state-rest k ∙ tables.back_are.each k among;
      all = λ k e. tables.back_are.all k (sym (state-rest k) ∙ e);
    };
    few = tables.few;
    waiting_are = waiting-kept old new (record {
      count = omega (arith, keeps.count);
      parent = λ k known. ap (λ (s : Slot). s.parent) (keeps.rest k);
      fresh = λ k e. sym (state-rest k) ∙ e;
      split = λ k first e. state-rest k ∙ e;
    }) waiting tables.waiting_are;
  }

-- ---- what is shown of a stored slot

abbrev pub reshown : StoredSlot → Option ShownLow → StoredSlot
reshown r shown = record { bound = r.bound; shown = shown; state = r.state; parent = r.parent; number = r.number }

stored-shown : (I : Instance) (done : List Node) (ss : List StoredSlot) (i : ℕ) (d : StoredSlot) (shown : Option ShownLow) → i < length ss
    → slots_after I done (slice_set ss i (reshown (slice_index_or ss i d) shown)) ≡ show_in (slots_after I done ss) i shown
stored-shown I done [] i d shown known = absurd (omega (arith, known))
stored-shown I [] (s ∷ ss) zero d shown known = refl
stored-shown I (n ∷ ns) (s ∷ ss) zero d shown known = refl
stored-shown I done (s ∷ ss) (suc i) d shown known =
    ap (λ l. slot_with s (node_after I done s) ∷ l) (stored-shown I (done ++ node_after I done s ∷ []) ss i d shown (omega (arith, known)))

module _ (a : Inside) (b : Book) (same : seen a ≡ b) (id : ℕ) (known : id < length a.slots.items) (r : StoredSlot) (is : r ≡ slice_index_or a.slots.items id r) (low : ShownLow) where
  abbrev S : List Slot
  S = slots_of a.case.instance a.slots.items

  abbrev pub new_slots : List Slot
  new_slots = slots_of a.case.instance (slice_set a.slots.items id (reshown r (Some low)))

  slots-shown : new_slots ≡ show_in S id (Some low)
  slots-shown =
      ap (λ (q : StoredSlot). slots_of a.case.instance (slice_set a.slots.items id (reshown q (Some low)))) is
      ∙ stored-shown a.case.instance [] a.slots.items id r (Some low) known

  pub slots-rest : KeepsRest S new_slots
  slots-rest = subst (KeepsRest S) (sym slots-shown) (shown-rest S id (Some low) (omega (arith, known, length-slots a.case.instance a.slots.items)))

  -- the book that the new fields show
  pub low-is : (history : List Entry) → history ≡ a.history.items ++ entry.ShowLow id low ∷ [] → record (seen a) { slots = new_slots; history = history } ≡ low_shown b id low
  low-is history more = (λ i. record (seen a) { slots = slots-shown i; history = more i }) ∙ ap (λ u. low_shown u id low) same

-- where a sound book has one entry more, there is room for it
pub one-fits : (a : Inside) → IsKept a → (b : Book) → seen a ≡ b → (e : Entry) (left : ℕ) → is_show_low e ≡ false
    → length (b.history ++ e ∷ []) + left ≤ 3 * b.case.nodes + 32 + length b.cuts + length b.plans + length b.prices + count_by is_show_low (b.history ++ e ∷ [])
    → vec_len a.history < vec_capacity a.history
one-fits a kept b same e left other room =
    let none : count_by is_show_low (e ∷ []) ≡ 0 = count_by_more_no is_show_low (e ∷ []) 0 e (omega arith) other in
    let own : length (a.history.items ++ e ∷ []) + left ≤ 3 * a.case.nodes + 32 + length (seen a).cuts + length (seen a).plans + length (seen a).prices + count_by is_show_low (a.history.items ++ e ∷ []) =
    subst (λ (u : Book). length (u.history ++ e ∷ []) + left ≤ 3 * u.case.nodes + 32 + length u.cuts + length u.plans + length u.prices + count_by is_show_low (u.history ++ e ∷ [])) (sym same) room in
    omega (
      arith,
      own,
      none,
      length-append a.history.items (e ∷ []),
      one-added a.history.items e (a.history.items ++ e ∷ []) refl,
      kept.room.enough,
      kept.lows.count,
      a.history.ok.0,
    )
