-- Closing the parked slots at the end.
use Rattle.std.proofs.Common.{◌≡◌, ℕ, suc, ◌+◌, ◌<◌, ◌≤◌, length, inl, inr, refl, sym, ap, ◌∙◌, subst, arith, Bool, true, false, not, cond, ◌||◌, nat_lt, Some, None, true≢false}
use Rattle.std.proofs.lemmas.Bool.Decides.{leb_tells, eqb_tells}
use Rattle.std.proofs.lemmas.List.{length-set}
use Rattle.book_rules.specs.declared.book.SlotState.{SlotState}
use Rattle.book_rules.specs.declared.book.SlotState.TheVariants as slot
use Rattle.book_rules.specs.Book.{Book, Slot, slot_at, best_cost, is_back, is_held, is_parked}
use Rattle.book_rules.specs.Cheap.{opening_cost}
use Rattle.book_rules.specs.Ends.{HasNone, HoldsNothing, EndsWell, is_open}
use Rattle.book_rules.specs.Events as machine
use Rattle.book_rules.specs.Events.{close}
use Rattle.book_rules.specs.Step
use Rattle.book_rules.proofs.MoveLemmas.{state-known}
use Rattle.book_rules.proofs.TurnLemmas.{turned-at, Turned, Untouched}
use Rattle.book_core.specs.declared.reply.Reply.{Reply}
use Rattle.book_core.specs.Replies.{Answers}
use Rattle.solve_workers.specs.Holding.{IsDone, IsTidied}
use Rattle.solve_workers.proofs.ToldLemmas.{Answer}
use Rattle.solve_workers.proofs.FreeLemmas.{none-at}
use Rattle.closing_rules.specs.declared.grounds.Ground.TheVariants as by

abbrev Out : Type 0
Out = Book × Answer

pub tidied_none : (b : Book) → HoldsNothing b → IsDone b → IsTidied b 0
tidied_none b free done = record { free = free; done = done; parked = record { cheap = λ id c p less. absurd (omega (arith, less)) } }

-- a slot that is closed, or left as it is where it isn't parked or its bound is below the best cost
data TidyOut (b : Book) (id : ℕ) (out : Out) : Type 0 where
  Closes : is_parked (slot_at b id).state ≡ true → out.0 ≡ Step.closed b id by.Bound → TidyOut b id out
  Leaves : ((c p : ℕ) → (slot_at b id).state ≡ slot.Parked c p → (slot_at b id).bound < best_cost b) → out.0 ≡ b → TidyOut b id out

module _ (b : Book) (id : ℕ) (free : HoldsNothing b) where
  off : is_held (slot_at b id).state ≡ false
  off = none-at b is_held refl free id

  by_low : is_parked (slot_at b id).state ≡ true → (t : Bool) → nat_lt (slot_at b id).bound (best_cost b) ≡ t
      → TidyOut b id (Step.close_unless b id by.Bound (cond t (Some (machine.Cheaper (slot_at b id).bound (best_cost b))) None))
  by_low parked true e = elim (leb_tells (suc (slot_at b id).bound) (best_cost b)) [
    | inl y ↦ Leaves (λ c p is. y.1) refl
    | inr n ↦ absurd (true≢false (sym e ∙ n.0))
  ]
  by_low parked false e = Closes parked refl

  by_parked : (t : Bool) → is_parked (slot_at b id).state ≡ t
      → TidyOut b id (cond (not t) (b, machine.NotHeld id) (Step.close_unless b id by.Bound (Step.refusal_of b id by.Bound)))
  by_parked true e = by_low e _ refl
  by_parked false e = Leaves (λ c p is. absurd (true≢false (sym (ap is_parked is) ∙ e))) refl

  tidy-out : TidyOut b id (Step.close_step b id by.Bound)
  tidy-out =
      let rest : Out = Step.close_unless b id by.Bound (Step.refusal_of b id by.Bound) in
      let test : is_parked (slot_at b id).state ≡ Step.may_close b id = (λ j. sym off j || is_parked (slot_at b id).state) in
      subst (λ t. TidyOut b id (cond (not t) (b, machine.NotHeld id) rest)) test (by_parked (is_parked (slot_at b id).state) refl)

-- a parked slot is closed, and all else stays
module _ (b : Book) (id : ℕ) (parked : is_parked (slot_at b id).state ≡ true) where
  abbrev shut : Book
  shut = Step.closed b id by.Bound

  here : id < length b.slots
  here = state-known b id (slot_at b id).state refl (λ e. true≢false (sym parked ∙ ap is_parked e))

  long : length shut.slots ≡ length b.slots
  long = length-set b.slots id (record (slot_at b id) { state = slot.Closed by.Bound })

  -- a test that fails of every slot still does
  still : (test : SlotState → Bool) → test (slot.Closed by.Bound) ≡ false → HasNone b test → HasNone shut test
  still test plain has = record {
    none = λ k known. elim (turned-at b id (slot.Closed by.Bound) here k) [
      | Turned is e ↦ ap (λ (s : Slot). test s.state) e ∙ plain
      | Untouched other e ↦ ap (λ (s : Slot). test s.state) e ∙ none-at b test plain has k
    ];
  }

  still-done : IsDone b → IsDone shut
  still-done done = elim done.left [
    | inl none ↦ record { left = inl (still is_open refl none) }
    | inr spent ↦ record {
      left = inr (record {
        used = spent.used;
        back = still is_back refl spent.back;
        id = spent.id;
        known = let l = long in let k = spent.known in omega (arith, l, k);
        fresh = elim (turned-at b id (slot.Closed by.Bound) here spent.id) [
          | Turned is e ↦ absurd (true≢false (sym parked ∙ ap (λ n. is_parked (slot_at b n).state) (sym is) ∙ ap is_parked spent.fresh))
          | Untouched other e ↦ ap (λ (s : Slot). s.state) e ∙ spent.fresh
        ];
      });
    }
  ]

  parked-old : (k c p : ℕ) → (slot_at shut k).state ≡ slot.Parked c p → ((slot_at b k).state ≡ slot.Parked c p) × ((slot_at shut k).bound ≡ (slot_at b k).bound)
  parked-old k c p is = elim (turned-at b id (slot.Closed by.Bound) here k) [
    | Turned same e ↦ absurd (true≢false (ap is_parked (sym is) ∙ ap (λ (s : Slot). is_parked s.state) e))
    | Untouched other e ↦ (sym (ap (λ (s : Slot). s.state) e) ∙ is, ap (λ (s : Slot). s.bound) e)
  ]

  off-now : (c p : ℕ) → (slot_at shut id).state ≡ slot.Parked c p → ⊥
  off-now c p is = elim (turned-at b id (slot.Closed by.Bound) here id) [
    | Turned same e ↦ true≢false (ap is_parked (sym is) ∙ ap (λ (s : Slot). is_parked s.state) e)
    | Untouched other e ↦ other refl
  ]

  closed-more : IsTidied b id → IsTidied shut (id + 1)
  closed-more tidied = record {
    free = still is_held refl tidied.free;
    done = still-done tidied.done;
    parked = record {
      cheap = λ k c p less is. elim (eqb_tells k id) [
        | inl y ↦ absurd (off-now c p (subst (λ n. (slot_at shut n).state ≡ slot.Parked c p) y.1 is))
        | inr n ↦
            let old = parked-old k c p is in
            let low = tidied.parked.cheap k c p (let other = n.1 in omega (arith, less, other)) old.0 in
            omega (arith, low, old.1)
      ];
    };
  }

left-more : (b : Book) (id : ℕ) → ((c p : ℕ) → (slot_at b id).state ≡ slot.Parked c p → (slot_at b id).bound < best_cost b) → IsTidied b id → IsTidied b (id + 1)
left-more b id low tidied = record {
  free = tidied.free;
  done = tidied.done;
  parked = record {
    cheap = λ k c p less is. elim (eqb_tells k id) [
      | inl y ↦ subst (λ n. (slot_at b n).bound < best_cost b) (sym y.1) (low c p (subst (λ n. (slot_at b n).state ≡ slot.Parked c p) y.1 is))
      | inr n ↦ tidied.parked.cheap k c p (let other = n.1 in omega (arith, less, other)) is
    ];
  };
}

-- a slot that isn't parked is passed
pub tidied_past : (b : Book) (id : ℕ) → is_parked (slot_at b id).state ≡ false → IsTidied b id → IsTidied b (id + 1)
tidied_past b id off tidied = left-more b id (λ c p is. absurd (true≢false (sym (ap is_parked is) ∙ off))) tidied

more-by : (b : Book) (id : ℕ) (out : Out) → IsTidied b id → TidyOut b id out → IsTidied out.0 (id + 1)
more-by b id out tidied (Closes parked same) = subst (λ u. IsTidied u (id + 1)) (sym same) (closed-more b id parked tidied)
more-by b id out tidied (Leaves low same) = subst (λ u. IsTidied u (id + 1)) (sym same) (left-more b id low tidied)

pub tidied_more : (b : Book) (id : ℕ) (r : Reply) (new : Book) → IsTidied b id → Answers b (close id by.Bound) r new → IsTidied new (id + 1)
tidied_more b id r new tidied answers = subst (λ (o : Out). IsTidied o.0 (id + 1)) answers.same (more-by b id (Step.close_step b id by.Bound) tidied (tidy-out b id tidied.free))

length-by : (b : Book) (id : ℕ) (out : Out) → TidyOut b id out → length out.0.slots ≡ length b.slots
length-by b id out (Closes parked same) = ap (λ (u : Book). length u.slots) same ∙ length-set b.slots id (record (slot_at b id) { state = slot.Closed by.Bound })
length-by b id out (Leaves low same) = ap (λ (u : Book). length u.slots) same

pub tidied_length : (b : Book) (id : ℕ) (r : Reply) (new : Book) → IsTidied b id → Answers b (close id by.Bound) r new → length new.slots ≡ length b.slots
tidied_length b id r new tidied answers = sym (ap (λ (o : Out). length o.0.slots) answers.same) ∙ length-by b id (Step.close_step b id by.Bound) (tidy-out b id tidied.free)

pub tidied_ends : (b : Book) (n limit : ℕ) → length b.slots ≤ n → opening_cost b ≤ limit → IsTidied b n → EndsWell limit b
tidied_ends b n limit all opening tidied = record {
  free = tidied.free;
  opening = opening;
  parked = record { low = λ id c p here is. tidied.parked.cheap id c p (omega (arith, here, all)) is };
  left = tidied.done.left;
}
