-- The workers are released, one after the other.
use Rattle.std.proofs.Common.{◌≡◌, ◌≢◌, ℕ, suc, ◌<◌, ◌≤◌, length, inl, inr, refl, sym, ap, ◌∙◌, subst, arith, Bool, true, false, cond, Some, None, slice_index_or, true≢false}
use Rattle.std.proofs.lemmas.Bool.Decides.{leb_tells}
use Rattle.std.specs.declared.option.Option.{Option}
use Rattle.std.proofs.lemmas.List.{get_or-set_same, get_or-set_other}
use Rattle.lock_model.specs.declared.limits.TheConstants.{WORKERS}
use Rattle.book_rules.specs.declared.book.SlotState.{SlotState}
use Rattle.book_rules.specs.declared.book.SlotState.TheVariants as slot
use Rattle.book_rules.specs.Book.{Book, Case, slot_at, first_slot, is_held, is_held_by}
use Rattle.book_rules.specs.Cheap.{opening_cost}
use Rattle.book_rules.specs.Ends.{HoldsNothing}
use Rattle.book_rules.specs.Events as machine
use Rattle.book_rules.specs.Events.{release}
use Rattle.book_rules.specs.Step
use Rattle.book_rules.specs.Workers.{KeepsWorkers}
use Rattle.book_rules.proofs.MoveLemmas.{state-known}
use Rattle.book_rules.proofs.SlotLemmas.{held-is, held_by-itself, first_slot-at, first_slot-none}
use Rattle.book_rules.proofs.WorkerLemmas.{turned-holds, workers-step}
use Rattle.lock_rules.specs.Plan.{cost_of}
use Rattle.book_core.specs.declared.reply.Reply.{Reply}
use Rattle.book_core.specs.Replies.{Answers}
use Rattle.solve_workers.specs.Holding.{IsRunning}
use Rattle.solve_workers.specs.Opening.{IsReady}
use Rattle.solve_workers.specs.Settling.{IsOurs, AreHeldFrom, IsGivenBack, IsFreed}
use Rattle.solve_workers.proofs.ToldLemmas.{Answer}

-- ---- one release

-- worker w has ended, and the slot that it held is given back
record Lets (b : Book) (w : ℕ) (new : Book) : Type 0 where
  case : new.case ≡ b.case
  opening : new.opening ≡ b.opening
  best : new.best ≡ b.best
  cuts : new.cuts ≡ b.cuts
  gone : slice_index_or new.ended w false ≡ true
  others : (v : ℕ) → v ≢ w → slice_index_or new.ended v false ≡ slice_index_or b.ended v false
  held : (id v : ℕ) → (slot_at new id).state ≡ slot.Held v → (slot_at b id).state ≡ slot.Held v

module _ (b : Book) (w : ℕ) (known : w < length b.ended) where
  abbrev out_of : Option ℕ → Book × Answer
  out_of o = Step.release_slot b w o

  slot-lets : (o : Option ℕ) → first_slot b (is_held_by w) ≡ o → Lets b w (out_of o).0
  slot-lets None e = record {
    case = refl;
    opening = refl;
    best = refl;
    cuts = refl;
    gone = get_or-set_same b.ended w true false known;
    others = λ v other. get_or-set_other b.ended w v true false other;
    held = λ id v h. h;
  }
  slot-lets (Some id) e = record {
    case = refl;
    opening = refl;
    best = refl;
    cuts = refl;
    gone = get_or-set_same b.ended w true false known;
    others = λ v other. get_or-set_other b.ended w v true false other;
    held = λ k v h. (turned-holds b id slot.Back (first_slot-at b (is_held_by w) id e).0 refl k v h).0;
  }

  step-lets : (t : Bool) → slice_index_or b.ended w false ≡ t → Lets b w (cond {A = Book × Answer} t (b, machine.Ended w) (out_of (first_slot b (is_held_by w)))).0
  step-lets true e = record { case = refl; opening = refl; best = refl; cuts = refl; gone = e; others = λ v other. refl; held = λ id v h. h }
  step-lets false e = slot-lets (first_slot b (is_held_by w)) refl

  released-lets : (r : Reply) (new : Book) → Answers b (release w) r new → Lets b w new
  released-lets r new answers = subst (Lets b w) (ap (λ (o : Book × Answer). o.0) answers.same) (step-lets (slice_index_or b.ended w false) refl)

-- ---- one after the other

module _ (b : Book) (w : ℕ) (keeps : KeepsWorkers b) (below : w < WORKERS) (r : Reply) (new : Book) (answers : Answers b (release w) r new) where
  lets : Lets b w new
  lets = released-lets b w (let nine = keeps.nine in omega (arith, nine, below)) r new answers

  keeps-new : KeepsWorkers new
  keeps-new =
      let owed : w ≤ WORKERS = omega (arith, below) in
      subst KeepsWorkers (ap (λ (o : Book × Answer). o.0) answers.same) (workers-step (λ _ _. answers.found) b keeps (release w) owed)

  differs : (id v : ℕ) → (slot_at new id).state ≡ slot.Held v → v ≢ w
  differs id v h e = true≢false (sym (subst (λ u. slice_index_or new.ended u false ≡ true) (sym e) lets.gone) ∙ keeps-new.running id v h)

  past : (id v : ℕ) → (slot_at new id).state ≡ slot.Held v → w ≤ v → suc w ≤ v
  past id v h low = elim (leb_tells (suc w) v) [ inl y ↦ y.1 | inr n ↦ absurd (differs id v h (let lower = n.1 in omega (arith, low, lower))) ]

  held : (id v : ℕ) → (slot_at new id).state ≡ slot.Held v → (w ≤ v) × (v < WORKERS) → (suc w ≤ v) × (v < WORKERS)
  held id v h at = (past id v h at.0, at.1)

  pub held_after : AreHeldFrom w b → AreHeldFrom (suc w) new
  held_after from = record { from = λ id v h. held id v h (from.from id v (lets.held id v h)) }

  pub back_after : (old : Book) → IsGivenBack old b → IsGivenBack old new
  back_after old back = record {
    case = lets.case ∙ back.case;
    opening = lets.opening ∙ back.opening;
    best = lets.best ∙ back.best;
    cuts = lets.cuts ∙ back.cuts;
    running = record { running = lets.others WORKERS (λ e. omega (arith, e, below)) ∙ back.running.running };
  }

-- ---- before the first and after the last

not-driver : (b : Book) → first_slot b (is_held_by WORKERS) ≡ None → (id w : ℕ) → (slot_at b id).state ≡ slot.Held w → w ≢ WORKERS
not-driver b empty id w h e =
    let here = state-known b id (slot.Held w) h (λ f. true≢false (ap is_held f)) in
    let by : (slot_at b id).state ≡ slot.Held WORKERS = h ∙ ap slot.Held e in
    true≢false (sym (held_by-itself WORKERS) ∙ ap (is_held_by WORKERS) (sym by) ∙ first_slot-none b (is_held_by WORKERS) empty id here)

below-driver : (w : ℕ) → w ≤ WORKERS → w ≢ WORKERS → w < WORKERS
below-driver w most other = elim (leb_tells (suc w) WORKERS) [ inl y ↦ y.1 | inr n ↦ absurd (other (let lower = n.1 in omega (arith, most, lower))) ]

pub held_at_first : (b : Book) → KeepsWorkers b → first_slot b (is_held_by WORKERS) ≡ None → AreHeldFrom 0 b
held_at_first b keeps empty = record { from = λ id w h. (omega arith, below-driver w (keeps.known id w h) (not-driver b empty id w h)) }

pub back_at_first : (b : Book) → IsRunning b → IsGivenBack b b
back_at_first b running = record { case = refl; opening = refl; best = refl; cuts = refl; running = running }

free-state : (s : SlotState) → ((w : ℕ) → s ≡ slot.Held w → ⊥) → (t : Bool) → is_held s ≡ t → is_held s ≡ false
free-state s never true e = let held = held-is s e in absurd (never held.0 held.1)
free-state s never false e = e

pub free_at_last : (b : Book) → AreHeldFrom WORKERS b → HoldsNothing b
free_at_last b from = record { none = λ id here. free-state (slot_at b id).state (λ w h. let at = from.from id w h in omega (arith, at.0, at.1)) (is_held (slot_at b id).state) refl }

-- ---- what the caller drives on

opening_cost-stays : (old new : Book) → IsGivenBack old new → opening_cost new ≡ opening_cost old
opening_cost-stays old new back = (λ j. cost_of (back.case j).instance (back.opening j))

pub freed_ready : (case : Case) (cost : ℕ) (old new : Book) → IsOurs case cost old → IsFreed old new → IsReady case cost new
freed_ready case cost old new ours freed = record {
  case_is = freed.back.case ∙ ours.case_is;
  opening = let same = opening_cost-stays old new freed.back in let old_cost = ours.opening in omega (arith, same, old_cost);
  free = freed.free;
  running = freed.back.running;
}
