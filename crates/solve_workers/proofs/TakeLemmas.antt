-- Taking a slot while none is held.
use Rattle.std.proofs.Common.{◌≡◌, ℕ, suc, ◌<◌, ◌≤◌, length, inl, inr, refl, sym, ap, ◌∙◌, subst, arith, Bool, true, false, cond, ◌||◌, Some, None, true≢false}
use Rattle.std.proofs.lemmas.Option.{same_Some, none-some}
use Rattle.std.specs.declared.option.Option.{Option}
use Rattle.std.proofs.lemmas.Bool.Decides.{eqb_tells}
use Rattle.lock_model.specs.declared.limits.TheConstants.{WORKERS}
use Rattle.lock_rules.specs.Node.{Node}
use Rattle.mooring_rules.specs.declared.breaks.BrokenPlan.{BrokenPlan}
use Rattle.book_rules.specs.declared.book.SlotState.{SlotState}
use Rattle.book_rules.specs.declared.book.SlotState.TheVariants as slot
use Rattle.book_rules.specs.Book.{Book, Slot, slot_at, first_slot, has_slot, is_fresh, is_back, is_held, is_held_by}
use Rattle.book_rules.specs.Ends.{HoldsNothing, HasNothingOpen, is_open}
use Rattle.book_rules.specs.Events as machine
use Rattle.book_rules.specs.Events.{take}
use Rattle.book_rules.specs.NextSlot.{next_fresh}
use Rattle.book_rules.specs.Room.{room_of}
use Rattle.book_rules.specs.Step
use Rattle.book_rules.proofs.NextLemmas.{first_slot-empty, next_fresh-some}
use Rattle.book_rules.proofs.RoomLemmas.{room-falls}
use Rattle.book_rules.proofs.SlotLemmas.{first_slot-at, first_slot-none, next_fresh-at, fresh-is, held_by-is}
use Rattle.book_rules.proofs.TurnLemmas.{turned-at, Turned, Untouched}
use Rattle.book_core.specs.declared.reply.Reply.{Reply}
use Rattle.book_core.specs.Keeps.{IsSound}
use Rattle.book_core.specs.Replies.{Answers}
use Rattle.solve_workers.specs.Holding.{HoldsOnly, IsRunning, IsDone}
use Rattle.solve_workers.specs.Told.{node_in}
use Rattle.solve_workers.proofs.ToldLemmas.{Answer, given_in, told-node}
use Rattle.solve_workers.proofs.FreeLemmas.{none-at}

abbrev Out : Type 0
Out = Book × Answer

-- a slot is given, or nothing is open, or the nodes are spent
data TakeOut (b : Book) (out : Out) : Type 0 where
  Gives : (id used : ℕ) → id < length b.slots → out ≡ Step.given b WORKERS id used → TakeOut b out
  Ends : given_in out.1 ≡ None → out.0 ≡ b → IsDone b → TakeOut b out

not-held-by : (state : SlotState) → is_held state ≡ false → (t : Bool) → is_held_by WORKERS state ≡ t → t ≡ false
not-held-by state off true e = absurd (true≢false (sym (ap is_held (held_by-is WORKERS state e)) ∙ off))
not-held-by state off false e = refl

module _ (b : Book) (sound : IsSound b) (free : HoldsNothing b) (running : IsRunning b) where
  holds-none : first_slot b (is_held_by WORKERS) ≡ None
  holds-none = first_slot-empty b (is_held_by WORKERS) (λ k here. not-held-by (slot_at b k).state (free.none k here) _ refl)

  nothing-open : first_slot b is_back ≡ None → next_fresh b ≡ None → HasNothingOpen b
  nothing-open no_back no_next = record { none = λ id here. by_fresh id here (is_fresh (slot_at b id).state) refl }
    where
      by_fresh : (id : ℕ) → id < length b.slots → (t : Bool) → is_fresh (slot_at b id).state ≡ t → is_open (slot_at b id).state ≡ false
      by_fresh id here true e = absurd (next_fresh-some b sound.parts.family id (record { known = here; is = fresh-is (slot_at b id).state e }) no_next)
      by_fresh id here false e = let back = first_slot-none b is_back no_back id here in (λ j. e j || back j)

  fresh-out : first_slot b is_back ≡ None → (o : Option ℕ) → next_fresh b ≡ o → TakeOut b (Step.take_fresh b WORKERS o)
  fresh-out no_back None next = by_held (has_slot b is_held)
    where
      done : IsDone b
      done = record { left = inl (nothing-open no_back next) }

      by_held : (t : Bool) → TakeOut b (b, cond t machine.Idle machine.Done)
      by_held true = Ends refl refl done
      by_held false = Ends refl refl done
  fresh-out no_back (Some id) next = elim (eqb_tells b.used b.case.nodes) [
    | inl y ↦
        let at = next_fresh-at b id next in
        let spent : IsDone b = record { left = inr (record { used = y.1; back = record { none = first_slot-none b is_back no_back }; id = id; known = at.known; fresh = at.is }) } in
        subst (TakeOut b) (ap (λ t. cond t (b, machine.NodesSpent b.used) (Step.given b WORKERS id (suc b.used))) (sym y.0)) (Ends refl refl spent)
    | inr n ↦
        let at = next_fresh-at b id next in
        subst (TakeOut b) (ap (λ t. cond t (b, machine.NodesSpent b.used) (Step.given b WORKERS id (suc b.used))) (sym n.0)) (Gives id (suc b.used) at.known refl)
  ]

  slot-out : (o : Option ℕ) → first_slot b is_back ≡ o → TakeOut b (Step.take_slot b WORKERS o)
  slot-out (Some id) e = Gives id b.used (first_slot-at b is_back id e).0 refl
  slot-out None e = fresh-out e (next_fresh b) refl

  take-out : TakeOut b (Step.take_step b WORKERS)
  take-out =
      subst (TakeOut b)
      (sym (ap (λ t. cond t (b, machine.Ended WORKERS) (Step.take_free b WORKERS (first_slot b (is_held_by WORKERS)))) running.running ∙ ap (Step.take_free b WORKERS) holds-none))
      (slot-out (first_slot b is_back) refl)

  -- what was taken is held alone
  given-holds : (id used : ℕ) → id < length b.slots → HoldsOnly (Step.given {Break = BrokenPlan} b WORKERS id used).0 id (slot_at b id).node
  given-holds id used here = record {
    held = elim (turned-at b id (slot.Held WORKERS) here id) [
      | Turned is e ↦ ap (λ (s : Slot). s.state) e
      | Untouched other e ↦ absurd (other refl)
    ];
    others = λ k other. elim (turned-at b id (slot.Held WORKERS) here k) [
      | Turned is e ↦ absurd (other is)
      | Untouched apart e ↦ ap (λ (s : Slot). is_held s.state) e ∙ none-at b is_held refl free k
    ];
    node_is = elim (turned-at b id (slot.Held WORKERS) here id) [
      | Turned is e ↦ ap (λ (s : Slot). s.node) e
      | Untouched other e ↦ absurd (other refl)
    ];
  }

  record IsTaken (id : ℕ) (node : Node) (new : Book) : Type 0 where
    holds : HoldsOnly new id node
    node_of : (slot_at b id).node ≡ node
    here : id < length b.slots

  taken-by : (id : ℕ) (node : Node) (out : Out) → TakeOut b out → given_in out.1 ≡ Some (id, node) → IsTaken id node out.0
  taken-by id node out (Ends none same done) e = absurd (none-some (id, node) (sym none ∙ e))
  taken-by id node out (Gives at used here same) e =
      let both : (at, (slot_at b at).node) ≡ (id, node) = same_Some _ _ (sym (ap (λ (o : Out). given_in o.1) same) ∙ e) in
      let is : at ≡ id = ap (λ (p : ℕ × Node). p.0) both in
      let own : (slot_at b at).node ≡ node = ap (λ (p : ℕ × Node). p.1) both in
      record {
        holds = subst (λ (u : Book). HoldsOnly u id node) (sym (ap (λ (o : Out). o.0) same)) (subst (λ n. HoldsOnly (Step.given {Break = BrokenPlan} b WORKERS at used).0 n node) is (subst (HoldsOnly (Step.given {Break = BrokenPlan} b WORKERS at used).0 at) own (given-holds at used here)));
        node_of = ap (λ n. (slot_at b n).node) (sym is) ∙ own;
        here = subst (λ n. n < length b.slots) is here;
      }

  module _ (r : Reply) (new : Book) (answers : Answers b (take WORKERS) r new) where
    out-is : TakeOut b (new, answers.answer)
    out-is = subst (TakeOut b) answers.same take-out

    is-taken : (id : ℕ) (node : Node) → node_in r ≡ Some (id, node) → IsTaken id node new
    is-taken id node e = taken-by id node (new, answers.answer) out-is (told-node r answers.answer answers.said ∙ e)

    pub taken_holds : (id : ℕ) (node : Node) → node_in r ≡ Some (id, node) → HoldsOnly new id node
    taken_holds id node e = (is-taken id node e).holds

    pub taken_falls : (id : ℕ) (node : Node) → node_in r ≡ Some (id, node) → suc (room_of new) ≤ room_of b
    taken_falls id node e =
        subst (λ (o : Out). suc (room_of o.0) ≤ room_of b) answers.same
        (room-falls (λ _ _. answers.found) b sound.parts.budget sound.parts.workers.nine (take WORKERS) (omega arith) refl accepted)
      where
        by_answer : (a : Answer) → given_in a ≡ Some (id, node) → machine.is_acceptance a ≡ true
        by_answer (machine.Node n t) h = refl
        by_answer _ h = absurd (none-some (id, node) h)

        accepted : machine.is_acceptance (Step.step (λ _ _. answers.found) b (take WORKERS)).1 ≡ true
        accepted = ap (λ (o : Out). machine.is_acceptance o.1) answers.same ∙ by_answer answers.answer (told-node r answers.answer answers.said ∙ e)

    pub refused_done : node_in r ≡ None → IsDone new
    refused_done e = by_out (new, answers.answer) out-is (told-node r answers.answer answers.said ∙ e)
      where
        by_out : (out : Out) → TakeOut b out → given_in out.1 ≡ None → IsDone out.0
        by_out out (Ends none same done) h = subst IsDone (sym same) done
        by_out out (Gives id used here same) h = absurd (none-some (id, (slot_at b id).node) (sym h ∙ ap (λ (o : Out). given_in o.1) same))

    pub refused_same : node_in r ≡ None → new ≡ b
    refused_same e = by_out (new, answers.answer) out-is (told-node r answers.answer answers.said ∙ e)
      where
        by_out : (out : Out) → TakeOut b out → given_in out.1 ≡ None → out.0 ≡ b
        by_out out (Ends none same done) h = same
        by_out out (Gives id used here same) h = absurd (none-some (id, (slot_at b id).node) (sym h ∙ ap (λ (o : Out). given_in o.1) same))

    pub refused_free : node_in r ≡ None → HoldsNothing new
    refused_free e = subst HoldsNothing (sym (refused_same e)) free
