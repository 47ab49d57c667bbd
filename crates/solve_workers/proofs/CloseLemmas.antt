-- Closing the held slot.
use Rattle.std.proofs.Common.{◌≡◌, ℕ, ◌≤◌, refl, sym, ap, ◌∙◌, subst, Bool, true, false, not, cond, slice_get, Some, None, true≢false, le-ltb}
use Rattle.std.proofs.lemmas.Bool.{not_from_true}
use Rattle.std.specs.declared.option.Option.{Option}
use Rattle.lock_rules.specs.Arrival.{missing_ships}
use Rattle.lock_rules.specs.Throughput.{throughput_of}
use Rattle.mooring_rules.specs.declared.breaks.BrokenPlan.{BrokenPlan}
use Rattle.closing_rules.specs.declared.grounds.Ground.{Ground}
use Rattle.closing_rules.specs.declared.grounds.Ground.TheVariants as by
use Rattle.book_rules.specs.declared.book.SlotState.TheVariants as slot
use Rattle.book_rules.specs.Book.{Book, slot_at, best_cost}
use Rattle.lock_rules.specs.Node.{Node}
use Rattle.book_rules.specs.Ends.{HoldsNothing}
use Rattle.book_rules.specs.Events as machine
use Rattle.book_rules.specs.Events.{close}
use Rattle.book_rules.specs.Step
use Rattle.book_rules.specs.States.{IsHitBy}
use Rattle.closing_rules.specs.Grounds.{IsClosedBy}
use Rattle.node_work.specs.Fates.{IsNeverPriced, IsNeverSwept}
use Rattle.book_rules.proofs.TestLemmas.{has_number-decides, is_node_hit-decides}
use Rattle.book_rules.proofs.ClosingLemmas.{MayRefuse, may-refuse}
use Rattle.book_core.specs.declared.reply.Reply.{Reply}
use Rattle.book_core.specs.Replies.{Answers}
use Rattle.book_core.proofs.CloseLemmas.{pick-false, probe-asked, cut-hits}
use Rattle.solve_workers.specs.Holding.{HoldsOnly}
use Rattle.solve_workers.specs.Told.{is_closed}
use Rattle.solve_workers.proofs.ToldLemmas.{Answer, closes, told-closed}
use Rattle.solve_workers.proofs.FreeLemmas.{freed, may-close}

abbrev Out : Type 0
Out = Book × Answer

-- the slot is closed, or all stays
pub data CloseOut (b : Book) (id : ℕ) (out : Out) : Type 0 where
  Shut : (why : Ground) → out ≡ (Step.closed b id why, machine.Closed) → CloseOut b id out
  Kept : closes out.1 ≡ false → out.0 ≡ b → CloseOut b id out

module _ (b : Book) (id : ℕ) (why : Ground) where
  -- a refusal closes nothing
  refusing : (r : Answer) → machine.is_acceptance r ≡ false → closes r ≡ false
  refusing machine.Closed e = absurd (true≢false e)
  refusing _ e = refl

  pub unless-out : (o : Option Answer) → MayRefuse o → CloseOut b id (Step.close_unless b id why o)
  unless-out (Some r) refuses = Kept (refusing r refuses) refl
  unless-out None refuses = Shut why refl

  close-out : CloseOut b id (Step.close_step b id why)
  close-out = by_test (Step.may_close b id)
    where
      by_test : (t : Bool) → CloseOut b id (cond (not t) (b, machine.NotHeld id) (Step.close_unless b id why (Step.refusal_of b id why)))
      by_test true = unless-out (Step.refusal_of b id why) (may-refuse b id BrokenPlan why)
      by_test false = Kept refl refl

-- what such an answer leaves
pub record Leaves (b new : Book) (t : Bool) : Type 0 where
  pub shut : t ≡ true → HoldsNothing new
  pub kept : t ≡ false → new ≡ b

leaves-by : (b : Book) (id : ℕ) (node : Node) (out : Out) → HoldsOnly b id node → CloseOut b id out → Leaves b out.0 (closes out.1)
leaves-by b id node out holds (Shut why same) = record {
  shut = λ e. freed b id node (slot.Closed why) out.0 holds refl (ap (λ (o : Out). o.0.slots) same);
  kept = λ e. absurd (true≢false (sym (ap (λ (o : Out). closes o.1) same) ∙ e));
}
leaves-by b id node out holds (Kept off same) = record { shut = λ e. absurd (true≢false (sym e ∙ off)); kept = λ e. same }

pub leaves-answer : (b : Book) (id : ℕ) (node : Node) (out : Out) (r : Reply) (new : Book) (a : Answer) → HoldsOnly b id node → CloseOut b id out → out ≡ (new, a) → closes a ≡ is_closed r → Leaves b new (is_closed r)
leaves-answer b id node out r new a holds way same said =
    subst (Leaves b new) said (subst (λ (o : Out). Leaves b o.0 (closes o.1)) same (leaves-by b id node out holds way))

module _ (b : Book) (id : ℕ) (node : Node) (holds : HoldsOnly b id node) (r : Reply) (new : Book) where
  leaves : (why : Ground) → Answers b (close id why) r new → Leaves b new (is_closed r)
  leaves why answers = leaves-answer b id node (Step.close_step b id why) r new answers.answer holds (close-out b id why) answers.same (told-closed r answers.answer answers.said)

  pub close_shut : (why : Ground) → Answers b (close id why) r new → is_closed r ≡ true → HoldsNothing new
  close_shut why answers = (leaves why answers).shut

  -- ---- closings that can't be refused

  sure : (why : Ground) → Step.refusal_of {Break = BrokenPlan} b id why ≡ None → Answers b (close id why) r new → is_closed r ≡ true
  sure why unrefused answers =
      sym (told-closed r answers.answer answers.said)
      ∙ ap (λ (o : Out). closes o.1)
      (sym answers.same
      ∙ pick-false (not (Step.may_close b id)) (b, machine.NotHeld id) (Step.close_unless b id why (Step.refusal_of b id why)) (not_from_true (Step.may_close b id) (may-close b id node holds))
      ∙ ap (Step.close_unless b id why) unrefused)

  -- ---- a ground that holds of the node

  -- a number that is at least the best cost
  high-unrefused : (n : ℕ) → best_cost b ≤ n → Step.cheaper_than {Break = BrokenPlan} (best_cost b) n ≡ None
  high-unrefused n high = ap (λ t. cond t (Some (machine.Cheaper n (best_cost b))) None) (le-ltb n (best_cost b) high)

  unrefused : (why : Ground) → IsClosedBy b.case.instance (IsHitBy b.case.instance b.cuts) IsNeverPriced IsNeverSwept (best_cost b) (slot_at b id).bound (slot_at b id).node.depth (slot_at b id).node.lines why → Step.refusal_of {Break = BrokenPlan} b id why ≡ None
  unrefused by.Bound high = high-unrefused (slot_at b id).bound high
  unrefused by.Throughput high = high-unrefused (throughput_of b.case.instance) high
  unrefused (by.Probe s) is =
      let missing : Step.lacks_ship b id s ≡ true = (has_number-decides (missing_ships b.case.instance (slot_at b id).node.depth) s).1 is.0 in
      probe-asked b id s (Step.probe_at b id s) missing refl ∙ high-unrefused (Step.probe_at b id s) is.1
  unrefused (by.Cut number) h =
      let hit : Step.hits_in b id (slice_get b.cuts number) ≡ true =
      ap (Step.hits_in b id) h.there ∙ (is_node_hit-decides b.case.instance h.cut (slot_at b id).node.lines).1 h.hits in
      cut-hits b id number hit
  unrefused (by.Price number) h = absurd h
  unrefused (by.Swept number) h = absurd h

  pub sure_shut : (why : Ground) → IsClosedBy b.case.instance (IsHitBy b.case.instance b.cuts) IsNeverPriced IsNeverSwept (best_cost b) (slot_at b id).bound (slot_at b id).node.depth (slot_at b id).node.lines why → Answers b (close id why) r new → HoldsNothing new
  sure_shut why is answers = close_shut why answers (sure why (unrefused why is) answers)
