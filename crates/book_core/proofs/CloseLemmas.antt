-- The events that close a slot.
use Rattle.std.proofs.Common.{◌≡◌, ℕ, ◌<◌, ◌≤◌, refl, sym, ap, ◌∙◌, subst, Bool, true, false, not, cond, Some, None, slice_get, le-ltb, lt-ltb}
use Rattle.std.proofs.lemmas.Bool.{not_from_false, not_from_true}
use Rattle.std.specs.declared.option.Option.{Option}
use Rattle.mooring_rules.specs.declared.breaks.BrokenPlan.{BrokenPlan}
use Rattle.closing_rules.specs.declared.grounds.Ground.{Ground}
use Rattle.closing_rules.specs.declared.grounds.Ground.TheVariants as by
use Rattle.book_rules.specs.Book.{Book, best_cost}
use Rattle.book_rules.specs.Events as machine
use Rattle.book_rules.specs.Events.{Event, IsOwed, close}
use Rattle.book_rules.specs.Step.{step, may_close, refusal_of, cheaper_than, close_unless, closed, hits_in, probe_at, lacks_ship}
use Rattle.book_core.specs.declared.reply.Reply.{Reply}
use Rattle.book_core.specs.declared.reply.Reply.TheVariants as reply
use Rattle.book_core.specs.declared.reply.Refusal.TheVariants as refusing
use Rattle.book_core.specs.Keeps.{IsSound}
use Rattle.book_core.specs.Replies.{told, IsFirstOf, Answers, IsShutAt, IsCheaper, IsShut}
use Rattle.book_core.proofs.SoundLemmas.{step-sound}

abbrev pub Out : Type 0
Out = Book × machine.Reply BrokenPlan

pub pick-true : (t : Bool) (a c : Out) → t ≡ true → cond t a c ≡ a
pick-true t a c e = ap (λ u. cond u a c) e

pub pick-false : (t : Bool) (a c : Out) → t ≡ false → cond t a c ≡ c
pick-false t a c e = ap (λ u. cond u a c) e

-- no plan is looked at
abbrev pub none : Option BrokenPlan
none = None

-- a number that has to be at least the best cost
module _ (best n : ℕ) where
  abbrev cheaper : Bool → Option (machine.Reply BrokenPlan)
  cheaper t = cond t (Some (machine.Cheaper n best)) None

  cheap-refused : n < best → cheaper_than {Break = BrokenPlan} best n ≡ Some (machine.Cheaper n best)
  cheap-refused low = ap cheaper (lt-ltb n best low)

  high-unrefused : best ≤ n → cheaper_than {Break = BrokenPlan} best n ≡ None
  high-unrefused high = ap cheaper (le-ltb n best high)

-- ---- an event that closes slot id so, unless it is refused

module _ (b : Book) (id : ℕ) (why : Ground) (e : Event) (refusal : Option (machine.Reply BrokenPlan)) (is : step (λ _ _. none) b e ≡ cond (not (may_close b id)) (b, machine.NotHeld id) (close_unless b id why refusal)) (unjudged : IsFirstOf b.case.instance e None) where
  abbrev not_held : Out
  not_held = (b, machine.NotHeld id)

  pub event-missed : may_close b id ≡ false → Answers b e (reply.Refused (refusing.NotHeld id)) b
  event-missed missing = record {
    found = None;
    judged = unjudged;
    answer = machine.NotHeld id;
    said = refl;
    same = is ∙ pick-true (not (may_close b id)) not_held (close_unless b id why refusal) (not_from_false (may_close b id) missing);
  }

  past-held : may_close b id ≡ true → step (λ _ _. none) b e ≡ close_unless b id why refusal
  past-held may = is ∙ pick-false (not (may_close b id)) not_held (close_unless b id why refusal) (not_from_true (may_close b id) may)

  pub event-refused : (r : Reply) (o : machine.Reply BrokenPlan) → told r ≡ Some o → may_close b id ≡ true → refusal ≡ Some o → Answers b e r b
  event-refused r o said may why_not = record { found = None; judged = unjudged; answer = o; said = said; same = past-held may ∙ ap (close_unless b id why) why_not }

  -- where nothing is refused, the book after it is sound, and it is the answer
  module _ (may : may_close b id ≡ true) (unrefused : refusal ≡ None) where
    event-shut : step (λ _ _. none) b e ≡ (closed b id why, machine.Closed)
    event-shut = past-held may ∙ ap (close_unless b id why) unrefused

    pub event-sound : IsSound b → IsOwed e → IsSound (closed b id why)
    event-sound sound owed = subst IsSound (ap (λ (o : Out). o.0) event-shut) (step-sound b e None sound owed unjudged)

    pub event-answers : (new : Book) → new ≡ closed b id why → Answers b e reply.Closed new
    event-answers new new_is = record { found = None; judged = unjudged; answer = machine.Closed; said = refl; same = event-shut ∙ ap (λ u. (u, machine.Closed)) (sym new_is) }

  -- where all that is left to ask is that a cost is at least the best one
  module _ (may : may_close b id ≡ true) (cost : ℕ) (asked : refusal ≡ cheaper_than (best_cost b) cost) where
    pub asked-sound : IsSound b → IsOwed e → best_cost b ≤ cost → IsSound (closed b id why)
    asked-sound sound owed high = event-sound may (asked ∙ high-unrefused (best_cost b) cost high) sound owed

    pub asked-answers : (r : Reply) (new : Book) → IsShutAt b id why cost r new → Answers b e r new
    asked-answers r new (IsCheaper low r_is new_is) =
        let refused : Reply = reply.Refused (refusing.Cheaper cost (best_cost b)) in
        subst (λ r. Answers b e r new) (sym r_is)
        (subst (Answers b e refused) (sym new_is) (event-refused refused (machine.Cheaper cost (best_cost b)) refl may (asked ∙ cheap-refused (best_cost b) cost low)))
    asked-answers r new (IsShut high r_is new_is) =
        subst (λ r. Answers b e r new) (sym r_is) (event-answers may (asked ∙ high-unrefused (best_cost b) cost high) new new_is)

-- ---- a slot is closed by the book alone

module _ (b : Book) (id : ℕ) (why : Ground) where
  pub missed : may_close b id ≡ false → Answers b (close id why) (reply.Refused (refusing.NotHeld id)) b
  missed = event-missed b id why (close id why) (refusal_of b id why) refl tt

  pub refused : (r : Reply) (o : machine.Reply BrokenPlan) → told r ≡ Some o → may_close b id ≡ true → refusal_of {Break = BrokenPlan} b id why ≡ Some o → Answers b (close id why) r b
  refused = event-refused b id why (close id why) (refusal_of b id why) refl tt

  module _ (may : may_close b id ≡ true) (cost : ℕ) (asked : refusal_of {Break = BrokenPlan} b id why ≡ cheaper_than (best_cost b) cost) where
    pub from-sound : IsSound b → best_cost b ≤ cost → IsSound (closed b id why)
    from-sound sound = asked-sound b id why (close id why) (refusal_of b id why) refl tt may cost asked sound tt

    pub from-answers : (r : Reply) (new : Book) → IsShutAt b id why cost r new → Answers b (close id why) r new
    from-answers = asked-answers b id why (close id why) (refusal_of b id why) refl tt may cost asked

  module _ (may : may_close b id ≡ true) (unrefused : refusal_of {Break = BrokenPlan} b id why ≡ None) where
    pub shut-sound : IsSound b → IsSound (closed b id why)
    shut-sound sound = event-sound b id why (close id why) (refusal_of b id why) refl tt may unrefused sound tt

    pub shut-answers : (new : Book) → new ≡ closed b id why → Answers b (close id why) reply.Closed new
    shut-answers = event-answers b id why (close id why) (refusal_of b id why) refl tt may unrefused

module _ (b : Book) (id : ℕ) where
  -- a ship that the node holds, and one that it lacks
  module _ (s : ℕ) where
    abbrev probed : Bool → Option (machine.Reply BrokenPlan)
    probed t = cond (not t) (Some (machine.Absent s)) (cheaper_than (best_cost b) (probe_at b id s))

    pub probe-absent : lacks_ship b id s ≡ false → refusal_of {Break = BrokenPlan} b id (by.Probe s) ≡ Some (machine.Absent s)
    probe-absent e = ap probed e

    pub probe-asked : (least : ℕ) → lacks_ship b id s ≡ true → least ≡ probe_at b id s → refusal_of {Break = BrokenPlan} b id (by.Probe s) ≡ cheaper_than (best_cost b) least
    probe-asked least e is = ap probed e ∙ ap (cheaper_than (best_cost b)) (sym is)

  -- a cut that misses the node, and one that hits it
  module _ (number : ℕ) where
    abbrev hit : Bool → Option (machine.Reply BrokenPlan)
    hit t = cond (not t) (Some (machine.NoHit number)) None

    pub cut-misses : hits_in b id (slice_get b.cuts number) ≡ false → refusal_of {Break = BrokenPlan} b id (by.Cut number) ≡ Some (machine.NoHit number)
    cut-misses e = ap hit e

    pub cut-hits : hits_in b id (slice_get b.cuts number) ≡ true → refusal_of {Break = BrokenPlan} b id (by.Cut number) ≡ None
    cut-hits e = ap hit e
