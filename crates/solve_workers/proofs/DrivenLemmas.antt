-- Events of the driver, one after the other.
use Rattle.std.proofs.Common.{◌≡◌, ℕ, suc, ◌≤◌, List, [], ◌∷◌, ◌++◌, length, refl, sym, ap, ◌∙◌, subst, arith, Bool, true, false, not, cond, Some, None, nat_eq, nat_le, slice_get, slice_index_or}
use Rattle.std.specs.declared.option.Option.{Option}
use Rattle.lock_model.specs.Deck.{Deck}
use Rattle.lock_model.specs.declared.limits.TheConstants.{WORKERS}
use Rattle.lock_model.specs.declared.instance.Instance.{Instance}
use Rattle.lock_model.specs.declared.group.Group.{Group}
use Rattle.lock_model.specs.declared.plan.Plan.{Plan}
use Rattle.lock_rules.specs.Plan.{cost_of}
use Rattle.closing_rules.specs.declared.grounds.Ground.{Ground}
use Rattle.closing_rules.specs.declared.grounds.Ground.TheVariants as by
use Rattle.book_rules.specs.declared.book.ShownLow.{ShownLow}
use Rattle.book_rules.specs.Tests.{has_clash, is_own_cut, has_shape}
use Rattle.book_rules.specs.Book.{Book, Case, first_slot, has_slot, is_held, is_held_by, is_back, is_live, group_at, slot_at, best_cost}
use Rattle.book_rules.specs.Cheap.{opening_cost}
use Rattle.book_rules.specs.Events.{Event, Reply, IsOwed, take, split, close, post, post_prices, close_price, close_swept, show_low, park, replace, release}
use Rattle.book_rules.specs.Events.{Replaced, Ended, NodesSpent, Idle, Done, NotHeld, Whole, OtherDeck, OtherPrices, NotCheaper, Clashes}
use Rattle.book_rules.specs.NextSlot.{next_fresh}
use Rattle.book_rules.specs.Room.{room_of}
use Rattle.book_rules.specs.Step
use Rattle.book_rules.proofs.StepLemmas.{Refused, Accepted, each-step}
use Rattle.book_rules.proofs.RoomLemmas.{room-no_more}
use Rattle.book_core.specs.declared.reply.Reply.{Reply as BookReply}
use Rattle.book_core.specs.Keeps.{IsSound}
use Rattle.book_core.specs.Replies.{Answers, Does, Steps, Stays}
use Rattle.node_work.specs.declared.search.Search.{Search}
use Rattle.solve_workers.specs.Closable.{IsOwnSearch}
use Rattle.solve_workers.specs.Driving.{Deed, IsDrivers, AreDeeds, after_deeds, IsDriven}
use Rattle.solve_workers.specs.Holding.{IsRunning}

-- ---- who has ended stays, for the driver doesn't release

module _ {Break : Type 0} (broken : Instance → Plan → Option Break) (b : Book) where
  abbrev Remains : Book × Reply Break → Type 0
  Remains out = out.0.ended ≡ b.ended

  keep_or : (t : Bool) (r : Reply Break) (out : Book × Reply Break) → Remains out → Remains (cond t (b, r) out)
  keep_or true r out h = refl
  keep_or false r out h = h

  idle-ended : (t : Bool) → Remains (b, cond t Idle Done)
  idle-ended t = refl

  fresh-ended : (w : ℕ) (o : Option ℕ) → Remains (Step.take_fresh b w o)
  fresh-ended w None = idle-ended (has_slot b is_held)
  fresh-ended w (Some id) = keep_or (nat_eq b.used b.case.nodes) (NodesSpent b.used) (Step.given b w id (suc b.used)) refl

  slot-ended : (w : ℕ) (o : Option ℕ) → Remains (Step.take_slot b w o)
  slot-ended w (Some id) = refl
  slot-ended w None = fresh-ended w (next_fresh b)

  free-ended : (w : ℕ) (o : Option ℕ) → Remains (Step.take_free b w o)
  free-ended w (Some id) = refl
  free-ended w None = slot-ended w (first_slot b is_back)

  close-ended : (id : ℕ) (why : Ground) (o : Option (Reply Break)) → Remains (Step.close_unless b id why o)
  close-ended id why (Some r) = refl
  close-ended id why None = refl

  low-ended : (id : ℕ) (low : ShownLow) (o : Option (Reply Break)) → Remains (Step.show_unless b id low o)
  low-ended id low (Some r) = refl
  low-ended id low None = refl

  group-ended : (id c p : ℕ) (deck : Deck) (turns : ℕ) (o : Option Group) → Remains (Step.park_group b id c p deck turns o)
  group-ended id c p deck turns None = refl
  group-ended id c p deck turns (Some g) =
      keep_or (not (Step.is_lent b c g deck turns)) OtherDeck (cond (has_clash deck.ships) (b, Clashes id) (Step.parked b id c p))
      (keep_or (has_clash deck.ships) (Clashes id) (Step.parked b id c p) refl)

  replace-ended : (plan : Plan) (o : Option Break) → Remains (Step.replace_by b plan o)
  replace-ended plan (Some found) = refl
  replace-ended plan None =
      keep_or (nat_le (best_cost b) (cost_of b.case.instance plan)) (NotCheaper (cost_of b.case.instance plan) (best_cost b)) (Step.replaced b plan, Replaced (cost_of b.case.instance plan)) refl

  pub ended-stays : (e : Event) → IsDrivers e → Remains (Step.step broken b e)
  ended-stays (take w) is = keep_or (slice_index_or b.ended w false) (Ended w) (Step.take_free b w (first_slot b (is_held_by w))) (free-ended w (first_slot b (is_held_by w)))
  ended-stays (split id) is =
      let whole = nat_le (length b.case.instance.ships) (slot_at b id).node.depth in
      keep_or (not (is_held (slot_at b id).state)) (NotHeld id) (cond whole (b, Whole id) (Step.split_slot b id)) (keep_or whole (Whole id) (Step.split_slot b id) refl)
  ended-stays (close id why) is = keep_or (not (Step.may_close b id)) (NotHeld id) (Step.close_unless b id why (Step.refusal_of b id why)) (close-ended id why (Step.refusal_of b id why))
  ended-stays (post cut) is = keep_or (not (is_own_cut b.case.instance cut)) OtherDeck (Step.posted b cut) refl
  ended-stays (post_prices prices) is = keep_or (not (has_shape b.case.instance prices)) OtherPrices (Step.priced b prices) refl
  ended-stays (close_price id number shown) is =
      let refusal = Step.price_refusal b id number shown (slice_get b.prices number) in
      keep_or (not (Step.may_close b id)) (NotHeld id) (Step.close_unless b id (by.Price number) refusal) (close-ended id (by.Price number) refusal)
  ended-stays (close_swept id number swept) is =
      let refusal = Step.sweep_refusal b id number swept (slice_get b.prices number) in
      keep_or (not (Step.may_close b id)) (NotHeld id) (Step.close_unless b id (by.Swept number) refusal) (close-ended id (by.Swept number) refusal)
  ended-stays (show_low id number shown) is =
      let low : ShownLow = record { prices = number; cost = shown.cost } in
      let refusal = Step.low_refusal b id number shown (slice_get b.prices number) in
      keep_or (not (is_live (slot_at b id).state)) (NotHeld id) (Step.show_unless b id low refusal) (low-ended id low refusal)
  ended-stays (park id c p deck turns) is =
      keep_or (not (is_held (slot_at b id).state)) (NotHeld id) (Step.park_group b id c p deck turns (group_at (slot_at b id).node c p)) (group-ended id c p deck turns (group_at (slot_at b id).node c p))
  ended-stays (replace plan) is = replace-ended plan (broken b.case.instance plan)
  ended-stays (release w) is = absurd is

-- ---- lists of deeds

after-more : (b : Book) (ds es : List Deed) → after_deeds b (ds ++ es) ≡ after_deeds (after_deeds b ds) es
after-more b [] es = refl
after-more b (d ∷ ds) es = after-more (Step.step (λ _ _. d.found) b d.event).0 ds es

are-more : (I : Instance) (ds es : List Deed) → AreDeeds I ds → AreDeeds I es → AreDeeds I (ds ++ es)
are-more I [] es p q = q
are-more I (d ∷ ds) es p q = (p.0, are-more I ds es p.1 q)

pub driven_none : (b : Book) → IsDriven b b
driven_none b = record { deeds = []; each = tt; after = refl; case = refl; opening = refl; ended = refl; room = omega arith }

pub driven_then : (a b c : Book) → IsDriven a b → IsDriven b c → IsDriven a c
driven_then a b c first next = record {
  deeds = first.deeds ++ next.deeds;
  each = are-more a.case.instance first.deeds next.deeds first.each (subst (λ (k : Case). AreDeeds k.instance next.deeds) first.case next.each);
  after = after-more a first.deeds next.deeds ∙ ap (λ x. after_deeds x next.deeds) first.after ∙ next.after;
  case = next.case ∙ first.case;
  opening = next.opening ∙ first.opening;
  ended = next.ended ∙ first.ended;
  room = let p = first.room in let q = next.room in omega (arith, p, q);
}

record Stands (old new : Book) : Type 0 where
  case : new.case ≡ old.case
  opening : new.opening ≡ old.opening

pub driven_by : (b : Book) (e : Event) (r : BookReply) (new : Book) → IsSound b → IsOwed e → IsDrivers e → Answers b e r new → IsDriven b new
driven_by b e r new sound owed drivers answers =
    let out = Step.step (λ _ _. answers.found) b e in
    let is : out.0 ≡ new = ap (λ o. o.0) answers.same in
    let stands : Stands b out.0 = elim (each-step (λ _ _. answers.found) b e) [
      | Refused refused same ↦ subst (Stands b) (sym same) (record { case = refl; opening = refl })
      | Accepted done ↦ record { case = done.case; opening = done.opening }
    ] in
    record {
      deeds = record { event = e; found = answers.found } ∷ [];
      each = (record { owed = owed; drivers = drivers; judged = answers.judged }, tt);
      after = is;
      case = ap (λ (x : Book). x.case) (sym is) ∙ stands.case;
      opening = ap (λ (x : Book). x.opening) (sym is) ∙ stands.opening;
      ended = ap (λ (x : Book). x.ended) (sym is) ∙ ended-stays (λ _ _. answers.found) b e drivers;
      room = subst (λ x. room_of x ≤ room_of b) is (room-no_more (λ _ _. answers.found) b sound.parts.budget sound.parts.workers.nine e owed);
    }

pub driven_does : (b : Book) (e : Event) (r : BookReply) (new : Book) → IsSound b → IsOwed e → IsDrivers e → Does b e r new → IsDriven b new
driven_does b e r new sound owed drivers (Steps answers) = driven_by b e r new sound owed drivers answers
driven_does b e r new sound owed drivers (Stays wants) = subst (IsDriven b) (sym wants.same) (driven_none b)

pub driven_cost : (a b : Book) → IsDriven a b → opening_cost b ≡ opening_cost a
driven_cost a b driven = (λ j. cost_of (driven.case j).instance (driven.opening j))

-- the search is still that of the book
pub own_still : (a b : Book) (search : Search) → IsDriven a b → IsOwnSearch a search → IsOwnSearch b search
own_still a b search driven own = record {
  instance_is = own.instance_is ∙ sym (ap (λ (k : Case). k.instance) driven.case);
  turns_are = own.turns_are ∙ sym (ap (λ (k : Case). k.turns) driven.case);
}

-- the driver hasn't released still
pub running_still : (a b : Book) → IsDriven a b → IsRunning a → IsRunning b
running_still a b driven is = record { running = subst (λ ended. slice_index_or ended WORKERS false ≡ false) (sym driven.ended) is.running }
