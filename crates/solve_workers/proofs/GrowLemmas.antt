-- Posting, splitting, parking and replacing while a slot is held.
use Rattle.std.proofs.Common.{◌≡◌, ℕ, ◌<◌, ◌≤◌, List, [], ◌∷◌, ◌++◌, length, inl, inr, refl, sym, ap, ◌∙◌, subst, arith, Bool, true, false, not, cond, ◌&&◌, ◌||◌, nat_le, slice_get, slice_index_or, Some, None, IsNone, true≢false}
use Rattle.std.proofs.lemmas.Option.{same_Some, none-some}
use Rattle.std.specs.declared.option.Option.{Option}
use Rattle.std.proofs.lemmas.Bool.{le-leb, lt-leb, not_from_true}
use Rattle.std.proofs.lemmas.Bool.Decides.{leb_tells}
use Rattle.lock_model.specs.declared.limits.TheConstants.{WORKERS}
use Rattle.lock_model.specs.Deck.{Deck}
use Rattle.lock_model.specs.Cargo.{HasNoClash}
use Rattle.lock_model.specs.Fitting.{deck_of}
use Rattle.lock_model.specs.declared.group.Group.{Group}
use Rattle.lock_model.specs.declared.plan.Plan.{Plan}
use Rattle.lock_rules.specs.Node.{Node, line_at}
use Rattle.lock_rules.specs.Plan.{IsLegal, cost_of}
use Rattle.refute_rules.specs.Cuts.{Cut}
use Rattle.mooring_rules.specs.declared.breaks.BrokenPlan.{BrokenPlan}
use Rattle.book_rules.specs.declared.book.SlotState.TheVariants as slot
use Rattle.book_rules.specs.Book.{Book, Slot, no_slot, slot_at, best_cost, is_held, is_fresh, is_back, is_parked, group_at}
use Rattle.book_rules.specs.Cover.{IsOwnCut}
use Rattle.book_rules.specs.Ends.{HoldsNothing}
use Rattle.book_rules.specs.Events as machine
use Rattle.book_rules.specs.Events.{Event, split, post, park, replace}
use Rattle.book_rules.specs.Step
use Rattle.book_rules.specs.Tests.{same_deck, has_clash, is_own_cut}
use Rattle.book_rules.proofs.TestLemmas.{is_own_cut-decides, same_deck-decides}
use Rattle.book_rules.proofs.TurnLemmas.{outdone-at}
use Rattle.book_core.specs.declared.reply.Reply.{Reply}
use Rattle.book_core.specs.declared.reply.Reply.TheVariants as reply
use Rattle.book_core.specs.declared.reply.Refusal.TheVariants as refusing
use Rattle.book_core.specs.Replies.{Answers, Does, Wants, Steps, Stays, told}
use Rattle.book_core.proofs.CloseLemmas.{pick-false}
use Rattle.solve_workers.specs.Holding.{HoldsOnly}
use Rattle.solve_workers.specs.Told.{number_in, is_made, is_want, IsMadeOrWant, IsPostedOrWant}
use Rattle.solve_workers.proofs.ToldLemmas.{Answer, makes, number_of, told-made, told-number}
use Rattle.solve_workers.proofs.ClearLemmas.{no_clash-test}
use Rattle.solve_workers.proofs.FreeLemmas.{freed, split-freed, is-held}
use Rattle.closing_rules.specs.declared.grounds.Ground.TheVariants as by

abbrev Out : Type 0
Out = Book × Answer

-- ---- want of memory

untold : (r : Reply) → is_want r ≡ true → told r ≡ None
untold (reply.Refused refusing.NoMemory) e = refl
untold _ e = absurd (true≢false (sym e))

pub want_kept : (b : Book) (e : Event) (r : Reply) (new : Book) → Does b e r new → is_want r ≡ true → new ≡ b
want_kept b e r new (Stays wants) want = wants.same
want_kept b e r new (Steps answers) want = absurd (none-some answers.answer (sym (untold r want) ∙ answers.said))

-- ---- split

data SplitOut (b : Book) (id : ℕ) (out : Out) : Type 0 where
  Splits : out.0.slots ≡ (Step.with_children b id).slots → SplitOut b id out
  NoSplit : makes out.1 ≡ false → SplitOut b id out

split-test : (b : Book) (id : ℕ) (t : Bool) (x y : Out) → SplitOut b id x → SplitOut b id y → SplitOut b id (cond t x y)
split-test b id true x y p q = p
split-test b id false x y p q = q

split-out : (b : Book) (id : ℕ) → SplitOut b id (Step.split_step b id)
split-out b id =
    let whole = nat_le (length b.case.instance.ships) (slot_at b id).node.depth in
    let out : Out = Step.split_slot b id in
    split-test b id (not (is_held (slot_at b id).state)) (b, machine.NotHeld id) (cond whole (b, machine.Whole id) out) (NoSplit refl)
    (split-test b id whole (b, machine.Whole id) out (NoSplit refl) (Splits refl))

split-by : (b : Book) (id : ℕ) (node : Node) (out : Out) → HoldsOnly b id node → SplitOut b id out → makes out.1 ≡ true → HoldsNothing out.0
split-by b id node out holds (Splits same) e = split-freed b id node out.0 holds same
split-by b id node out holds (NoSplit off) e = absurd (true≢false (sym e ∙ off))

want-none : (b : Book) (r : Reply) (new : Book) → Wants b r new → is_made r ≡ true → ⊥
want-none b r new wants e = true≢false (sym e ∙ ap is_made wants.want)

pub split_made : (b : Book) (id : ℕ) (node : Node) (r : Reply) (new : Book) → HoldsOnly b id node → Does b (split id) r new → is_made r ≡ true → HoldsNothing new
split_made b id node r new holds (Stays wants) e = absurd (want-none b r new wants e)
split_made b id node r new holds (Steps answers) e =
    let found : (out : Out) → out ≡ (new, answers.answer) → SplitOut b id out → HoldsNothing new =
    λ out same way. split-by b id node (new, answers.answer) holds (subst (SplitOut b id) same way) (told-made r answers.answer answers.said ∙ e) in
    found (Step.split_step b id) answers.same (split-out b id)

made-is : (r : Reply) → is_made r ≡ true → IsMadeOrWant r
made-is (reply.Made count) e = tt
made-is _ e = absurd (true≢false (sym e))

-- the held slot lacks a ship, so nothing but want of memory stands against its split
pub split_granted : (b : Book) (id : ℕ) (node : Node) (r : Reply) (new : Book) → HoldsOnly b id node → node.depth < length b.case.instance.ships → Does b (split id) r new → IsMadeOrWant r
split_granted b id node r new holds lacks (Stays wants) = subst IsMadeOrWant (sym wants.want) tt
split_granted b id node r new holds lacks (Steps answers) =
    let most = length b.case.instance.ships in
    let whole = nat_le most (slot_at b id).node.depth in
    let out : Out = Step.split_slot b id in
    let own : (slot_at b id).node.depth ≡ node.depth = ap (λ (n : Node). n.depth) holds.node_is in
    let way : Step.split_step b id ≡ out =
    pick-false (not (is_held (slot_at b id).state)) (b, machine.NotHeld id) (cond whole (b, machine.Whole id) out) (not_from_true (is_held (slot_at b id).state) (is-held b id node holds))
    ∙ pick-false whole (b, machine.Whole id) out (lt-leb most (slot_at b id).node.depth (omega (arith, lacks, own))) in
    made-is r (sym (told-made r answers.answer answers.said) ∙ ap (λ (o : Out). makes o.1) (sym answers.same ∙ way))

-- ---- post

record IsPosted (b : Book) (cut : Cut) (number : ℕ) (new : Book) : Type 0 where
  slots : new.slots ≡ b.slots
  case : new.case ≡ b.case
  cuts : new.cuts ≡ b.cuts ++ cut ∷ []
  number_is : number ≡ length b.cuts

data PostOut (b : Book) (cut : Cut) (out : Out) : Type 0 where
  Posts : IsPosted b cut (length b.cuts) out.0 → number_of out.1 ≡ Some (length b.cuts) → PostOut b cut out
  NoPost : number_of out.1 ≡ None → PostOut b cut out

post-test : (b : Book) (cut : Cut) (t : Bool) (x y : Out) → PostOut b cut x → PostOut b cut y → PostOut b cut (cond t x y)
post-test b cut true x y p q = p
post-test b cut false x y p q = q

post-out : (b : Book) (cut : Cut) → PostOut b cut (Step.post_step b cut)
post-out b cut = post-test b cut (not (is_own_cut b.case.instance cut)) (b, machine.OtherDeck) (Step.posted b cut) (NoPost refl) (Posts (record { slots = refl; case = refl; cuts = refl; number_is = refl }) refl)

post-by : (b : Book) (cut : Cut) (out : Out) (number : ℕ) → PostOut b cut out → number_of out.1 ≡ Some number → IsPosted b cut number out.0
post-by b cut out number (Posts is said) e = subst (λ n. IsPosted b cut n out.0) (same_Some (length b.cuts) number (sym said ∙ e)) is
post-by b cut out number (NoPost off) e = absurd (none-some number (sym off ∙ e))

posted-by : (b : Book) (cut : Cut) (r : Reply) (new : Book) (number : ℕ) → Does b (post cut) r new → number_in r ≡ Some number → IsPosted b cut number new
posted-by b cut r new number (Stays wants) e = absurd (none-some number (sym (ap number_in wants.want) ∙ e))
posted-by b cut r new number (Steps answers) e =
    let found : (out : Out) → out ≡ (new, answers.answer) → PostOut b cut out → IsPosted b cut number new =
    λ out same way. post-by b cut (new, answers.answer) number (subst (PostOut b cut) same way) (told-number r answers.answer answers.said ∙ e) in
    found (Step.post_step b cut) answers.same (post-out b cut)

posted-is : (r : Reply) (number : ℕ) → number_in r ≡ Some number → IsPostedOrWant r
posted-is (reply.Posted n) number e = tt
posted-is _ number e = absurd (none-some number e)

-- the cut is of the instance, so nothing but want of memory stands against it
pub post_granted : (b : Book) (cut : Cut) (r : Reply) (new : Book) → IsOwnCut b.case.instance cut → Does b (post cut) r new → IsPostedOrWant r
post_granted b cut r new own (Stays wants) = subst IsPostedOrWant (sym wants.want) tt
post_granted b cut r new own (Steps answers) =
    let test = is_own_cut b.case.instance cut in
    let way : Step.post_step b cut ≡ Step.posted b cut = pick-false (not test) (b, machine.OtherDeck) (Step.posted b cut) (not_from_true test ((is_own_cut-decides b.case.instance cut).1 own)) in
    posted-is r (length b.cuts) (sym (told-number r answers.answer answers.said) ∙ ap (λ (o : Out). number_of o.1) (sym answers.same ∙ way))

last-at : (xs : List Cut) (x : Cut) → slice_get (xs ++ x ∷ []) (length xs) ≡ Some x
last-at [] x = refl
last-at (y ∷ ys) x = last-at ys x

module _ (b : Book) (cut : Cut) (r : Reply) (new : Book) (number : ℕ) (does : Does b (post cut) r new) (e : number_in r ≡ Some number) where
  is : IsPosted b cut number new
  is = posted-by b cut r new number does e

  -- the cut stands at its number, and the slots are as they were
  pub posted_there : slice_get new.cuts number ≡ Some cut
  posted_there = (λ j. slice_get (is.cuts j) (is.number_is j)) ∙ last-at b.cuts cut

  pub posted_case : new.case ≡ b.case
  posted_case = is.case

  pub posted_holds : (id : ℕ) (node : Node) → HoldsOnly b id node → HoldsOnly new id node
  posted_holds id node holds = record {
    held = ap (λ xs. (slice_index_or xs id no_slot).state) is.slots ∙ holds.held;
    others = λ k other. ap (λ xs. is_held (slice_index_or xs k no_slot).state) is.slots ∙ holds.others k other;
    node_is = ap (λ xs. (slice_index_or xs id no_slot).node) is.slots ∙ holds.node_is;
  }

-- ---- park

abbrev never : Option BrokenPlan
never = None

lent : (b : Book) (c : ℕ) (g : Group) (deck : Deck) (turns : ℕ) → deck ≡ deck_of b.case.instance c g.ships → b.case.turns ≤ turns → Step.is_lent b c g deck turns ≡ true
lent b c g deck turns own enough =
    let same : same_deck (deck_of b.case.instance c g.ships) deck ≡ true = (same_deck-decides (deck_of b.case.instance c g.ships) deck).1 (sym own) in
    let less : nat_le b.case.turns turns ≡ true = le-leb b.case.turns turns enough in
    (λ j. same j && less j)

module _ (b : Book) (id : ℕ) (node : Node) (c p : ℕ) (deck : Deck) (turns : ℕ) (g : Group) (r : Reply) (new : Book) (holds : HoldsOnly b id node) (there : slice_get (line_at node.lines c) p ≡ Some g) (own : deck ≡ deck_of b.case.instance c g.ships) (enough : b.case.turns ≤ turns) (clear : HasNoClash deck) where
  at-slot : group_at (slot_at b id).node c p ≡ Some g
  at-slot = ap (λ (n : Node). group_at n c p) holds.node_is ∙ there

  abbrev held_test : Bool
  held_test = not (is_held (slot_at b id).state)

  abbrev lent_test : Bool
  lent_test = not (Step.is_lent b c g deck turns)

  abbrev ending : Out
  ending = Step.parked b id c p

  abbrev clear_rest : Out
  clear_rest = cond (has_clash deck.ships) (b, machine.Clashes id) ending

  abbrev group_rest : Option Group → Out
  group_rest o = Step.park_group b id c p deck turns o

  way : Step.step (λ _ _. never) b (park id c p deck turns) ≡ ending
  way =
      pick-false held_test (b, machine.NotHeld id) (group_rest (group_at (slot_at b id).node c p)) (not_from_true (is_held (slot_at b id).state) (is-held b id node holds))
      ∙ ap group_rest at-slot
      ∙ pick-false lent_test (b, machine.OtherDeck) clear_rest (not_from_true (Step.is_lent b c g deck turns) (lent b c g deck turns own enough))
      ∙ pick-false (has_clash deck.ships) (b, machine.Clashes id) ending (no_clash-test deck clear)

  pub parked_frees : Answers b (park id c p deck turns) r new → HoldsNothing new
  parked_frees answers = freed b id node (slot.Parked c p) new holds refl (ap (λ (o : Out). o.0.slots) (sym answers.same ∙ way))

-- ---- replace

outdone-node : (cost : ℕ) (s : Slot) → (Step.outdone cost s).node ≡ s.node
outdone-node cost s = by_test ((is_fresh s.state || is_back s.state || is_parked s.state) && nat_le cost s.bound)
  where
    by_test : (t : Bool) → (cond t (record s { state = slot.Closed by.Bound }) s).node ≡ s.node
    by_test true = refl
    by_test false = refl

outdone-held : (cost w : ℕ) (s : Slot) → s.state ≡ slot.Held w → (Step.outdone cost s).state ≡ slot.Held w
outdone-held cost w s e = ap (λ t. (cond t (record s { state = slot.Closed by.Bound }) s).state) off ∙ e
  where
    off : ((is_fresh s.state || is_back s.state || is_parked s.state) && nat_le cost s.bound) ≡ false
    off = ap (λ u. (is_fresh u || is_back u || is_parked u) && nat_le cost s.bound) e

outdone-off : (cost : ℕ) (s : Slot) → is_held s.state ≡ false → is_held (Step.outdone cost s).state ≡ false
outdone-off cost s e = by_test ((is_fresh s.state || is_back s.state || is_parked s.state) && nat_le cost s.bound)
  where
    by_test : (t : Bool) → is_held (cond t (record s { state = slot.Closed by.Bound }) s).state ≡ false
    by_test true = refl
    by_test false = e

-- the slot is still held, and the best plan costs at most this
pub record IsBettered (b : Book) (id : ℕ) (node : Node) (cost : ℕ) (new : Book) : Type 0 where
  pub holds : HoldsOnly new id node
  pub best : best_cost new ≤ cost
  pub case : new.case ≡ b.case

module _ (b : Book) (id : ℕ) (node : Node) (plan : Plan) (holds : HoldsOnly b id node) where
  abbrev cost : ℕ
  cost = cost_of b.case.instance plan

  replaced-is : IsBettered b id node cost (Step.replaced b plan)
  replaced-is = record {
    holds = record {
      held = ap (λ (s : Slot). s.state) (outdone-at cost b.slots id) ∙ outdone-held cost WORKERS (slot_at b id) holds.held;
      others = λ k other. ap (λ (s : Slot). is_held s.state) (outdone-at cost b.slots k) ∙ outdone-off cost (slot_at b k) (holds.others k other);
      node_is = ap (λ (s : Slot). s.node) (outdone-at cost b.slots id) ∙ outdone-node cost (slot_at b id) ∙ holds.node_is;
    };
    best = omega arith;
    case = refl;
  }

  by_cost : (t : Bool) → nat_le (best_cost b) cost ≡ t → IsBettered b id node cost (cond {A = Out} t (b, machine.NotCheaper cost (best_cost b)) (Step.replaced b plan, machine.Replaced cost)).0
  by_cost true e = elim (leb_tells (best_cost b) cost) [
    | inl y ↦ record { holds = holds; best = y.1; case = refl }
    | inr n ↦ absurd (true≢false (sym e ∙ n.0))
  ]
  by_cost false e = replaced-is

  by_break : (o : Option BrokenPlan) → (IsNone o) → IsBettered b id node cost (Step.replace_by b plan o).0
  by_break None h = by_cost (nat_le (best_cost b) cost) refl
  by_break (Some found) h = absurd (true≢false h)

  held-cost : (t : Bool) → HoldsOnly (cond {A = Out} t (b, machine.NotCheaper cost (best_cost b)) (Step.replaced b plan, machine.Replaced cost)).0 id node
  held-cost true = holds
  held-cost false = replaced-is.holds

  held-break : (o : Option BrokenPlan) → HoldsOnly (Step.replace_by b plan o).0 id node
  held-break None = held-cost (nat_le (best_cost b) cost)
  held-break (Some found) = holds

  -- whatever becomes of the plan, the slot is still held
  pub replaced_holds : (r : Reply) (new : Book) → Does b (replace plan) r new → HoldsOnly new id node
  replaced_holds r new (Stays wants) = subst (λ (x : Book). HoldsOnly x id node) (sym wants.same) holds
  replaced_holds r new (Steps answers) = subst (λ (x : Book). HoldsOnly x id node) (ap (λ (o : Out). o.0) answers.same) (held-break answers.found)

  pub replaced_better : (r : Reply) (new : Book) → IsLegal b.case.instance plan → is_want r ≡ false → Does b (replace plan) r new → IsBettered b id node cost new
  replaced_better r new legal said (Stays wants) = absurd (true≢false (ap is_want (sym wants.want) ∙ said))
  replaced_better r new legal said (Steps answers) = subst (IsBettered b id node cost) (ap (λ (o : Out). o.0) answers.same) (by_break answers.found (answers.judged.none.1 legal))
