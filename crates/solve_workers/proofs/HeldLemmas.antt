-- What the driver knows of the node in its hand, and how the node leaves it.
use Rattle.std.proofs.Common.{◌≡◌, ℕ, ◌<◌, ◌≤◌, length, refl, sym, ap, ◌∙◌, subst, arith, Bool, true, false, Some, Ok, Err, OnOk, OnErr, true≢false}
use Rattle.std.specs.Bool.{OnFalse}
use Rattle.std.specs.declared.result.Result.{Result}
use Rattle.lock_model.specs.declared.plan.Plan.{Plan}
use Rattle.lock_rules.specs.Arrival.{next_ship}
use Rattle.lock_rules.specs.Bound.{bound_of, probe_of}
use Rattle.lock_rules.specs.Cut.{HitsNode}
use Rattle.lock_rules.specs.Node.{Node, IsNode}
use Rattle.lock_rules.specs.Plan.{IsLegal}
use Rattle.refute_rules.specs.Cuts.{Cut}
use Rattle.deck_cuts.specs.Tried.{Tried}
use Rattle.master_branch.specs.Node.{IsNodeOf}
use Rattle.book_rules.specs.Book.{Book, Case, best_cost, no_slot, slot_at, bound_at}
use Rattle.book_rules.specs.Ends.{HoldsNothing}
use Rattle.book_rules.specs.Events.{close, post, park, replace}
use Rattle.book_rules.specs.Step.{probe_at}
use Rattle.book_core.specs.declared.reply.Reply.{Reply}
use Rattle.book_core.specs.Keeps.{IsSound}
use Rattle.book_core.specs.Replies.{Answers, Does}
use Rattle.lock_model.specs.declared.instance.Instance.{Instance}
use Rattle.lock_rules.specs.Throughput.{throughput_of}
use Rattle.closing_rules.specs.declared.grounds.Ground.{Ground}
use Rattle.closing_rules.specs.Grounds.{IsClosedBy}
use Rattle.book_rules.specs.States.{IsHitBy}
use Rattle.node_work.specs.declared.fate.Fate.{Fate}
use Rattle.node_work.specs.declared.search.Search.{Search}
use Rattle.node_work.specs.Fates.{IsNeverPriced, IsNeverSwept, IsAnyway, IsEarly, IsFate, IsNodeCut, IsPlanAt, IsSpentAt}
use Rattle.node_work.specs.Known.{HitsShips}
use Rattle.solve_workers.specs.Closable.{IsClosable, IsDriversFate, IsOwnSearch}
use Rattle.solve_workers.specs.Driving.{IsDriven}
use Rattle.solve_workers.specs.Holding.{HoldsOnly}
use Rattle.solve_workers.specs.Holds.{HoldsSlot, node_at}
use Rattle.solve_workers.specs.Told.{number_in, is_want}
use Rattle.solve_workers.proofs.FreeLemmas.{held-known}
use Rattle.solve_workers.proofs.CloseLemmas.{sure_shut}
use Rattle.solve_workers.proofs.GrowLemmas.{posted_there, posted_case, parked_frees, replaced_better}
use Rattle.closing_rules.specs.declared.grounds.Ground.TheVariants as by

pub on_ok : {A E P Q : Type 0} (r : Result A E) → OnOk r P → (P → Q) → OnOk r Q
on_ok (Ok a) h f = f h
on_ok (Err e) h f = h

pub on_err : {A E P Q : Type 0} (r : Result A E) → OnErr r P → (P → Q) → OnErr r Q
on_err (Ok a) h f = h
on_err (Err e) h f = f h

pub err_of : {A E P : Type 0} (r : Result A E) → P → OnErr r P
err_of (Ok a) is = tt
err_of (Err e) is = is

pub slot_holds : (b : Book) (id : ℕ) (n : Node) → HoldsOnly b id n → HoldsSlot b id
slot_holds b id n holds = record { held = holds.held; others = holds.others; node_is = refl }

pub slot_node : (b : Book) (id : ℕ) (n : Node) → HoldsOnly b id n → node_at b id ≡ n
slot_node b id n holds = holds.node_is

pub slot_closable : (b : Book) (id : ℕ) (n : Node) (why : Ground) → HoldsOnly b id n → IsClosable b n why → IsClosable b (node_at b id) why
slot_closable b id n why holds is = subst (λ (m : Node). IsClosable b m why) (sym (slot_node b id n holds)) is

module _ (b : Book) (id : ℕ) (n : Node) (holds : HoldsOnly b id n) where
  -- it is a node of the instance, and the slot has its bound
  pub held_node : IsSound b → IsNodeOf b.case.instance n
  held_node sound =
      let good = sound.keeps.slots id no_slot (held-known b id n holds) in
      subst (λ (t : Node). IsNode b.case.instance t.depth t.lines) holds.node_is good.node

  pub held_bound : IsSound b → (slot_at b id).bound ≡ bound_of b.case.instance n.depth n.lines
  held_bound sound =
      let good = sound.keeps.slots id no_slot (held-known b id n holds) in
      good.bound ∙ ap (bound_at b.case.instance) holds.node_is

  pub search_node : IsSound b → (search : Search) → IsOwnSearch b search → IsNodeOf search.instance.now n
  search_node sound search own = subst (λ (I : Instance). IsNodeOf I n) (sym own.instance_is) (held_node sound)

  -- a ground that holds of the node closes it
  pub closable_shut : (why : Ground) (r : Reply) (new : Book) → IsSound b → IsClosable b n why → Answers b (close id why) r new → HoldsNothing new
  closable_shut why r new sound is answers =
      let slot_is : IsClosedBy b.case.instance (IsHitBy b.case.instance b.cuts) IsNeverPriced IsNeverSwept (best_cost b) (slot_at b id).bound (slot_at b id).node.depth (slot_at b id).node.lines why =
      subst (λ bound. IsClosedBy b.case.instance (IsHitBy b.case.instance b.cuts) IsNeverPriced IsNeverSwept (best_cost b) bound (slot_at b id).node.depth (slot_at b id).node.lines why) (sym (held_bound sound))
      (subst (λ (t : Node). IsClosedBy b.case.instance (IsHitBy b.case.instance b.cuts) IsNeverPriced IsNeverSwept (best_cost b) (bound_of b.case.instance n.depth n.lines) t.depth t.lines why) (sym holds.node_is) is.closed) in
      sure_shut b id n holds r new why slot_is answers

  -- the plan of the node makes its bound too high
  pub complete_closable : (plan : Plan) (r : Reply) (mid : Book) → IsSound b → IsPlanAt b.case.instance n plan → is_want r ≡ false → Does b (replace plan) r mid → IsClosable mid (node_at mid id) by.Bound
  complete_closable plan r mid sound is told does =
      let better = replaced_better b id n plan holds r mid is.legal told does in
      let best = better.best in
      let cost = is.cost in
      slot_closable mid id n by.Bound better.holds
      (record { closed = subst (λ (k : Case). best_cost mid ≤ bound_of k.instance n.depth n.lines) (sym better.case) (omega (arith, best, cost)) })

  pub complete_holds : (plan : Plan) (r : Reply) (mid : Book) → IsLegal b.case.instance plan → is_want r ≡ false → Does b (replace plan) r mid → HoldsSlot mid id
  complete_holds plan r mid legal told does = slot_holds mid id n (replaced_better b id n plan holds r mid legal told does).holds

  -- the node is parked at a group that is spent
  pub spent_frees : (c p : ℕ) (told : Tried) (r : Reply) (new : Book) → IsSpentAt b.case.instance b.case.turns n.lines c p told → Answers b (park id c p told.deck told.turns) r new → HoldsNothing new
  spent_frees c p told r new spent answers =
      parked_frees b id n c p told.deck told.turns spent.group r new holds spent.there spent.deck (let same = spent.turns_are in omega (arith, same)) spent.clear answers

-- what prices leave of the slot where they don't close it
pub on_false : {P Q : Type 0} (t : Bool) → OnFalse t P → (P → Q) → OnFalse t Q
on_false true h f = h
on_false false h f = f h

pub of_false : {P : Type 0} (t : Bool) → OnFalse t P → t ≡ false → P
of_false true h e = absurd (true≢false e)
of_false false h e = h

pub still_lacks : (b new : Book) (id : ℕ) → IsDriven b new → (slot_at new id).node ≡ (slot_at b id).node → (slot_at b id).node.depth < length b.case.instance.ships → (slot_at new id).node.depth < length new.case.instance.ships
still_lacks b new id driven same lacks =
    subst (λ (k : Case). (slot_at new id).node.depth < length k.instance.ships) (sym driven.case)
    (subst (λ (t : Node). t.depth < length b.case.instance.ships) (sym same) lacks)

-- what the search knows of the node in hand
module _ (b : Book) (id : ℕ) (search : Search) (own : IsOwnSearch b search) where
  pub search_lacks : (n : Node) → n ≡ node_at b id → (slot_at b id).node.depth < length b.case.instance.ships → n.depth < length search.instance.now.ships
  search_lacks n is lacks =
      subst (λ (m : Node). m.depth < length search.instance.now.ships) (sym is)
      (subst (λ (I : Instance). (slot_at b id).node.depth < length I.ships) (sym own.instance_is) lacks)

  pub search_least : (n : Node) (least : ℕ) → n ≡ node_at b id → least ≡ probe_at b id (next_ship b.case.instance (slot_at b id).node.depth) → least ≡ probe_of search.instance.now n.depth n.lines (next_ship search.instance.now n.depth)
  search_least n least is told =
      subst (λ (m : Node). least ≡ probe_of search.instance.now m.depth m.lines (next_ship search.instance.now m.depth)) (sym is)
      (subst (λ (I : Instance). least ≡ probe_of I (slot_at b id).node.depth (slot_at b id).node.lines (next_ship I (slot_at b id).node.depth)) (sym own.instance_is) told)

-- a cut that was kept and hits the node
pub posted_closable : (b : Book) (n : Node) (cut : Cut) (r : Reply) (new : Book) (number : ℕ) → Does b (post cut) r new → number_in r ≡ Some number → IsNodeCut b.case.instance n.lines cut → IsClosable new n (by.Cut number)
posted_closable b n cut r new number does e is = record {
  closed = record {
    cut = cut;
    there = posted_there b cut r new number does e;
    hits = subst (λ (k : Case). HitsNode cut.ships cut.deck k.instance n.lines) (sym (posted_case b cut r new number does e)) is.hits;
  };
}

pub early_closable : (b : Book) (n : Node) (bound best : ℕ) (why : Ground) → best ≡ best_cost b → bound ≡ bound_of b.case.instance n.depth n.lines → IsEarly b.case.instance bound best why → IsClosable b n why
early_closable b n bound best by.Bound best_is bound_is is = record { closed = omega (arith, is, best_is, bound_is) }
early_closable b n bound best by.Throughput best_is bound_is is = record { closed = subst (λ m. m ≤ throughput_of b.case.instance) best_is is }
early_closable b n bound best (by.Probe s) best_is bound_is is = absurd is
early_closable b n bound best (by.Cut number) best_is bound_is is = absurd is
early_closable b n bound best (by.Price number) best_is bound_is is = absurd is
early_closable b n bound best (by.Swept number) best_is bound_is is = absurd is

-- what becomes of the node by the search of the book
pub own_fate : (b : Book) (search : Search) (n : Node) (best : ℕ) (f : Fate) → IsOwnSearch b search → best ≡ best_cost b → IsFate (HitsShips b search.instance.now) search.instance.now search.turns best n f → IsDriversFate b n f
own_fate b search n best f own best_is is =
    subst (λ m. IsFate (HitsShips b b.case.instance) b.case.instance b.case.turns m n f) best_is
    (subst (λ turns. IsFate (HitsShips b b.case.instance) b.case.instance turns best n f) own.turns_are
    (subst (λ (I : Instance). IsFate (HitsShips b I) I search.turns best n f) own.instance_is is))

pub own_anyway : (b : Book) (search : Search) (n : Node) (f : Fate) → IsOwnSearch b search → IsAnyway (HitsShips b search.instance.now) search.instance.now search.turns n f → IsDriversFate b n f
own_anyway b search n f own is = own_fate b search n (best_cost b) f own refl (is.fate_is (best_cost b))
