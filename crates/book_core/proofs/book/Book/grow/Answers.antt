use Rattle.std.proofs.Common.{◌≡◌, ◌+◌, ◌++◌, length, refl, sym, ap, ◌∙◌, subst, arith, slice_set, None}
use Rattle.std.specs.Prelude.{IfSome}
use Rattle.book_rules.specs.declared.book.Entry.TheVariants as entry
use Rattle.book_rules.specs.declared.book.SlotState.TheVariants as slot
use Rattle.book_rules.specs.Book.{Book, Case, slot_at, is_held}
use Rattle.flow_bounds.specs.Roster.{IsRosterOf}
use Rattle.book_core.specs.Changes.{let_go}
use Rattle.book_core.specs.Growing.{stored_children}
use Rattle.book_core.specs.Hands.{ids_of, held_at, bounds_at, IsBounding, AreNodes}
use Rattle.book_core.specs.Keeps.{IsSound, AreTables}
use Rattle.book_core.specs.Path.{IsPath}
use Rattle.book_core.specs.Seen.{seen}
use Rattle.book_core.specs.Stored.{slots_of}
use Rattle.book_core.proofs.KeepingLemmas.{lows-kept, one-fits, no_value, if_refused}
use Rattle.book_core.proofs.BoundingLemmas.{holder-few, bounding, tables-filled, hands-filled, bounds-here, hands-left}
use Rattle.book_core.proofs.HeldLemmas.{ids-set}
use Rattle.book_core.proofs.KeptLemmas.{length-slots}
use Rattle.book_core.proofs.SettleLemmas.{restated}
use Rattle.book_core.proofs.SplitLemmas.{kids-few, holder, held-known, held-state, split-is, split-tables, split-nodes, split-path}
use Rattle.book_core.proofs.book.Book.grow.Goals as goal

pub fill_hand-requires-clause-hand : goal.fill_hand-requires-clause-hand
fill_hand-requires-clause-hand c =
    let a = c.self.inside in
    subst (λ K. IfSome (held_at a.hands c.args.worker) (IsBounding K)) (sym (ap (λ (k : Case). k.instance) c.case.view_is))
    (bounding a c.self.invariant c.args.self.now c.self.view_is c.args.worker c.args.id c.requires.held c.requires.lacks)

pub invariant_of-self : goal.invariant_of-self
invariant_of-self c =
    let a = c.self.inside in
    let I = a.case.instance in
    let old = c.self.invariant in
    let b = c.args.self.now in
    let hands = c.fill_hand.new.hands in
    let K_is = ap (λ (k : Case). k.instance) c.case.view_is in
    let slots = sym c.make_space.ensures.slots in
    record {
      sound = subst (λ l. IsSound (record (seen a) { slots = slots_of I l })) slots old.sound;
      tables = subst (λ l. AreTables (slots_of I l) a.ended (ids_of hands) a.back c.make_space.new.waiting.items) slots
          (subst (AreTables (slots_of I a.slots.items) a.ended (ids_of hands) a.back) (sym c.make_space.ensures.waiting)
          (tables-filled a old b c.self.view_is c.args.worker c.args.id c.requires.held c.case.inside.instance K_is hands c.fill_hand.ensures));
      nodes = subst (λ l. AreNodes I (slots_of I l) hands) slots (hands-filled a old b c.self.view_is c.args.worker c.args.id c.requires.held c.case.inside.instance K_is hands c.fill_hand.ensures);
      path = subst (λ l. IsPath I (slots_of I l) a.path) slots old.path;
      roster_is = old.roster_is;
      costs = record { best_is = old.costs.best_is; opening_is = old.costs.opening_is; throughput_is = old.costs.throughput_is };
      lows = old.lows;
      room = old.room;
    }

pub returns-in_err-make_space-clause-some : goal.returns-in_err-make_space-clause-some
returns-in_err-make_space-clause-some c = no_value _ c.from_residual.result c.from_residual.ensures.0

pub returns-in_err-make_space-clause-count : goal.returns-in_err-make_space-clause-count
returns-in_err-make_space-clause-count c = no_value _ c.from_residual.result c.from_residual.ensures.0

pub returns-in_err-make_space-clause-none : goal.returns-in_err-make_space-clause-none
returns-in_err-make_space-clause-none c =
    let a = c.self.inside in
    if_refused c.from_residual.result ((λ i. record (seen a) { slots = slots_of a.case.instance (c.make_space.ensures.slots i) }) ∙ c.self.view_is)

pub overflow_cast-first : goal.overflow_cast-first
overflow_cast-first c =
    let a = c.self.inside in
    let b = c.args.self.now in
    let few = kids-few b c.args.id c.requires.sound (bounds_at b c.args.id) ((slot_at b c.args.id).node.depth + 1) refl in
    omega (arith, few, ap (λ (u : Book). length u.slots) c.self.view_is, length-slots a.case.instance a.slots.items, c.len-first.ensures, c.make_space.new.slots.ok.0, ap length c.make_space.ensures.slots)

pub index_mut-requires : goal.index_mut-requires
index_mut-requires c =
    let known = held-known c.self.inside c.self.invariant c.args.self.now c.self.view_is c.args.id (ap is_held c.requires.held) in
    omega (arith, known, c.make_space.new.slots.ok.0, ap length c.make_space.ensures.slots)

pub returns-clause-count : goal.returns-clause-count
returns-clause-count c =
    let K_is = ap (λ (k : Case). k.instance) c.case.view_is in
    ap length (c.bounds_in-count.ensures.bounds
    ∙ bounds-here c.self.inside c.self.invariant c.args.self.now c.self.view_is c.args.worker c.args.id c.requires.held c.case.inside.instance K_is c.fill_hand.new.hands c.fill_hand.ensures c.index-self-worker.result)

pub overflow_add-first : goal.overflow_add-first
overflow_add-first c =
    let a = c.self.inside in
    let b = c.args.self.now in
    let few = kids-few b c.args.id c.requires.sound (bounds_at b c.args.id) ((slot_at b c.args.id).node.depth + 1) refl in
    let K_is = ap (λ (k : Case). k.instance) c.case.view_is in
    let many : length c.bounds_in-count.result.now ≡ length (bounds_at b c.args.id) = ap length (c.bounds_in-count.ensures.bounds
    ∙ bounds-here a c.self.invariant b c.self.view_is c.args.worker c.args.id c.requires.held c.case.inside.instance K_is c.fill_hand.new.hands c.fill_hand.ensures c.index-self-worker.result) in
    omega (arith, few, many, ap (λ (u : Book). length u.slots) c.self.view_is, length-slots a.case.instance a.slots.items, c.len-first.ensures, c.make_space.new.slots.ok.0, ap length c.make_space.ensures.slots)

pub returns-clause-some : goal.returns-clause-some
returns-clause-some c =
    let a = c.self.inside in
    let old = c.self.invariant in
    let b = c.args.self.now in
    let ss = c.make_space.new.slots.items in
    let r = c.index_mut.result.now in
    let n = c.len-first.result in
    let K_is = ap (λ (k : Case). k.instance) c.case.view_is in
    let count : n ≡ length ss = c.len-first.ensures ∙ c.make_space.new.slots.ok.0 in
    let slots = c.push_held.ensures ∙ ap (λ l. slice_set ss c.args.id (restated r (slot.Split n)) ++ stored_children a.best_cost c.args.id 0 l)
    (bounds-here a old b c.self.view_is c.args.worker c.args.id c.requires.held c.case.inside.instance K_is c.fill_hand.new.hands c.fill_hand.ensures None) in
    split-is a old b c.self.view_is c.args.id (ap is_held c.requires.held) ss c.make_space.ensures.slots r c.index_mut.ensures.value (bounds_at b c.args.id) refl n count
    c.push_held.new.slots.items slots c.push_reserved-2.new.self.items c.push_reserved-2.ensures.items

pub invariant_of-self-2 : goal.invariant_of-self-2
invariant_of-self-2 c =
    let a = c.self.inside in
    let old = c.self.invariant in
    let b = c.args.self.now in
    let id = c.args.id in
    let w = c.args.worker in
    let held = ap is_held c.requires.held in
    let ss = c.make_space.new.slots.items in
    let r = c.index_mut.result.now in
    let n = c.len-first.result in
    let K = c.case.inside.instance in
    let K_is = ap (λ (k : Case). k.instance) c.case.view_is in
    let hands = c.fill_hand.new.hands in
    let count : n ≡ length ss = c.len-first.ensures ∙ c.make_space.new.slots.ok.0 in
    let slots = c.push_held.ensures ∙ ap (λ l. slice_set ss id (restated r (slot.Split n)) ++ stored_children a.best_cost id 0 l)
    (bounds-here a old b c.self.view_is w id c.requires.held K K_is hands c.fill_hand.ensures None) in
    let same = split-is a old b c.self.view_is id held ss c.make_space.ensures.slots r c.index_mut.ensures.value (bounds_at b id) refl n count
    c.push_held.new.slots.items slots c.push_reserved-2.new.self.items c.push_reserved-2.ensures.items in
    let left = hands-left a old b c.self.view_is w id c.requires.held K K_is hands c.fill_hand.ensures in
    let state : r.state ≡ slot.Held w = held-state a old b c.self.view_is id held ss c.make_space.ensures.slots r c.index_mut.ensures.value ∙ sym (holder a old b c.self.view_is id held).1 ∙ ap (λ (u : Book). (slot_at u id).state) c.self.view_is ∙ c.requires.held in
    let many : length c.bounds_in-count.result.now ≡ length (bounds_at b id) = ap length (c.bounds_in-count.ensures.bounds
    ∙ bounds-here a old b c.self.view_is w id c.requires.held K K_is hands c.fill_hand.ensures c.index-self-worker.result) in
    record {
      sound = subst IsSound (sym same) c.requires.sound;
      tables = split-tables a old b c.self.view_is id held ss c.make_space.ensures.slots r c.index_mut.ensures.value (bounds_at b id) refl n count
          c.push_held.new.slots.items slots (ids_of (slice_set hands w None)) (ap ids_of left ∙ sym (ids-set a.hands w None) ∙ ap (λ s. let_go s (ids_of a.hands)) (sym state))
          c.push_reserved.new.self.items c.make_space.new.waiting.items c.make_space.ensures.waiting (n + length c.bounds_in-count.result.now) (ap (λ k. n + k) many) c.push_reserved.ensures.items;
      nodes = split-nodes a old b c.self.view_is id held ss c.make_space.ensures.slots r c.index_mut.ensures.value (bounds_at b id) refl n count
          c.push_held.new.slots.items slots (slot.Held w) (slice_set hands w None) left;
      path = split-path a old b c.self.view_is id held ss c.make_space.ensures.slots r c.index_mut.ensures.value (bounds_at b id) refl n count
          c.push_held.new.slots.items slots;
      roster_is = old.roster_is;
      costs = record { best_is = old.costs.best_is; opening_is = old.costs.opening_is; throughput_is = old.costs.throughput_is };
      lows = lows-kept a.history.items a.shown_lows (entry.Split id) c.push_reserved-2.new.self.items old.lows refl c.push_reserved-2.ensures.items;
      room = record { enough = omega (arith, old.room.enough, c.push_reserved-2.ensures.capacity) };
    }

pub fill_hand-requires-clause-worker : goal.fill_hand-requires-clause-worker
fill_hand-requires-clause-worker c =
    let few = holder-few c.self.inside c.self.invariant c.args.self.now c.self.view_is c.args.worker c.args.id c.requires.held in
    omega (arith, few)

pub fill_hand-requires-clause-roster : goal.fill_hand-requires-clause-roster
fill_hand-requires-clause-roster c =
    subst (λ I. IsRosterOf I c.self.inside.roster) (sym (ap (λ (k : Case). k.instance) c.case.view_is)) c.self.invariant.roster_is

pub bounds-self-inside-worker : goal.bounds-self-inside-worker
bounds-self-inside-worker c = holder-few c.self.inside c.self.invariant c.args.self.now c.self.view_is c.args.worker c.args.id c.requires.held

pub bounds-self-inside-worker-2 : goal.bounds-self-inside-worker-2
bounds-self-inside-worker-2 c = holder-few c.self.inside c.self.invariant c.args.self.now c.self.view_is c.args.worker c.args.id c.requires.held

pub push_held-requires-clause-worker : goal.push_held-requires-clause-worker
push_held-requires-clause-worker c =
    let few = holder-few c.self.inside c.self.invariant c.args.self.now c.self.view_is c.args.worker c.args.id c.requires.held in
    omega (arith, few)

pub push_reserved-requires : goal.push_reserved-requires
push_reserved-requires c = c.in_ok-make_space.ensures.one

pub push_reserved-requires-2 : goal.push_reserved-requires-2
push_reserved-requires-2 c =
    one-fits c.self.inside c.self.invariant c.args.self.now c.self.view_is (entry.Split c.args.id) _ refl c.requires.sound.parts.room.room

pub push_held-requires-clause-room : goal.push_held-requires-clause-room
push_held-requires-clause-room c =
    let a = c.self.inside in
    let b = c.args.self.now in
    let K_is = ap (λ (k : Case). k.instance) c.case.view_is in
    let here = bounds-here a c.self.invariant b c.self.view_is c.args.worker c.args.id c.requires.held c.case.inside.instance K_is c.fill_hand.new.hands c.fill_hand.ensures in
    let same = ap length (here None ∙ sym (c.bounds_in-count.ensures.bounds ∙ here c.index-self-worker.result)) in
    omega (arith, same, c.in_ok-make_space.ensures.room)
