use Rattle.std.proofs.Common.{length, sym, ap, ◌∙◌, subst, arith, slice_set, Some, None, refl}
use Rattle.book_rules.specs.declared.book.Entry.TheVariants as entry
use Rattle.book_rules.specs.Book.{Case, first_slot, is_held_by}
use Rattle.book_rules.specs.declared.book.SlotState.TheVariants as slot
use Rattle.flow_bounds.specs.Roster.{IsRosterOf}
use Rattle.book_core.specs.Stored.{slots_of}
use Rattle.book_core.specs.Changes.{IsNextFree, leave_back}
use Rattle.book_core.specs.Keeps.{IsSound, AreTables}
use Rattle.book_core.specs.Seen.{seen}
use Rattle.std.specs.declared.option.Option.{Option}
use Rattle.book_core.specs.declared.hand.Hand.{Hand}
use Rattle.book_core.specs.Hands.{ids_of, IsHand, IsNodeIn}
use Rattle.book_core.specs.Tables.{state_in}
use Rattle.book_core.proofs.KeepingLemmas.{lows-kept, one-fits}
use Rattle.book_core.proofs.HeldLemmas.{ids-set, changed-nodes, node-kept, nodes-set, nodes-kept}
use Rattle.book_core.proofs.SettleLemmas.{restated, slots-known, state-is, restated-changes}
use Rattle.book_core.proofs.PathLemmas.{path-kept, path-in, path-out, last-in, tree-of, tree-in}
use Rattle.book_core.proofs.HandOverLemmas.{free-known, tables-given, handed-is, not-empty}
use Rattle.book_core.proofs.book.Book.give.Goals as goal

pub index-requires : goal.index-requires
index-requires c =
    let known = slots-known c.self.inside c.args.self.now c.self.view_is c.args.id (free-known c.args.self.now c.args.id c.requires.open) in
    omega (arith, known, c.self.inside.slots.ok.0)

pub index_mut-requires : goal.index_mut-requires
index_mut-requires c =
    let known = slots-known c.self.inside c.args.self.now c.self.view_is c.args.id (free-known c.args.self.now c.args.id c.requires.open) in
    omega (arith, known, c.self.inside.slots.ok.0)

pub leave_back-requires : goal.leave_back-requires
leave_back-requires c = λ is none.
    let a = c.self.inside in
    let known = slots-known a c.args.self.now c.self.view_is c.args.id (free-known c.args.self.now c.args.id c.requires.open) in
    let state = state-is a c.args.self.now c.self.view_is c.args.id c.index.result.now c.index.ensures slot.Back known in
    not-empty (seen a) a.back c.self.invariant.tables.back_are c.args.id (state ∙ is) none

pub lead_to-requires-clause-tree : goal.lead_to-requires-clause-tree
lead_to-requires-clause-tree c =
    let a = c.self.inside in
    tree-in c.case.inside.instance a.case.instance (ap (λ (k : Case). k.instance) c.case.view_is) c.as_slice.result.now a.slots.items c.as_slice.ensures.value (tree-of (seen a) c.self.invariant.sound)

pub lead_to-requires-clause-path : goal.lead_to-requires-clause-path
lead_to-requires-clause-path c =
    let a = c.self.inside in
    path-in c.case.inside.instance a.case.instance (ap (λ (k : Case). k.instance) c.case.view_is) c.as_slice.result.now a.slots.items c.as_slice.ensures.value a.path c.self.invariant.path

pub lead_to-requires-clause-known : goal.lead_to-requires-clause-known
lead_to-requires-clause-known c =
    let known = slots-known c.self.inside c.args.self.now c.self.view_is c.args.id (free-known c.args.self.now c.args.id c.requires.open) in
    omega (arith, known, ap length c.as_slice.ensures.value)

pub returns : goal.returns
returns c =
    let a = c.self.inside in
    let known = slots-known a c.args.self.now c.self.view_is c.args.id (free-known c.args.self.now c.args.id c.requires.open) in
    handed-is a c.args.self.now c.self.view_is c.args.id c.args.worker c.index_mut.result.now c.index_mut.ensures.value known c.push_reserved.new.self.items c.args.used c.push_reserved.ensures.items

pub invariant_of-self : goal.invariant_of-self
invariant_of-self c =
    let a = c.self.inside in
    let b = c.args.self.now in
    let old = c.self.invariant in
    let r = c.index_mut.result.now in
    let known = slots-known a b c.self.view_is c.args.id (free-known b c.args.id c.requires.open) in
    let same = handed-is a b c.self.view_is c.args.id c.args.worker r c.index_mut.ensures.value known c.push_reserved.new.self.items c.args.used c.push_reserved.ensures.items in
    let state = state-is a b c.self.view_is c.args.id c.index.result.now c.index.ensures slot.Back known in
    let back = ap (λ s. leave_back s a.back) state ∙ sym c.leave_back.ensures in
    let new = slots_of a.case.instance (slice_set a.slots.items c.args.id (restated r (slot.Held c.args.worker))) in
    let I = a.case.instance in
    let node = c.copy.result in
    let own_hand : Hand = record { id = c.args.id; node = node; bounds = None } in
    let hand : Option Hand = Some own_hand in
    let keeps = changed-nodes (seen a).slots new c.args.id (slot.Held c.args.worker) (restated-changes a b c.self.view_is c.args.id r c.index_mut.ensures.value (slot.Held c.args.worker) known) in
    let path = c.lead_to.new.self in
    let leads = path-out c.case.inside.instance I (ap (λ (k : Case). k.instance) c.case.view_is) c.as_slice.result.now a.slots.items c.as_slice.ensures.value path c.lead_to.ensures.path in
    let there = subst (IsNodeIn I (seen a).slots c.args.id) (sym (c.copy.ensures ∙ c.last.ensures)) (last-in I (seen a).slots path leads c.args.id c.lead_to.ensures.ends) in
    let own : IsHand I new own_hand = record { own = node-kept I (seen a).slots new keeps c.args.id node there; bounds = tt } in
    record {
      sound = subst IsSound (sym same) c.requires.sound;
      tables = subst (λ l. AreTables new a.ended (ids_of (slice_set a.hands c.args.worker hand)) l a.waiting.items) back
          (subst (λ h. AreTables new a.ended h (leave_back (state_in (seen a).slots c.args.id) a.back) a.waiting.items) (ids-set a.hands c.args.worker hand)
          (tables-given (seen a) a.ended (ids_of a.hands) a.back a.waiting.items old.tables new c.args.id c.args.worker
          (restated-changes a b c.self.view_is c.args.id r c.index_mut.ensures.value (slot.Held c.args.worker) known)
          (subst (λ u. IsNextFree u c.args.id) (sym c.self.view_is) c.requires.open) c.requires.known
          (ap (λ u. first_slot u (is_held_by c.args.worker)) c.self.view_is ∙ c.requires.empty)));
      nodes = nodes-set I new a.hands (nodes-kept I (seen a).slots new keeps a.hands old.nodes) c.args.worker hand own;
      path = path-kept I (seen a).slots new keeps path leads;
      roster_is = old.roster_is;
      costs = record { best_is = old.costs.best_is; opening_is = old.costs.opening_is; throughput_is = old.costs.throughput_is };
      lows = lows-kept a.history.items a.shown_lows (entry.Take c.args.worker) c.push_reserved.new.self.items old.lows refl c.push_reserved.ensures.items;
      room = record { enough = omega (arith, old.room.enough, c.push_reserved.ensures.capacity) };
    }

pub lead_to-requires-clause-roster : goal.lead_to-requires-clause-roster
lead_to-requires-clause-roster c =
    subst (λ I. IsRosterOf I c.self.inside.roster) (sym (ap (λ (k : Case). k.instance) c.case.view_is)) c.self.invariant.roster_is

pub push_reserved-requires : goal.push_reserved-requires
push_reserved-requires c =
    one-fits c.self.inside c.self.invariant c.args.self.now c.self.view_is (entry.Take c.args.worker) _ refl c.requires.sound.parts.room.room
