use Rattle.std.proofs.Common.{sym, ap, ◌∙◌, subst, arith, slice_index_or, slice_set, None, true, false, refl}
use Rattle.book_rules.specs.declared.book.Entry.TheVariants as entry
use Rattle.book_rules.specs.Book.{Book, first_slot, is_held_by}
use Rattle.book_rules.specs.declared.book.SlotState.TheVariants as slot
use Rattle.book_core.specs.Stored.{slots_of}
use Rattle.book_core.specs.Keeps.{IsSound, AreTables}
use Rattle.book_core.specs.Seen.{seen}
use Rattle.lock_rules.specs.Children.{insert_number}
use Rattle.book_core.specs.Hands.{ids_of}
use Rattle.book_core.proofs.KeepingLemmas.{lows-kept}
use Rattle.book_core.proofs.HeldLemmas.{ids-set, changed-nodes, nodes-set, nodes-kept}
use Rattle.book_core.proofs.PathLemmas.{path-kept}
use Rattle.book_core.proofs.SettleLemmas.{restated, slots-known, restated-changes}
use Rattle.book_core.proofs.HandOverLemmas.{holder-at, tables-returned, returned-is, room-back}
use Rattle.book_core.proofs.book.Book.put_back.Goals as goal

pub index_mut-requires : goal.index_mut-requires
index_mut-requires c =
    let known = slots-known c.self.inside c.args.self.now c.self.view_is c.args.id (holder-at c.args.self.now c.args.id c.args.worker c.requires.held) in
    omega (arith, known, c.self.inside.slots.ok.0)

pub insert-requires : goal.insert-requires
insert-requires c =
    let a = c.self.inside in
    let old = c.self.invariant in
    let running = ap (λ (b : Book). slice_index_or b.ended c.args.worker false) c.self.view_is ∙ c.requires.running in
    room-back (seen a) a.ended (ids_of a.hands) a.back a.waiting.items old.tables (seen a).slots 0 c.args.worker (omega (arith, c.requires.known, old.sound.parts.workers.nine)) running

pub returns : goal.returns
returns c =
    let a = c.self.inside in
    let known = slots-known a c.args.self.now c.self.view_is c.args.id (holder-at c.args.self.now c.args.id c.args.worker c.requires.held) in
    returned-is a c.args.self.now c.self.view_is c.args.id c.args.worker c.index_mut.result.now c.index_mut.ensures.value known c.push_reserved.new.self.items c.push_reserved.ensures.items

pub invariant_of-self : goal.invariant_of-self
invariant_of-self c =
    let a = c.self.inside in
    let b = c.args.self.now in
    let old = c.self.invariant in
    let r = c.index_mut.result.now in
    let known = slots-known a b c.self.view_is c.args.id (holder-at b c.args.id c.args.worker c.requires.held) in
    let same = returned-is a b c.self.view_is c.args.id c.args.worker r c.index_mut.ensures.value known c.push_reserved.new.self.items c.push_reserved.ensures.items in
    let running = ap (λ (b : Book). slice_index_or b.ended c.args.worker false) c.self.view_is ∙ c.requires.running in
    let new = slots_of a.case.instance (slice_set a.slots.items c.args.id (restated r slot.Back)) in
    let I = a.case.instance in
    let keeps = changed-nodes (seen a).slots new c.args.id slot.Back (restated-changes a b c.self.view_is c.args.id r c.index_mut.ensures.value slot.Back known) in
    record {
      sound = subst IsSound (sym same) c.requires.sound;
      tables = subst (λ l. AreTables new (slice_set a.ended c.args.worker true) (ids_of (slice_set a.hands c.args.worker None)) l a.waiting.items) (sym c.insert.ensures)
          (subst (λ h. AreTables new (slice_set a.ended c.args.worker true) h (insert_number c.args.id a.back) a.waiting.items) (ids-set a.hands c.args.worker None)
          (tables-returned (seen a) a.ended (ids_of a.hands) a.back a.waiting.items old.tables new c.args.id c.args.worker
          (restated-changes a b c.self.view_is c.args.id r c.index_mut.ensures.value slot.Back known)
          (ap (λ u. first_slot u (is_held_by c.args.worker)) c.self.view_is ∙ c.requires.held)
          (omega (arith, c.requires.known, old.sound.parts.workers.nine)) running));
      nodes = nodes-set I new a.hands (nodes-kept I (seen a).slots new keeps a.hands old.nodes) c.args.worker None tt;
      path = path-kept I (seen a).slots new keeps a.path old.path;
      roster_is = old.roster_is;
      costs = record { best_is = old.costs.best_is; opening_is = old.costs.opening_is; throughput_is = old.costs.throughput_is };
      lows = lows-kept a.history.items a.shown_lows (entry.Release c.args.worker) c.push_reserved.new.self.items old.lows refl c.push_reserved.ensures.items;
      room = record { enough = omega (arith, old.room.enough, c.push_reserved.ensures.capacity) };
    }
