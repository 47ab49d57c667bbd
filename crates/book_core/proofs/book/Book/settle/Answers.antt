use Rattle.std.proofs.Common.{sym, ap, ◌∙◌, subst, arith, slice_set}
use Rattle.book_core.specs.Keeps.{IsSound, AreTables}
use Rattle.book_core.specs.Stored.{slots_of}
use Rattle.book_core.specs.Changes.{let_go}
use Rattle.book_core.specs.Hands.{ids_of, AreNodes}
use Rattle.book_core.proofs.KeepingLemmas.{lows-kept, one-fits}
use Rattle.book_core.proofs.HeldLemmas.{ids-let_go, changed-nodes, nodes-let_go, nodes-kept}
use Rattle.book_core.proofs.PathLemmas.{path-kept}
use Rattle.book_core.proofs.SettleLemmas.{restated, restated-is, restated-changes, state-is, settled-known, holder-known, settled-tables}
use Rattle.book_core.proofs.book.Book.settle.Goals as goal

pub index-requires : goal.index-requires
index-requires c = let known = settled-known c.self.inside c.self.invariant c.args.self.now c.self.view_is c.args.id c.requires.from in omega (arith, known, c.self.inside.slots.ok.0)

pub index_mut-requires : goal.index_mut-requires
index_mut-requires c = let known = settled-known c.self.inside c.self.invariant c.args.self.now c.self.view_is c.args.id c.requires.from in omega (arith, known, c.self.inside.slots.ok.0)

pub let_go-requires : goal.let_go-requires
let_go-requires c = holder-known c.self.inside c.self.invariant c.args.self.now c.self.view_is c.args.id c.requires.from c.index.result.now c.index.ensures

pub returns : goal.returns
returns c =
    let a = c.self.inside in
    restated-is a c.args.self.now c.self.view_is c.args.id c.index_mut.result.now c.index_mut.ensures.value c.args.state c.push_reserved.new.self.items c.args.entry
    (settled-known a c.self.invariant c.args.self.now c.self.view_is c.args.id c.requires.from) c.push_reserved.ensures.items

pub invariant_of-self : goal.invariant_of-self
invariant_of-self c =
    let a = c.self.inside in
    let old = c.self.invariant in
    let known = settled-known a old c.args.self.now c.self.view_is c.args.id c.requires.from in
    let same = restated-is a c.args.self.now c.self.view_is c.args.id c.index_mut.result.now c.index_mut.ensures.value c.args.state c.push_reserved.new.self.items c.args.entry known c.push_reserved.ensures.items in
    let r = c.index_mut.result.now in
    let state = sym (state-is a c.args.self.now c.self.view_is c.args.id r c.index_mut.ensures.value c.args.state known) ∙ state-is a c.args.self.now c.self.view_is c.args.id c.index.result.now c.index.ensures c.args.state known in
    let hands = ap (λ s. let_go s (ids_of a.hands)) state ∙ ids-let_go c.index.result.now.state a.hands ∙ ap ids_of (sym c.let_go.ensures) in
    let I = a.case.instance in
    let new = slots_of I (slice_set a.slots.items c.args.id (restated r c.args.state)) in
    let keeps = changed-nodes (slots_of I a.slots.items) new c.args.id c.args.state (restated-changes a c.args.self.now c.self.view_is c.args.id r c.index_mut.ensures.value c.args.state known) in
    let empty = nodes-let_go I (slots_of I a.slots.items) a.hands old.nodes c.index.result.now.state in
    record {
      sound = subst IsSound (sym same) c.requires.sound;
      tables = subst (λ h. AreTables (slots_of a.case.instance (slice_set a.slots.items c.args.id (restated r c.args.state))) a.ended h a.back a.waiting.items) hands
          (settled-tables a old c.args.self.now c.self.view_is c.args.id c.requires.from r c.index_mut.ensures.value c.args.state c.requires.to);
      roster_is = old.roster_is;
      costs = record { best_is = old.costs.best_is; opening_is = old.costs.opening_is; throughput_is = old.costs.throughput_is };
      nodes = subst (AreNodes I new) (sym c.let_go.ensures) (nodes-kept I (slots_of I a.slots.items) new keeps (let_go c.index.result.now.state a.hands) empty);
      path = path-kept I (slots_of I a.slots.items) new keeps a.path old.path;
      lows = lows-kept a.history.items a.shown_lows c.args.entry c.push_reserved.new.self.items old.lows c.requires.other c.push_reserved.ensures.items;
      room = record { enough = omega (arith, old.room.enough, c.push_reserved.ensures.capacity) };
    }

pub push_reserved-requires : goal.push_reserved-requires
push_reserved-requires c = one-fits c.self.inside c.self.invariant c.args.self.now c.self.view_is c.args.entry _ c.requires.other c.requires.sound.parts.room.room
