use Rattle.std.proofs.Common.{sym, subst, arith, None}
use Rattle.book_rules.specs.declared.book.SlotState.TheVariants as slot
use Rattle.book_core.specs.declared.stored_slot.StoredSlot.{StoredSlot}
use Rattle.book_core.specs.Stored.{slots_of}
use Rattle.book_core.specs.Hands.{IsNodeIn}
use Rattle.book_core.proofs.KeptLemmas.{length-slots}
use Rattle.book_core.proofs.PathLemmas.{stored-as, up-before, root-in}
use Rattle.book_core.proofs.path.+node_from_root.Goals as goal

pub returns-then-id-eq0 : goal.returns-then-id-eq0
returns-then-id-eq0 t c =
    let I = c.args.instance.now in
    root-in I (slots_of I c.args.slots.now) c.requires.tree c.args.id (omega (arith, c.requires.known, length-slots I c.args.slots.now)) c.if-id-eq0.true c.root.result c.root.ensures.value c.root.ensures.node

pub node_from_root-node-requires : goal.node_from_root-node-requires
node_from_root-node-requires t c =
    let d : StoredSlot = record { bound = 0; shown = None; state = slot.Fresh; parent = 0; number = 0 } in
    let before = up-before c.args.instance.now c.args.slots.now c.requires.tree c.args.id (omega arith) c.requires.known d in
    (omega (arith, before, c.decreases), (c.requires.tree, (c.requires.roster, omega (arith, before, c.requires.known))))

pub step-requires-clause-from : goal.step-requires-clause-from
step-requires-clause-from t c =
    let I = c.args.instance.now in
    let d : StoredSlot = record { bound = 0; shown = None; state = slot.Fresh; parent = 0; number = 0 } in
    subst (λ k. IsNodeIn I (slots_of I c.args.slots.now) k c.node_from_root-node.result) (sym (stored-as I c.args.slots.now c.requires.tree c.args.id (omega arith) c.requires.known d).parent) c.node_from_root-node.ensures
