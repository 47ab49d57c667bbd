use Rattle.std.proofs.Common.{arith, slice_index_or, None}
use Rattle.book_rules.specs.declared.book.SlotState.TheVariants as slot
use Rattle.book_core.specs.declared.stored_slot.StoredSlot.{StoredSlot}
use Rattle.book_core.specs.Stored.{slots_of}
use Rattle.book_core.proofs.KeptLemmas.{length-slots}
use Rattle.book_core.proofs.PathLemmas.{child-here, stored-as, step-within, step-to}
use Rattle.book_core.proofs.path.step.Goals as goal

pub descend-requires-clause-within : goal.descend-requires-clause-within
descend-requires-clause-within c =
    let I = c.args.instance.now in
    let ss = c.args.slots.now in
    let id = c.args.id in
    let d : StoredSlot = record { bound = 0; shown = None; state = slot.Fresh; parent = 0; number = 0 } in
    step-within I (slots_of I ss) id (child-here I ss c.requires.tree id c.requires.some c.requires.known) c.args.node.now c.requires.from (slice_index_or ss id d).number
    (stored-as I ss c.requires.tree id c.requires.some c.requires.known d).number

pub returns-clause-to : goal.returns-clause-to
returns-clause-to c =
    let I = c.args.instance.now in
    let ss = c.args.slots.now in
    let id = c.args.id in
    let d : StoredSlot = record { bound = 0; shown = None; state = slot.Fresh; parent = 0; number = 0 } in
    step-to I (slots_of I ss) id (child-here I ss c.requires.tree id c.requires.some c.requires.known) c.args.node.now c.requires.from
    (omega (arith, c.requires.known, length-slots I ss)) c.descend.new.node c.descend.ensures.depth (slice_index_or ss id d).number
    (stored-as I ss c.requires.tree id c.requires.some c.requires.known d).number c.descend.ensures.lines c.descend.ensures.node
