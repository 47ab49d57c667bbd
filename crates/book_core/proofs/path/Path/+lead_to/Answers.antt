use Rattle.std.proofs.Common.{sym, subst, arith, None}
use Rattle.book_rules.specs.declared.book.SlotState.TheVariants as slot
use Rattle.book_core.specs.declared.stored_slot.StoredSlot.{StoredSlot}
use Rattle.book_core.specs.Stored.{slots_of}
use Rattle.lock_rules.specs.Node.{root}
use Rattle.book_core.specs.Path.{EndsAt}
use Rattle.book_core.proofs.KeptLemmas.{length-slots}
use Rattle.book_core.proofs.PathLemmas.{stored-as, up-before, root-in, path-cut, path-started}
use Rattle.book_core.proofs.path.Path.+lead_to.Goals as goal
use Rattle.std.proofs.Common.{refl}

pub returns-then-id-eq0-clause-path : goal.returns-then-id-eq0-clause-path
returns-then-id-eq0-clause-path t c =
    let I = c.args.instance.now in
    let S = slots_of I c.args.slots.now in
    path-started I S c.start.new.self c.start.ensures.nodes (omega (arith, c.start.ensures.room, c.truncate.ensures.capacity, c.requires.path.room)) (record {
      own = root-in I S c.requires.tree 0 (omega (arith, c.requires.known, length-slots I c.args.slots.now)) refl root refl c.start.ensures.node;
      deep = refl;
    })

pub lead_to-requires : goal.lead_to-requires
lead_to-requires t c =
    let I = c.args.instance.now in
    let d : StoredSlot = record { bound = 0; shown = None; state = slot.Fresh; parent = 0; number = 0 } in
    let before = up-before I c.args.slots.now c.requires.tree c.args.id (omega arith) c.requires.known d in (
      omega (arith, before, c.decreases),
      (
        c.requires.tree,
        (
          c.requires.roster,
          (
            omega (arith, before, c.requires.known),
            path-cut I (slots_of I c.args.slots.now) c.args.self.now (record { nodes = c.truncate.new.self }) c.count_up_to-count.result c.truncate.ensures.items c.truncate.ensures.capacity c.requires.path,
          ),
        ),
      ),
    )

pub go_on-requires-clause-from : goal.go_on-requires-clause-from
go_on-requires-clause-from t c =
    let d : StoredSlot = record { bound = 0; shown = None; state = slot.Fresh; parent = 0; number = 0 } in
    subst (λ k. EndsAt k c.lead_to.new.self.nodes.items) (sym (stored-as c.args.instance.now c.args.slots.now c.requires.tree c.args.id (omega arith) c.requires.known d).parent) c.lead_to.ensures.ends
