use Rattle.std.proofs.Common.{◌∙◌}
use Rattle.book_core.specs.Changes.{slot_in}
use Rattle.book_core.specs.Stored.{slots_of}
use Rattle.book_core.proofs.PathLemmas.{path-next}
use Rattle.book_core.proofs.path.Path.go_on.Goals as goal

pub returns-clause-path : goal.returns-clause-path
returns-clause-path c =
    let I = c.args.instance.now in
    let S = slots_of I c.args.slots.now in
    path-next I S c.args.self.now c.requires.path (slot_in S c.args.id).parent c.requires.from c.copy.result (c.copy.ensures ∙ c.last.ensures)
    c.args.id c.step.new.node c.step.ensures.deeper c.step.ensures.to (record { nodes = c.push_reserved.new.self }) c.push_reserved.ensures.items c.push_reserved.ensures.capacity
