use Rattle.std.proofs.Common.{◌+◌, length, sym, ap, ◌∙◌, leb-false, leb-true}
use Rattle.std.proofs.lemmas.List.{length-map}
use Rattle.lock_rules.specs.Bound.{bound_of}
use Rattle.lock_rules.specs.Children.{children_of}
use Rattle.book_rules.specs.Book.{slot_at, is_held}
use Rattle.book_core.proofs.GrowLemmas.{split-missed, split-whole, split-sound, split-done}
use Rattle.book_core.proofs.book.Book.split.Goals as goal

pub returns-then-is_whole : goal.returns-then-is_whole
returns-then-is_whole c =
    let b = c.args.self.now in
    split-whole b c.args.id (ap is_held c.in-Some.ensures.some) (leb-true (length b.case.instance.ships) (slot_at b c.args.id).node.depth (sym c.is_whole.ensures ∙ c.if-is_whole.true))

pub grow-requires-clause-lacks : goal.grow-requires-clause-lacks
grow-requires-clause-lacks c =
    let b = c.args.self.now in
    leb-false (length b.case.instance.ships) (slot_at b c.args.id).node.depth (sym c.is_whole.ensures ∙ c.if-is_whole.false)

pub grow-requires-clause-sound : goal.grow-requires-clause-sound
grow-requires-clause-sound c =
    let b = c.args.self.now in
    split-sound b c.args.id c.keeps.ensures (ap is_held c.in-Some.ensures.some) (leb-false (length b.case.instance.ships) (slot_at b c.args.id).node.depth (sym c.is_whole.ensures ∙ c.if-is_whole.false))

pub returns-in-Ok : goal.returns-in-Ok
returns-in-Ok c =
    let b = c.args.self.now in
    let node = (slot_at b c.args.id).node in
    let kids = children_of b.case.instance node.depth node.lines in
    let lacks = leb-false (length b.case.instance.ships) node.depth (sym c.is_whole.ensures ∙ c.if-is_whole.false) in
    split-done b c.args.id (ap is_held c.in-Some.ensures.some) lacks c.in-Ok.count c.grow.new.self (c.in-Ok.ensures.count ∙ length-map kids (bound_of b.case.instance (node.depth + 1))) c.in-Ok.ensures.some

pub returns-in-None : goal.returns-in-None
returns-in-None c = split-missed c.args.self.now c.args.id c.in-None.ensures.none
