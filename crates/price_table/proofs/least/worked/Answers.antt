use Rattle.std.proofs.Common.{◌++◌, ap, ◌∙◌}
use Rattle.std.specs.Option.{option_to_list}
use Rattle.price_groups.specs.Asked.{line_asked}
use Rattle.price_table.specs.Values.{IsFrame}
use Rattle.price_groups.proofs.ForbiddenLemmas.{popped-all}
use Rattle.price_table.proofs.least.worked.Goals as goal

pub turn-requires-clause-frames : goal.turn-requires-clause-frames
turn-requires-clause-frames c =
    let table = c.args.table.now in
    let case = table.case.now in
    let I = case.instance.now in
    (popped-all (IsFrame (line_asked case) table.horizon table.successor_lists.now) c.loop.frames.items c.pop.new.self.items c.in-Some.frame
    (c.pop.ensures.items ∙ ap (λ r. c.pop.new.self.items ++ option_to_list r) c.in-Some.is) c.loop.invariant.frames).0

pub turn-requires-clause-frame : goal.turn-requires-clause-frame
turn-requires-clause-frame c =
    let table = c.args.table.now in
    let case = table.case.now in
    let I = case.instance.now in
    (popped-all (IsFrame (line_asked case) table.horizon table.successor_lists.now) c.loop.frames.items c.pop.new.self.items c.in-Some.frame
    (c.pop.ensures.items ∙ ap (λ r. c.pop.new.self.items ++ option_to_list r) c.in-Some.is) c.loop.invariant.frames).1
