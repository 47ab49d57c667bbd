use Rattle.std.proofs.Common.{All, sym, subst}
use Rattle.std.proofs.lemmas.Result.{on_ok_weaker}
use Rattle.std.proofs.lemmas.List.Elements.{All-push}
use Rattle.price_table.specs.declared.frame.Frame.{Frame}
use Rattle.price_groups.specs.Asked.{line_asked}
use Rattle.price_table.specs.Values.{IsFrame}
use Rattle.price_table.proofs.FrameLemmas.{frame-value, values-kept, value-rounded}
use Rattle.price_successors.proofs.SuccessorListLemmas.{some-successor_list}
use Rattle.price_table.proofs.least.turn.Goals as goal

pub returns-in-None-clause-values : goal.returns-in-None-clause-values
returns-in-None-clause-values c =
    let table = c.args.table.now in
    let case = table.case.now in
    let I = case.instance.now in
    let told = c.in-None.ensures in
    let frame = c.advance.new.frame in
    let e = some-successor_list (line_asked case) table.successor_lists.now c.requires.successor_lists in
    on_ok_weaker c.keep.result (λ more.
    values-kept (line_asked case) case.chamber_in table.horizon c.args.values.now c.keep.new.self frame.ready.state.place frame.ready.state.stand frame.ready.state.minute _ told.frame.place c.requires.values
    (value-rounded (line_asked case) case.chamber_in table.horizon frame.ready.state.place frame.ready.state.stand frame.ready.state.minute frame.best table.small (frame-value (line_asked case) case.chamber_in table.horizon table.successor_lists.now frame e c.requires.successor_lists (told.none e) told.frame)) more) c.keep.ensures

pub returns-in_ok-append-in-Some-clause-frames : goal.returns-in_ok-append-in-Some-clause-frames
returns-in_ok-append-in-Some-clause-frames c =
    let table = c.args.table.now in
    let case = table.case.now in
    let I = case.instance.now in
    let is : Frame → Type 0 = IsFrame (line_asked case) table.horizon table.successor_lists.now in
    let first = All-push is c.args.frames.now.items c.advance.new.frame c.requires.frames (c.in-Some.ensures.frame) in
    on_ok_weaker c.append-in-Some.result (λ pushed.
    subst (All is) (sym pushed) (All-push is c.append.new.list.items c.opened.result (subst (All is) (sym c.in_ok-append-in-Some.ensures) first) c.opened.ensures)) c.append-in-Some.ensures
