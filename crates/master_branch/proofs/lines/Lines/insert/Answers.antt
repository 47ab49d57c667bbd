use Rattle.std.proofs.Common.{◌+◌, ◌<◌, ◌≤◌, length, arith, ap, ◌∙◌, sym, subst}
use Rattle.std.specs.List.{insert}
use Rattle.lock_model.specs.declared.limits.TheConstants.{SHIPS}
use Rattle.master_branch.specs.Row.{cut_from, IsCutRow}
use Rattle.master_branch.proofs.RowLemmas.{line-fits, insert-in, row-insert, row-held, ends-within}
use Rattle.master_branch.proofs.lines.Lines.insert.Goals as goal

pub insert-requires : goal.insert-requires
insert-requires c =
    let place : c.start_of-start.result + c.args.place ≤ length c.self.inside.row.items =
    omega (arith, c.requires.place, line-fits c.self.inside.row.items c.self.inside.ends c.args.self.now c.args.chamber c.start_of-start.result c.self.invariant c.self.view_is c.requires.chamber c.start_of-start.ensures) in
    let room : length c.self.inside.row.items < SHIPS = omega (arith, c.requires.room, row-held c.self.inside.row.items c.self.inside.ends c.args.self.now c.self.invariant c.self.view_is) in
    (omega arith, (place, room))

pub raised-self-inside-requires-clause-room : goal.raised-self-inside-requires-clause-room
raised-self-inside-requires-clause-room c = λ k d less.
    omega (
      arith,
      ends-within 0 c.self.inside.ends (length c.self.inside.row.items) c.self.invariant.cut k d less,
      c.requires.room,
      row-held c.self.inside.row.items c.self.inside.ends c.args.self.now c.self.invariant c.self.view_is,
    )

pub invariant_of-self : goal.invariant_of-self
invariant_of-self c =
    let i = c.start_of-start.result + c.args.place in
    let place : i ≤ length c.self.inside.row.items =
    omega (arith, c.requires.place, line-fits c.self.inside.row.items c.self.inside.ends c.args.self.now c.args.chamber c.start_of-start.result c.self.invariant c.self.view_is c.requires.chamber c.start_of-start.ensures) in
    subst (λ row. IsCutRow row c.raised-self-inside.result) (sym c.insert.ensures.items)
    (subst (IsCutRow (insert c.self.inside.row.items i c.args.group)) (sym c.raised-self-inside.ensures) (row-insert c.self.inside.row.items c.self.inside.ends c.args.chamber i c.args.group c.self.invariant c.requires.chamber place))

pub returns : goal.returns
returns c =
    ap (λ row. cut_from 0 row c.raised-self-inside.result) c.insert.ensures.items
    ∙ ap (cut_from 0 (insert c.self.inside.row.items (c.start_of-start.result + c.args.place) c.args.group)) c.raised-self-inside.ensures
    ∙ insert-in c.self.inside.row.items c.self.inside.ends c.args.self.now c.args.chamber c.start_of-start.result c.self.invariant c.self.view_is c.requires.chamber c.start_of-start.ensures c.args.place c.args.group c.requires.place
