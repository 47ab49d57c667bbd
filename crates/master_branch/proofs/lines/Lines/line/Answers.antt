use Rattle.std.proofs.Common.{◌≤◌, length, arith, ap, ◌∙◌, slice_index_or}
use Rattle.master_branch.specs.Row.{part}
use Rattle.master_branch.specs.RowBack.{length-part}
use Rattle.master_branch.proofs.RowLemmas.{line-rises, line-within, line-is}
use Rattle.master_branch.proofs.lines.Lines.line.Goals as goal

pub part_of-requires-clause-rises : goal.part_of-requires-clause-rises
part_of-requires-clause-rises c = line-rises c.self.inside.row.items c.self.inside.ends c.args.self.now c.args.chamber c.start_of-start.result c.self.invariant c.self.view_is c.requires c.start_of-start.ensures

pub part_of-requires-clause-within : goal.part_of-requires-clause-within
part_of-requires-clause-within c =
    omega (arith, ap length c.as_slice.ensures.value, line-within c.self.inside.row.items c.self.inside.ends c.args.self.now c.args.chamber c.start_of-start.result c.self.invariant c.self.view_is c.requires c.start_of-start.ensures)

pub returns-clause-value : goal.returns-clause-value
returns-clause-value c =
    c.part_of.ensures
    ∙ ap (part c.start_of-start.result (slice_index_or c.self.inside.ends c.args.chamber 0)) c.as_slice.ensures.value
    ∙ line-is c.self.inside.row.items c.self.inside.ends c.args.self.now c.args.chamber c.start_of-start.result c.self.invariant c.self.view_is c.requires c.start_of-start.ensures

pub returns-clause-fits : goal.returns-clause-fits
returns-clause-fits c =
    let within : slice_index_or c.self.inside.ends c.args.chamber 0 ≤ length c.as_slice.result.now =
    omega (arith, ap length c.as_slice.ensures.value, line-within c.self.inside.row.items c.self.inside.ends c.args.self.now c.args.chamber c.start_of-start.result c.self.invariant c.self.view_is c.requires c.start_of-start.ensures) in
    omega (arith, ap length c.part_of.ensures, length-part c.start_of-start.result (slice_index_or c.self.inside.ends c.args.chamber 0) c.as_slice.result.now within, c.as_slice.ensures.fits)
