use Rattle.std.proofs.Common.{◌+◌, arith, ap, ◌∙◌, sym, subst}
use Rattle.master_branch.specs.Row.{cut_from, IsCutRow}
use Rattle.master_branch.proofs.RowLemmas.{line-fits, set-in, row-set}
use Rattle.master_branch.proofs.lines.Lines.set.Goals as goal

pub put-requires : goal.put-requires
put-requires c =
    omega (arith, c.requires.place, line-fits c.self.inside.row.items c.self.inside.ends c.args.self.now c.args.chamber c.start_of-start.result c.self.invariant c.self.view_is c.requires.chamber c.start_of-start.ensures)

pub invariant_of-self : goal.invariant_of-self
invariant_of-self c =
    subst (λ row. IsCutRow row c.self.inside.ends) (sym c.put.ensures) (row-set c.self.inside.row.items c.self.inside.ends (c.start_of-start.result + c.args.place) c.args.group c.self.invariant)

pub returns : goal.returns
returns c =
    ap (λ row. cut_from 0 row c.self.inside.ends) c.put.ensures
    ∙ set-in c.self.inside.row.items c.self.inside.ends c.args.self.now c.args.chamber c.start_of-start.result c.self.invariant c.self.view_is c.requires.chamber c.start_of-start.ensures c.args.place c.args.group c.requires.place
