use Rattle.std.proofs.Common.{List, ◌∙◌, sym, subst}
use Rattle.price_bound.specs.declared.keeping.KeptLine.{KeptLine}
use Rattle.price_bound.specs.Keeping.{AreKeptUnder, AreUnder}
use Rattle.price_bound.proofs.KeepLemmas.{kept-more, stocked-to}
use Rattle.price_bound.proofs.keeping.KeptLines.least.Goals as goal

pub invariant_of-self-in-Ok : goal.invariant_of-self-in-Ok
invariant_of-self-in-Ok c =
    let case = c.args.case.now in
    let I = case.instance.now in
    let terms = c.self.inside.terms in
    let found = c.in_ok-kept.ensures in
    let under = subst (AreUnder I case.depth case.prices.now case.cuts.now) (sym (c.self.view_is ∙ c.make_room.ensures)) c.in_ok-go_under.ensures in
    record {
      lines_kept = subst (AreKeptUnder terms) (sym {A = List KeptLine} c.in-Ok.ensures.items)
          (kept-more I case.index case.depth case.prices.now case.cuts.now case.line.now terms c.self.inside.lines.items c.in_ok-kept.kept under c.self.invariant.lines_kept found.is found.found);
      groups_kept = stocked-to I case.depth case.cuts.now c.worked_out.new.groups case.prices.now terms under c.worked_out.ensures.keeps;
    }
