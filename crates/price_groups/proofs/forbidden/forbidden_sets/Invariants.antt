use Rattle.std.proofs.Common.{take}
use Rattle.price_terms.specs.Cuts.{plain_cuts}
use Rattle.price_groups.specs.Sparing.{AreForbidden}
use Rattle.price_groups.proofs.forbidden.forbidden_sets.Given as goal

abbrev pub invariant-loop-cut : goal.invariant-loop-cut
invariant-loop-cut l = AreForbidden l.case.instance.now l.case.index (plain_cuts l.case.instance.now (take l.cut-index l.case.cuts.now)) l.sets.items
