use Rattle.std.proofs.Common.{[], take, sym, subst, arith}
use Rattle.price_terms.specs.Cuts.{plain_cuts}
use Rattle.price_groups.specs.Sparing.{AreForbidden}
use Rattle.price_groups.proofs.ForbiddenLemmas.{forbid-none, cuts-next, cuts-all}
use Rattle.price_groups.proofs.forbidden.forbidden_sets.Goals as goal

pub loop-cut-init : goal.loop-cut-init
loop-cut-init c =
    let case = c.args.case.now in
    subst (AreForbidden case.instance.now case.index []) (sym c.new-sets.ensures.items) (forbid-none case.instance.now case.index case.chamber_in)

pub loop-cut-preserved : goal.loop-cut-preserved
loop-cut-preserved c =
    let case = c.args.case.now in
    let I = case.instance.now in
    let i = c.loop-cut.cut-index in
    subst (λ cuts. AreForbidden I case.index cuts c.forbid.new.sets.items) (cuts-next I case.cuts.now i c.cut-item.result c.loop-cut-test.true c.cut-item.is)
    (c.in_ok-forbid.ensures (plain_cuts I (take i case.cuts.now)) c.loop-cut.invariant)

pub returns : goal.returns
returns c =
    let case = c.args.case.now in
    let I = case.instance.now in
    subst (λ cuts. AreForbidden I case.index cuts c.loop-cut.sets.items)
    (cuts-all I case.cuts.now c.loop-cut.cut-index (omega (arith, c.loop-cut-test.false))) c.loop-cut.invariant
