use Rattle.std.proofs.Common.{rules, ◌≡◌, length, subst, arith, refl, to_z, of_z, w64}
use Rattle.price_groups.specs.Asked.{line_asked}
use Rattle.sweep_arcs.specs.Ways.{ArePutArcs}
use Rattle.sweep_arcs.proofs.ListLemmas.{no_value, puts_done}
use Rattle.sweep_arcs.proofs.listing.listed.Goals as goal

pub returns-clause-list : goal.returns-clause-list
returns-clause-list c =
    let own = c.in_ok-least_first.ensures in
    let limit : to_z w64 (of_z w64 c.args.range.now.limit) ≡ c.args.range.now.limit = search rules in
    let done : c.loop-one.one-index ≡ length c.args.all.now.groups.items = omega (arith, c.loop-one.auto.one-index-end, c.loop-one-test.false) in
    let puts = subst (λ n. ArePutArcs (line_asked c.args.case.now) c.args.range.now c.args.all.now.groups.items n c.loop-one.arcs.items) done c.loop-one.invariant.puts in
    puts_done (line_asked c.args.case.now) c.args.range.now c.args.all.now c.loop-one.arcs.items c.least_first.new.arcs.items (record { limit = to_z w64 (of_z w64 c.args.range.now.limit); arcs = c.least_first.new.arcs })
    c.args.case.now.chamber_in own.same own.rising c.requires.all c.requires.reached puts limit refl

pub returns-in_err-put_arc-clause-kept : goal.returns-in_err-put_arc-clause-kept
returns-in_err-put_arc-clause-kept c = no_value _ c.from_residual.result c.from_residual.ensures.0

pub returns-in_err-least_first-clause-kept : goal.returns-in_err-least_first-clause-kept
returns-in_err-least_first-clause-kept c = no_value _ c.from_residual-in_err-least_first.result c.from_residual-in_err-least_first.ensures.0

pub returns-in_err-put_arc-clause-list : goal.returns-in_err-put_arc-clause-list
returns-in_err-put_arc-clause-list c = no_value _ c.from_residual.result c.from_residual.ensures.0

pub returns-in_err-least_first-clause-list : goal.returns-in_err-least_first-clause-list
returns-in_err-least_first-clause-list c = no_value _ c.from_residual-in_err-least_first.result c.from_residual-in_err-least_first.ensures.0

pub returns-clause-same : goal.returns-clause-same
returns-clause-same c = c.loop-one.invariant.same

pub returns-clause-kept : goal.returns-clause-kept
returns-clause-kept c = c.loop-one.invariant.kept
