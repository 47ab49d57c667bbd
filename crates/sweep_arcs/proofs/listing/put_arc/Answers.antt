use Rattle.std.proofs.Common.{sym, refl, ◌∙◌}
use Rattle.price_groups.specs.Asked.{line_asked}
use Rattle.sweep_arcs.proofs.ListLemmas.{no_value, put_none}
use Rattle.sweep_arcs.proofs.listing.put_arc.Goals as goal

pub returns-then-len-eq0-clause-same : goal.returns-then-len-eq0-clause-same
returns-then-len-eq0-clause-same c = refl

pub returns-then-len-eq0-clause-kept : goal.returns-then-len-eq0-clause-kept
returns-then-len-eq0-clause-kept c = c.requires.kept

pub returns-then-len-eq0-clause-put : goal.returns-then-len-eq0-clause-put
returns-then-len-eq0-clause-put c = put_none (line_asked c.args.case.now) c.args.range.now c.args.one.now.group c.args.arcs.now.items (sym c.len.ensures.value ∙ c.if-len-eq0.true)

pub returns-in_err-arc-clause-same : goal.returns-in_err-arc-clause-same
returns-in_err-arc-clause-same c = c.arc_of.ensures.same

pub returns-in_err-arc-clause-kept : goal.returns-in_err-arc-clause-kept
returns-in_err-arc-clause-kept c = no_value _ c.from_residual.result c.from_residual.ensures.0

pub returns-in_err-arc-clause-put : goal.returns-in_err-arc-clause-put
returns-in_err-arc-clause-put c = no_value _ c.from_residual.result c.from_residual.ensures.0

pub returns-then-arc-range-clause-same : goal.returns-then-arc-range-clause-same
returns-then-arc-range-clause-same c = c.in_ok-arc.ensures.same

pub returns-then-arc-range-clause-kept : goal.returns-then-arc-range-clause-kept
returns-then-arc-range-clause-kept c = c.in_ok-arc.ensures.kept

pub returns-in_err-append-clause-same : goal.returns-in_err-append-clause-same
returns-in_err-append-clause-same c = c.in_ok-arc.ensures.same

pub returns-in_err-append-clause-kept : goal.returns-in_err-append-clause-kept
returns-in_err-append-clause-kept c = no_value _ c.from_residual-in_err-append.result c.from_residual-in_err-append.ensures.0

pub returns-in_err-append-clause-put : goal.returns-in_err-append-clause-put
returns-in_err-append-clause-put c = no_value _ c.from_residual-in_err-append.result c.from_residual-in_err-append.ensures.0

pub returns-clause-same : goal.returns-clause-same
returns-clause-same c = c.in_ok-arc.ensures.same

pub returns-clause-kept : goal.returns-clause-kept
returns-clause-kept c = c.in_ok-arc.ensures.kept
