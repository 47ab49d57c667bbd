use Rattle.std.proofs.Common.{sym, ◌∙◌, arith}
use Rattle.lock_rules.specs.Timetable.{ready_at}
use Rattle.price_successors.proofs.SuccessorLemmas.{rates-sum}
use Rattle.price_table.proofs.ServingLemmas.{sums-end, sums-worth}
use Rattle.price_table.proofs.serving.serve.Goals as goal
use Rattle.price_groups.specs.Asked.{line_asked}

pub ended-requires-clause-end : goal.ended-requires-clause-end
ended-requires-clause-end c = omega (arith, c.first_free.ensures.small, c.max-from.ensures, c.minute.ensures, c.requires.ready.small c.args.successor.now.group.way, c.requires.minute, c.requires.is.sums.short, c.requires.is.sums.soon)

pub returns-clause-end : goal.returns-clause-end
returns-clause-end c =
    let I = c.args.case.now.instance.now in
    let sums = c.requires.is.sums in
    c.ended.ensures.end
    ∙ sums-end I c.args.case.now.index c.args.case.now.depth c.args.case.now.prices.now c.args.ready.now.state.stand c.args.ready.now.state.minute c.args.successor.now.group c.args.case.now.chamber.now c.minute.result c.args.successor.now.last c.max-from.result c.first_free.result c.args.successor.now.duration
    c.args.case.now.is (c.minute.ensures ∙ c.requires.ready.value c.args.successor.now.group.way ∙ (λ i. ready_at (sym c.args.case.now.is i) c.args.ready.now.state.stand c.args.ready.now.state.minute c.args.successor.now.group.way)) sums.last c.max-from.ensures c.first_free.ensures.value sums.duration

pub returns-clause-worth : goal.returns-clause-worth
returns-clause-worth c =
    let I = c.args.case.now.instance.now in
    let sums = c.requires.is.sums in
    c.ended.ensures.worth
    ∙ sums-worth I c.args.case.now.index c.args.case.now.depth c.args.case.now.prices.now c.args.ready.now.state.stand c.args.ready.now.state.minute c.args.successor.now.group c.args.case.now.chamber_in _ c.args.successor.now.pays c.args.successor.now.charged
    (sym c.ended.ensures.end ∙ returns-clause-end c) (sums.pays ∙ rates-sum (line_asked c.args.case.now) c.args.successor.now.group.ships) sums.charged

pub returns-clause-small : goal.returns-clause-small
returns-clause-small c = omega (arith, c.ended.ensures.end, c.first_free.ensures.small, c.max-from.ensures, c.minute.ensures, c.requires.ready.small c.args.successor.now.group.way, c.requires.is.sums.short, c.requires.is.sums.soon)
