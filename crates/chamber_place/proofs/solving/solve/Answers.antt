use Rattle.std.proofs.Common.{sym, subst}
use Rattle.diff_rules.specs.Differences.{IsSystem, IsPositiveCycle}
use Rattle.refute_rules.specs.Edges.{case_edges}
use Rattle.chamber_place.proofs.EdgeLemmas.{case-system, case-walk}
use Rattle.chamber_place.proofs.solving.solve.Goals as goal

pub extended-requires-clause-system : goal.extended-requires-clause-system
extended-requires-clause-system c =
    subst (λ es. IsSystem es c.var_count.result) (sym c.requires.edges)
    (subst (IsSystem (case_edges c.args.deck.now c.args.choices.now)) (sym c.var_count.ensures.count) (case-system c.args.deck.now c.var_count.ensures.limits c.args.choices.now c.requires.chosen))

pub returns-in-Err-clause-fault : goal.returns-in-Err-clause-fault
returns-in-Err-clause-fault c =
    let cycle = subst (λ es. IsPositiveCycle es c.in-Err.numbers) c.requires.edges c.in-Err.ensures.cycle.cycle in
    (case-walk c.args.deck.now c.var_count.ensures.limits c.args.choices.now c.requires.chosen c.in-Err.numbers cycle, cycle)
