use Rattle.std.proofs.Common.{◌∙◌, subst}
use Rattle.lock_model.specs.declared.instance.Instance.{Instance}
use Rattle.node_work.specs.Fates.{IsEarly}
use Rattle.solve_workers.specs.Holds.{node_at}
use Rattle.solve_workers.proofs.HeldLemmas.{early_closable, held_bound}
use Rattle.solve_workers.proofs.working.work.Goals as goal

pub close-requires-clause-closed : goal.close-requires-clause-closed
close-requires-clause-closed g c =
    let b = c.args.book.now in
    let n = node_at b c.args.id in
    let bound = c.held_bound.result in
    let best = c.best_cost-best.result in
    early_closable b n bound best c.in-Some.why c.best_cost-best.ensures
    (c.held_bound.ensures ∙ held_bound b c.args.id n c.requires.holds c.keeps.ensures)
    (subst (λ (I : Instance). IsEarly I bound best c.in-Some.why) c.requires.own.instance_is c.in-Some.ensures.some)
