use Rattle.std.proofs.Common.{◌+◌, ap, ◌∙◌}
use Rattle.lock_rules.specs.Timetable.{first_free}
use Rattle.flow_bounds.proofs.LoadLemmas.{ready-turned}
use Rattle.flow_bounds.proofs.walk.ready.Goals as goal

pub returns-clause-value : goal.returns-clause-value
returns-clause-value c =
    let lock = c.args.lock.now in
    let w = c.args.walk in
    ap (λ n. n + c.turn_for-turn.result) c.free_from.ensures.value
    ∙ ap (λ turn. first_free lock.closures turn w.done + turn) c.turn_for-turn.ensures.value
    ∙ ready-turned lock w.stand w.done c.args.way
