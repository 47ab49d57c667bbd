use Rattle.std.proofs.Common.{◌+◌, length, ap, ◌∙◌, arith}
use Rattle.std.proofs.lemmas.List.{length_push}
use Rattle.lock_rules.proofs.LineLemmas.{lockage_at-read}
use Rattle.plan_text.proofs.NeatLemmas.{legal-neat, nearer_more, neat_more}
use Rattle.plan_text.proofs.pushing.neat.Goals as goal

pub loop-lockage-preserved : goal.loop-lockage-preserved
loop-lockage-preserved c =
    let read = lockage_at-read c.args.plan.now c.loop-lockage.lockage-index c.lockage-item.result c.as_slice-lockage-items.result.now c.as_slice-lockage-items.ensures.value c.loop-lockage-test.true c.lockage-item.is in
    let count = c.loop-lockage.invariant.count in
    record {
      count = ap length c.push.ensures ∙ length_push c.loop-lockage.lockages c.neat_lockage.result ∙ ap (λ n. n + 1) count;
      nearer = nearer_more c.args.plan.now.lockages c.loop-lockage.lockages c.push.new.self c.loop-lockage.lockage-index c.lockage-item.result c.neat_lockage.result count c.push.ensures read c.loop-lockage.invariant.nearer c.neat_lockage.ensures.nearer;
      neat = neat_more c.args.instance.now c.loop-lockage.lockages c.push.new.self c.loop-lockage.lockage-index c.neat_lockage.result count c.push.ensures c.loop-lockage.invariant.neat c.neat_lockage.ensures.normal;
    }

pub returns-clause-legal : goal.returns-clause-legal
returns-clause-legal c =
    let count = c.loop-lockage.invariant.count in
    let all = ap length c.as_slice-lockage-items.ensures.value in
    legal-neat c.args.instance.now c.args.plan.now (record { lockages = c.loop-lockage.lockages }) c.requires
    (record { count = omega arith; each = λ p within. c.loop-lockage.invariant.nearer p (omega arith) })
    (record { each = λ p within. c.loop-lockage.invariant.neat p (omega arith) })
