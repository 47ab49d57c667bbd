use Rattle.std.proofs.Common.{◌≡◌, arith}
use Rattle.std.proofs.lemmas.Grind.{common_steps}
use Rattle.lock_rules.specs.Throughput.{throughput_of}
use Rattle.lock_rules.proofs.ThroughputLemmas.{throughput-holds}
use Rattle.flow_bounds.proofs.capacity.throughput.Goals as goal

pub returns-clause-holds : goal.returns-clause-holds
returns-clause-holds c = λ P legal.
    let value : c.saturating_sub.result ≡ throughput_of c.args.instance.now = grind (arith, common_steps) in
    omega (arith, value, throughput-holds c.args.instance.now P legal)
