use Rattle.lock_rules.specs.Singles.{singles_plan}
use Rattle.lock_rules.proofs.SinglesLemmas.{singles-legal}
use Rattle.lock_rules.proofs.SearchLemmas.{plan-whole, whole-plan, least-bound, cheapest-plan}
use Rattle.lock_rules.proofs.LeastLemmas.{some-least}
use Rattle.flow_bounds.proofs.laws.least_bound_is_cheapest.Goals as goal

pub returns : goal.returns
returns c =
    let I = c.args.instance.now in
    record {
      plans = plan-whole I;
      nodes = whole-plan I;
      least = least-bound I;
      cheapest = cheapest-plan I;
      some = λ fit. let single = plan-whole I (singles_plan I) (singles-legal I fit) in (single.node, single.whole);
      exists = λ fit decided. some-least I decided fit;
    }
