use Rattle.std.proofs.Common.{ap, length, arith}
use Rattle.std.proofs.lemmas.List.{length-append}
use Rattle.refute_rules.specs.declared.choices.Decision.{Decision}
use Rattle.deck_cases.proofs.DecisionLemmas.{spots_room}
use Rattle.deck_cases.proofs.decisions.spot_decisions.Goals as goal

pub push-requires-in-loop-ship : goal.push-requires-in-loop-ship
push-requires-in-loop-ship c =
    omega (arith, spots_room c.loop-ship.list c.loop-ship.ship c.loop-ship.invariant (omega arith), ap length c.push.ensures, length-append {A = Decision})
