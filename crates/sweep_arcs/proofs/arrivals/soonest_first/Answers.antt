use Rattle.std.proofs.Common.{rules}
use Rattle.std.proofs.lemmas.List.Sorted.{IsNonDecreasingBy-from_sort_by_key}
use Rattle.sweep_labels.specs.declared.arrivals.Coming.{Coming}
use Rattle.sweep_arcs.proofs.ArrivalLemmas.{rising-by}
use Rattle.sweep_arcs.proofs.arrivals.soonest_first.Goals as goal

pub returns-in-Ok-clause-rising : goal.returns-in-Ok-clause-rising
returns-in-Ok-clause-rising c = rising-by _ (IsNonDecreasingBy-from_sort_by_key (λ (one : Coming). one.arrival) _ c.in-Ok.ensures.sorted (λ a r q k. search rules))
