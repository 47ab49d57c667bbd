use Rattle.std.proofs.Common.{rules}
use Rattle.std.proofs.lemmas.List.Sorted.{answers_always}
use Rattle.sweep_labels.specs.declared.step.Arc.{Arc}
use Rattle.sweep_arcs.proofs.ListLemmas.{rising-by}
use Rattle.sweep_arcs.proofs.listing.least_first.Goals as goal

pub returns-in-Ok-clause-rising : goal.returns-in-Ok-clause-rising
returns-in-Ok-clause-rising c = rising-by _ (c.in-Ok.ensures.sorted (λ (arc : Arc). arc.worth) (answers_always _ _ _ (λ f a r g h. search rules)))
