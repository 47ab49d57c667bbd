use Rattle.std.proofs.Common.{inl}
use Rattle.price_table.proofs.ThresholdLemmas.{gap-plain}
use Rattle.price_table.proofs.route.Route.threshold.Goals as goal

pub returns-else-is_none-clause-worth : goal.returns-else-is_none-clause-worth
returns-else-is_none-clause-worth c = λ w h. inl (gap-plain c.args.best c.args.value w (c.requires.best_low, c.requires.best_high) (c.requires.value_low, c.requires.value_high) h)
