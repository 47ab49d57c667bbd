use Rattle.sweep_arcs.proofs.ListLemmas.{no_value}
use Rattle.sweep_arcs.proofs.gains.Gains.new.Goals as goal

pub returns-in_err-sets-clause-kept : goal.returns-in_err-sets-clause-kept
returns-in_err-sets-clause-kept c = no_value _ c.from_residual.result c.from_residual.ensures.0

pub returns-in_err-sets-clause-asked : goal.returns-in_err-sets-clause-asked
returns-in_err-sets-clause-asked c = no_value _ c.from_residual.result c.from_residual.ensures.0

pub returns-in_err-completable-clause-kept : goal.returns-in_err-completable-clause-kept
returns-in_err-completable-clause-kept c = no_value _ c.from_residual-in_err-completable.result c.from_residual-in_err-completable.ensures.0

pub returns-in_err-completable-clause-asked : goal.returns-in_err-completable-clause-asked
returns-in_err-completable-clause-asked c = no_value _ c.from_residual-in_err-completable.result c.from_residual-in_err-completable.ensures.0

pub returns-in_err-rates-clause-kept : goal.returns-in_err-rates-clause-kept
returns-in_err-rates-clause-kept c = no_value _ c.from_residual-in_err-rates.result c.from_residual-in_err-rates.ensures.0

pub returns-in_err-rates-clause-asked : goal.returns-in_err-rates-clause-asked
returns-in_err-rates-clause-asked c = no_value _ c.from_residual-in_err-rates.result c.from_residual-in_err-rates.ensures.0

pub returns-in_err-values-clause-kept : goal.returns-in_err-values-clause-kept
returns-in_err-values-clause-kept c = no_value _ c.from_residual-in_err-values.result c.from_residual-in_err-values.ensures.0

pub returns-in_err-values-clause-asked : goal.returns-in_err-values-clause-asked
returns-in_err-values-clause-asked c = no_value _ c.from_residual-in_err-values.result c.from_residual-in_err-values.ensures.0
