use Rattle.sweep_arcs.proofs.ListLemmas.{no_value}
use Rattle.sweep_arcs.proofs.way_arcs.within.Goals as goal

pub returns-in_err-put_asked : goal.returns-in_err-put_asked
returns-in_err-put_asked c = no_value _ c.from_residual.result c.from_residual.ensures.0
