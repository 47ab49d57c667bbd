use Rattle.std.proofs.Common.{◌<◌, ℕ}
use Rattle.lock_model.specs.Limits.{HasNewName}
use Rattle.lock_model.proofs.within.have_own_names.Given as goal

abbrev pub invariant-loop-i : goal.invariant-loop-i
invariant-loop-i g l = (j : ℕ) → j < l.i → HasNewName g.T.Named.name_of l.items j
