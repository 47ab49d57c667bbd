use Rattle.std.proofs.Common.{ℕ, ◌<◌}
use Rattle.lock_model.specs.Fleet.{ship_at, chamber_at}
use Rattle.lock_model.specs.Fitting.{FitsAlone}
use Rattle.mooring_rules.proofs.unfit.fits_some.Given as goal

abbrev pub invariant-loop-chamber : goal.invariant-loop-chamber
invariant-loop-chamber l = (c : ℕ) → c < l.chamber-index → FitsAlone (chamber_at l.instance c) (ship_at l.instance l.ship) → ⊥
