use Rattle.std.proofs.Common.{◌≡◌, ◌≤◌, ◌*◌, take}
use Rattle.lock_model.specs.declared.limits.TheConstants.{MOST}
use Rattle.lock_rules.specs.Plan.{served_in}
use Rattle.mooring_rules.proofs.service.served_in.Given as goal

abbrev pub invariant-loop-lockage : goal.invariant-loop-lockage
invariant-loop-lockage l = record {
  value : l.served ≡ served_in (take l.lockage-index l.lockage-items) l.ship;
  bound : l.served ≤ MOST * l.lockage-index;
}
