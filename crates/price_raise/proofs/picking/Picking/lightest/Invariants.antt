use Rattle.std.proofs.Common.{◌<◌}
use Rattle.price_raise.proofs.picking.Picking.lightest.Given as goal

abbrev pub invariant-loop-place : goal.invariant-loop-place
invariant-loop-place l = l.lightest < l.place
