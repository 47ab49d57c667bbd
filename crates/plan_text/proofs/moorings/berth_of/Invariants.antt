use Rattle.std.proofs.Common.{◌≡◌, drop}
use Rattle.plan_text.specs.Berths.{berth_of}
use Rattle.plan_text.proofs.moorings.berth_of.Given as goal

abbrev pub invariant-loop-berth : goal.invariant-loop-berth
invariant-loop-berth l = berth_of l.ship (drop l.berth-index l.berths) ≡ berth_of l.ship l.berths
