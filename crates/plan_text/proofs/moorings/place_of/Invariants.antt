use Rattle.std.proofs.Common.{◌≡◌, ◌+◌, drop}
use Rattle.plan_text.specs.Berths.{place_of}
use Rattle.plan_text.proofs.moorings.place_of.Given as goal

abbrev pub invariant-loop-place : goal.invariant-loop-place
invariant-loop-place l = l.place + place_of l.ship (drop l.place l.ships) ≡ place_of l.ship l.ships
