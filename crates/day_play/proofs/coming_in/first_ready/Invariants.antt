use Rattle.std.proofs.Common.{◌≡◌, ◌+◌, drop}
use Rattle.day_play.specs.ComingIn.{comes_after, first_ready}
use Rattle.day_play.proofs.coming_in.first_ready.Given as goal

abbrev pub invariant-loop-i : goal.invariant-loop-i
invariant-loop-i l = l.i + first_ready (comes_after l.instance l.lockage) l.places (drop l.i l.places) ≡ first_ready (comes_after l.instance l.lockage) l.places l.places
