use Rattle.std.proofs.Common.{◌≡◌, drop}
use Rattle.day_play.specs.ComingIn.{comes_after, after_any}
use Rattle.day_play.proofs.coming_in.after_any.Given as goal

abbrev pub invariant-loop-j : goal.invariant-loop-j
invariant-loop-j l = after_any (comes_after l.instance l.lockage) l.k (drop l.j-index l.places) ≡ after_any (comes_after l.instance l.lockage) l.k l.places
