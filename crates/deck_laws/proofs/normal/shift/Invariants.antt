use Rattle.std.proofs.Common.{◌≡◌, take}
use Rattle.deck_laws.specs.Shift.{shift_from}
use Rattle.deck_laws.specs.Slack.{done_in}
use Rattle.deck_laws.proofs.normal.shift.Given as goal

abbrev pub invariant-loop-i : goal.invariant-loop-i
invariant-loop-i l = l.moved ≡ shift_from (done_in l.done) l.s 0 (take l.i l.spots)
