use Rattle.std.proofs.Common.{◌≡◌, ℕ, ◌<◌, true}
use Rattle.deck_laws.specs.Slack.{done_in}
use Rattle.deck_laws.proofs.normal.first_free.Given as goal

abbrev pub invariant-loop-i : goal.invariant-loop-i
invariant-loop-i l = (k : ℕ) → k < l.i → done_in l.done k ≡ true
