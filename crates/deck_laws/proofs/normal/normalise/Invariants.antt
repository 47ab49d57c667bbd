use Rattle.deck_laws.specs.Rounds.{IsRound}
use Rattle.deck_laws.proofs.normal.normalise.Given as goal

abbrev pub invariant-loop : goal.invariant-loop
invariant-loop l = IsRound l.deck l.fn.spots l.spots l.done l.counter
