use Rattle.deck_cases.proofs.known.+y_within.Given as goal

abbrev pub decreases-y_within : goal.decreases-y_within
decreases-y_within l = l.steps
