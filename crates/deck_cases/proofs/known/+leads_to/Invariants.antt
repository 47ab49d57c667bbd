use Rattle.deck_cases.proofs.known.+leads_to.Given as goal

abbrev pub decreases-leads_to : goal.decreases-leads_to
decreases-leads_to l = l.steps
