use Rattle.book_core.proofs.path.Path.+lead_to.Given as goal

abbrev pub decreases-lead_to : goal.decreases-lead_to
decreases-lead_to l = l.id
