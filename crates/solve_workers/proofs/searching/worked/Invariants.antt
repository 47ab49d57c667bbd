use Rattle.solve_workers.proofs.searching.worked.Given as goal

abbrev pub ghosts-searched : goal.ghosts-searched
ghosts-searched g a = record { name = a.blank.name; parts = a.blank.parts }
