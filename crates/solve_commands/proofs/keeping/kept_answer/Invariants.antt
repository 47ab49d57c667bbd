use Rattle.solve_commands.proofs.keeping.kept_answer.Given as goal

abbrev pub ghost-open_dossier_answer : goal.ghost-open_dossier_answer
ghost-open_dossier_answer g a = g.limit
