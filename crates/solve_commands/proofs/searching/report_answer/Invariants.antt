use Rattle.solve_commands.proofs.searching.report_answer.Given as goal

abbrev pub ghost-shown : goal.ghost-shown
ghost-shown g a = g.limit
