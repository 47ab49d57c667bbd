use Rattle.solve_commands.proofs.searching.left_answer.Given as goal

abbrev pub ghost-kept_answer : goal.ghost-kept_answer
ghost-kept_answer g a = g.limit

abbrev pub ghost-report_answer : goal.ghost-report_answer
ghost-report_answer g a = g.limit
