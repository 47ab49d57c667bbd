use Rattle.solve_commands.proofs.searching.best_answer.Given as goal

abbrev pub ghost-shown : goal.ghost-shown
ghost-shown g a = g.limit

abbrev pub ghost-cheapest_answer : goal.ghost-cheapest_answer
ghost-cheapest_answer g a = g.limit

abbrev pub ghost-left_answer : goal.ghost-left_answer
ghost-left_answer g a = g.limit
