use Rattle.lock_rules.specs.Singles.{singles_of}
use Rattle.solve_commands.proofs.searching.search_best.Given as goal

abbrev pub ghost-best_answer : goal.ghost-best_answer
ghost-best_answer g a = singles_of a.book.now.case.instance
