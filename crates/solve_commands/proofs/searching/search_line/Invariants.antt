use Rattle.lock_rules.specs.Singles.{singles_of}
use Rattle.solve_commands.proofs.searching.search_line.Given as goal

abbrev pub ghost-line_answer : goal.ghost-line_answer
ghost-line_answer g a = singles_of a.book.now.case.instance
