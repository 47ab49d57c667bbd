use Rattle.book_rules.specs.Cheap.{opening_cost}
use Rattle.resume_command.proofs.resuming.search_answer.Given as goal

abbrev pub ghost-best_answer : goal.ghost-best_answer
ghost-best_answer g a = opening_cost a.book.now
