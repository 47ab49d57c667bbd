use Rattle.lock_rules.specs.Singles.{singles_of}
use Rattle.replan_command.proofs.keeping.together_answer.Given as goal

abbrev pub ghost-shown : goal.ghost-shown
ghost-shown a = singles_of a.book.now.case.instance
