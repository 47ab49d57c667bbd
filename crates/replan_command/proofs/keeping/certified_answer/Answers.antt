use Rattle.replan_command.proofs.KeepingLemmas.{left_prints}
use Rattle.replan_command.proofs.keeping.certified_answer.Goals as goal

pub returns-in-Ok : goal.returns-in-Ok
returns-in-Ok c given left =
    left_prints c.args.instance.now given c.args.options.now.rest c.args.left.now left c.args.book.now.case.instance c.requires.rest c.cheapest_that_keeps.ensures c.cheapest_that_can_go_on.ensures c.in-Ok.text.items c.in-Ok.ensures.printed
