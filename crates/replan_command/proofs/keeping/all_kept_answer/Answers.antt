use Rattle.replan_command.proofs.KeepingLemmas.{done_legal, done_prints}
use Rattle.replan_command.proofs.keeping.all_kept_answer.Goals as goal

pub print_report-requires-clause-legal : goal.print_report-requires-clause-legal
print_report-requires-clause-legal c = done_legal c.args.instance.now c.args.options.now.rest c.args.left.now c.requires.left c.requires.done

pub returns-in-Ok : goal.returns-in-Ok
returns-in-Ok c given left =
    done_prints c.args.instance.now given c.args.options.now.rest c.args.left.now left c.requires.done c.args.options.now.dossier c.in-Ok.text.items c.in-Ok.ensures.text
