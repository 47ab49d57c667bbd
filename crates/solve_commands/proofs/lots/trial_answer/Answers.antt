use Rattle.std.proofs.Common.{subst}
use Rattle.plan_print.specs.Report.{verdict_line}
use Rattle.book_rules.specs.Book.{Case}
use Rattle.solve_commands.specs.Searching.{AnswersPrinted}
use Rattle.solve_commands.specs.Solving.{search_of}
use Rattle.run_answers.specs.Written.{bytes_in}
use Rattle.solve_commands.proofs.lots.trial_answer.Goals as goal

pub returns : goal.returns
returns g c = record {
  instance = c.lot_of.result;
  lot = c.lot_of.ensures.lot;
  answer = subst (λ (k : Case). AnswersPrinted verdict_line (search_of k.nodes k.turns k.instance) c.search_line.result.status (bytes_in c.search_line.result.text)) c.new-case.ensures c.search_line.ensures;
}
