use Rattle.std.proofs.Common.{map, string_bytes, refl, ◌∙◌, Ok, Err}
use Rattle.run_answers.specs.Sources.{drained}
use Rattle.run_answers.specs.Written.{bytes_in}
use Rattle.lock_top.proofs.AskedLemmas.{mean_only}
use Rattle.lock_top.proofs.AnswerLemmas.{answers_bad, answers_command}
use Rattle.lock_top.proofs.commands.words_answer.Goals as goal

pub returns-in-Ok : goal.returns-in-Ok
returns-in-Ok g c = record {
  answer =
      let words = map string_bytes c.args.words.now in
      let mean = mean_only words c.in-Ok.command (Ok c.in-Ok.command) refl c.in-Ok.ensures.ok c.in-Ok.ensures.each in
      answers_command words (drained g.S.Source.left g.S.Source.faults c.args.src.now c.command_answer.new.src) c.in-Ok.command c.command_answer.result.status (bytes_in c.command_answer.result.text) mean c.command_answer.ensures.answer;
}

pub returns-in-Err-Bad : goal.returns-in-Err-Bad
returns-in-Err-Bad g c = record {
  answer =
      let r = c.refusal in
      answers_bad (map string_bytes c.args.words.now) (drained g.S.Source.left g.S.Source.faults c.args.src.now c.args.src.now) r.result.status (bytes_in r.result.text) r.ensures.status r.ensures.text
      (c.read_words.ensures.bad (c.in-Err-Bad.is ∙ (λ i. Err (c.in-Err-Bad.field-0-is i)))) (record { left = refl; counted = refl });
}
