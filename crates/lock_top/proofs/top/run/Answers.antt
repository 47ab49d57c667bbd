use Rattle.std.proofs.Common.{map, string_bytes, subst}
use Rattle.std.specs.Io.KnownBytes.{Appends}
use Rattle.run_answers.specs.Sources.{drained}
use Rattle.run_answers.specs.Written.{bytes_in}
use Rattle.lock_top.specs.Runs.{filled}
use Rattle.lock_top.proofs.ClauseLemmas.{keeps_written}
use Rattle.lock_top.proofs.top.run.Goals as goal

pub returns-in-Ok : goal.returns-in-Ok
returns-in-Ok g c =
    keeps_written (map string_bytes c.args.words.now) (drained g.S.Source.left g.S.Source.faults c.args.src.now c.words_answer-answer.new.src) (filled g.K.Sink.held g.K.Sink.faults c.args.out.now c.write_all_of.new.out)
    c.words_answer-answer.result.status (bytes_in c.words_answer-answer.result.text) c.words_answer-answer.ensures.answer
    (subst (Appends (g.K.Sink.held c.args.out.now) (g.K.Sink.held c.write_all_of.new.out)) c.as_slice.ensures c.in-Ok.ensures.all)
