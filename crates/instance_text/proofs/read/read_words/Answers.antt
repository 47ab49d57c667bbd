use Rattle.std.proofs.Common.{ap, ◌∙◌}
use Rattle.line_text.specs.Lines.{words}
use Rattle.line_text.specs.Texts.{texts}
use Rattle.line_text.proofs.EnoughLemmas.{line_enough, line_enough_bad}
use Rattle.instance_text.specs.Reading.{read_line}
use Rattle.instance_text.proofs.EnoughLemmas.{read_line-take}
use Rattle.instance_text.proofs.ReadingLemmas.{read_if, bad_if}
use Rattle.instance_text.proofs.read.read_words.Goals as goal

pub returns-clause-read : goal.returns-clause-read
returns-clause-read c = line_enough (read_line c.args.format c.args.draft.now) (λ p. (p, c.read_line.new.draft)) (texts c.as_slice.result.now) (words c.args.line.now) c.read_line.result (read_line-take c.args.format c.args.draft.now (words c.args.line.now)) (ap texts c.as_slice.ensures.value ∙ c.words_of.ensures) (read_if (read_line c.args.format c.args.draft.now (texts c.as_slice.result.now)) c.read_line.new.draft c.read_line.result c.read_line.ensures.value)

pub returns-clause-bad : goal.returns-clause-bad
returns-clause-bad c = line_enough_bad (read_line c.args.format c.args.draft.now) (texts c.as_slice.result.now) (words c.args.line.now) c.read_line.result (read_line-take c.args.format c.args.draft.now (words c.args.line.now)) (ap texts c.as_slice.ensures.value ∙ c.words_of.ensures) (bad_if (read_line c.args.format c.args.draft.now (texts c.as_slice.result.now)) c.read_line.new.draft c.read_line.result c.read_line.ensures.value)
