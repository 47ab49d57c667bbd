use Rattle.std.proofs.Common.{ap, ◌∙◌}
use Rattle.line_text.specs.Lines.{words}
use Rattle.line_text.specs.Texts.{texts}
use Rattle.line_text.proofs.EnoughLemmas.{line_enough, line_enough_bad}
use Rattle.plan_text.specs.Lines.{read_line}
use Rattle.plan_text.proofs.EnoughLemmas.{read_line-take}
use Rattle.plan_text.proofs.reading.read_words.Goals as goal

pub returns-clause-read : goal.returns-clause-read
returns-clause-read c = line_enough (read_line c.args.instance.now c.args.number c.args.draft.now) (λ p. (p, c.read_line.new.draft)) (texts c.as_slice.result.now) (words c.args.line.now) c.read_line.result (read_line-take c.args.instance.now c.args.number c.args.draft.now (words c.args.line.now)) (ap texts c.as_slice.ensures.value ∙ c.words_of.ensures) c.read_line.ensures.read

pub returns-clause-bad : goal.returns-clause-bad
returns-clause-bad c = line_enough_bad (read_line c.args.instance.now c.args.number c.args.draft.now) (texts c.as_slice.result.now) (words c.args.line.now) c.read_line.result (read_line-take c.args.instance.now c.args.number c.args.draft.now (words c.args.line.now)) (ap texts c.as_slice.ensures.value ∙ c.words_of.ensures) c.read_line.ensures.bad
