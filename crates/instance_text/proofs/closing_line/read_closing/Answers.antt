use Rattle.std.proofs.Common.{arith, ◌∙◌}
use Rattle.std.proofs.lemmas.Grind.{common_steps}
use Rattle.line_text.specs.Texts.{texts}
use Rattle.instance_text.proofs.ClosingParts.{parts_read}
use Rattle.instance_text.proofs.closing_line.read_closing.Goals as goal

pub returns-in_err-check-clause-value : goal.returns-in_err-check-clause-value
returns-in_err-check-clause-value c = grind (arith, common_steps) ∙ parts_read c.args.chambers.now (texts c.args.words.now)

pub returns-in_err-place-clause-value : goal.returns-in_err-place-clause-value
returns-in_err-place-clause-value c = grind (arith, common_steps) ∙ parts_read c.args.chambers.now (texts c.args.words.now)

pub returns-in_err-closure-clause-value : goal.returns-in_err-closure-clause-value
returns-in_err-closure-clause-value c = grind (arith, common_steps) ∙ parts_read c.args.chambers.now (texts c.args.words.now)

pub returns-clause-value : goal.returns-clause-value
returns-clause-value c = grind (arith, common_steps) ∙ parts_read c.args.chambers.now (texts c.args.words.now)
