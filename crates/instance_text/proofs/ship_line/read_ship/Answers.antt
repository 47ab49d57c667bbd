use Rattle.std.proofs.Common.{arith, ◌∙◌}
use Rattle.std.proofs.lemmas.Grind.{common_steps}
use Rattle.line_text.specs.Texts.{texts}
use Rattle.instance_text.proofs.ShipParts.{parts_read}
use Rattle.instance_text.proofs.ship_line.read_ship.Goals as goal

pub returns-in_err-check-clause-value : goal.returns-in_err-check-clause-value
returns-in_err-check-clause-value c = grind (arith, common_steps) ∙ parts_read c.args.format c.args.earlier.now (texts c.args.words.now)

pub returns-in_err-check-2-clause-value : goal.returns-in_err-check-2-clause-value
returns-in_err-check-2-clause-value c = grind (arith, common_steps) ∙ parts_read c.args.format c.args.earlier.now (texts c.args.words.now)

pub returns-in_err-name-clause-value : goal.returns-in_err-name-clause-value
returns-in_err-name-clause-value c = grind (arith, common_steps) ∙ parts_read c.args.format c.args.earlier.now (texts c.args.words.now)

pub returns-in_err-way-clause-value : goal.returns-in_err-way-clause-value
returns-in_err-way-clause-value c = grind (arith, common_steps) ∙ parts_read c.args.format c.args.earlier.now (texts c.args.words.now)

pub returns-in_err-length-clause-value : goal.returns-in_err-length-clause-value
returns-in_err-length-clause-value c = grind (arith, common_steps) ∙ parts_read c.args.format c.args.earlier.now (texts c.args.words.now)

pub returns-in_err-cargo-clause-value : goal.returns-in_err-cargo-clause-value
returns-in_err-cargo-clause-value c = grind (arith, common_steps) ∙ parts_read c.args.format c.args.earlier.now (texts c.args.words.now)

pub returns-clause-value : goal.returns-clause-value
returns-clause-value c = grind (arith, common_steps) ∙ parts_read c.args.format c.args.earlier.now (texts c.args.words.now)
