use Rattle.std.proofs.Common.{◌∙◌, sym, ap}
use Rattle.std.specs.Result.{result_unwrap_or}
use Rattle.command_words.proofs.Digits.{parsed, not_error}
use Rattle.command_words.proofs.numbers.digits_value.Goals as goal

pub returns-in-Ok : goal.returns-in-Ok
returns-in-Ok c = ap (λ r. result_unwrap_or r c.in-Ok.number) (sym c.in-Ok.is ∙ parsed c.args.text.now c.parse.result c.requires c.parse.ensures.value.0)

pub returns-in-Err : goal.returns-in-Err
returns-in-Err c = absurd (not_error c.args.text.now c.parse.result _ c.in-Err.is (parsed c.args.text.now c.parse.result c.requires c.parse.ensures.value.0))
