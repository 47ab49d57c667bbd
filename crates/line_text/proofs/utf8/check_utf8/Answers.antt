use Rattle.std.proofs.lemmas.Str.{is_utf8-from_IsUtf8}
use Rattle.line_text.proofs.Utf8Lemmas.{not_utf8}
use Rattle.line_text.proofs.utf8.check_utf8.Goals as goal

pub returns-in-Ok-clause-text : goal.returns-in-Ok-clause-text
returns-in-Ok-clause-text c = is_utf8-from_IsUtf8 c.args.bytes.now c.in-Ok.ensures.cases.1

pub returns-in-Err-clause-fault : goal.returns-in-Err-clause-fault
returns-in-Err-clause-fault c = not_utf8 c.args.bytes.now c.in-Err.ensures.cases.0
