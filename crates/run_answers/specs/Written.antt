-- The bytes of an answer.
use Rattle.std.specs.Prelude.{ℕ, List}
use Rattle.run_answers.specs.declared.answer.Text.{Text}
use Rattle.run_answers.specs.declared.answer.Text.TheVariants.{Fixed, Made}

abbrev pub bytes_in : Text → List ℕ
bytes_in (Fixed bytes) = bytes.now
bytes_in (Made bytes) = bytes.items
