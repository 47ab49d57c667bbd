use Rattle.std.proofs.Common.{◌≡◌, ℕ, ◌<◌, false, get_or}
use Rattle.line_text.specs.Lines.{is_hash}
use Rattle.line_text.proofs.words.before_comment.Given as goal

abbrev pub invariant-loop-i : goal.invariant-loop-i
invariant-loop-i l = (k : ℕ) → k < l.i → is_hash (get_or l.line k 0) ≡ false
