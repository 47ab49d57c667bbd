use Rattle.std.proofs.Common.{◌≡◌, ◌+◌, length}
use Rattle.line_text.specs.Left.{lines_left, size_left}
use Rattle.line_text.specs.Lines.{lines}
use Rattle.line_text.proofs.utf8.count_lines.Given as goal

abbrev pub invariant-counting : goal.invariant-counting
invariant-counting l = l.lines.number + length (lines_left l.lines) ≡ length (lines l.text)

abbrev pub decreases-counting : goal.decreases-counting
decreases-counting l = size_left l.lines
