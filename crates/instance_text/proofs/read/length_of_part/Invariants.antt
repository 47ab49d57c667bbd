use Rattle.std.proofs.Common.{◌≡◌, ◌+◌, length}
use Rattle.line_text.specs.Left.{lines_left, size_left}
use Rattle.line_text.specs.Lines.{lines}
use Rattle.instance_text.specs.Reading.{length_of_part}
use Rattle.instance_text.proofs.read.length_of_part.Given as goal

abbrev pub invariant-loop-line : goal.invariant-loop-line
invariant-loop-line l = record {
  counted : l.taken + size_left l.lines ≡ length l.text + 1;
  rest : l.taken + length_of_part (lines_left l.lines) ≡ length_of_part (lines l.text);
}

abbrev pub decreases-loop-line : goal.decreases-loop-line
decreases-loop-line l = size_left l.lines
