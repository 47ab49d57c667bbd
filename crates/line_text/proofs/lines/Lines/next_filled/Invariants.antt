use Rattle.std.proofs.Common.{◌≡◌}
use Rattle.line_text.specs.Left.{lines_left, words_left, size_left}
use Rattle.line_text.specs.Filled.{first_line, first_words}
use Rattle.line_text.proofs.lines.Lines.next_filled.Given as goal

abbrev pub invariant-loop-line : goal.invariant-loop-line
invariant-loop-line l = record {
  line : first_line l.initial.self.number (lines_left l.initial.self) ≡ first_line l.self.number (lines_left l.self);
  words : first_words l.initial.self.number (words_left l.initial.self) ≡ first_words l.self.number (words_left l.self);
}

abbrev pub decreases-loop-line : goal.decreases-loop-line
decreases-loop-line l = size_left l.self
