use Rattle.std.proofs.Common.{◌≡◌}
use Rattle.line_text.specs.Left.{size_left}
use Rattle.plan_text.specs.Reading.{read_body_left}
use Rattle.plan_text.proofs.reading.read_body.Given as goal

abbrev pub invariant-loop-line : goal.invariant-loop-line
invariant-loop-line l = read_body_left l.instance l.initial.draft l.initial.lines ≡ read_body_left l.instance l.draft l.lines

abbrev pub decreases-loop-line : goal.decreases-loop-line
decreases-loop-line l = size_left l.lines
