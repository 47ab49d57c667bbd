use Rattle.std.proofs.Common.{◌≡◌}
use Rattle.line_text.specs.Left.{size_left}
use Rattle.instance_text.specs.Reading.{read_body_left}
use Rattle.instance_text.proofs.read.read_body.Given as goal

abbrev pub invariant-loop-line : goal.invariant-loop-line
invariant-loop-line l = read_body_left l.format l.initial.draft l.initial.lines ≡ read_body_left l.format l.draft l.lines

abbrev pub decreases-loop-line : goal.decreases-loop-line
decreases-loop-line l = size_left l.lines
