use Rattle.std.proofs.Common.{◌≡◌, All, false, take}
use Rattle.line_text.specs.Parts.{separates}
use Rattle.line_text.proofs.parts.first.Given as goal

abbrev pub invariant-loop-i : goal.invariant-loop-i
invariant-loop-i l = All (λ b. separates l.separator b ≡ false) (take l.i l.bytes)
