use Rattle.std.proofs.Common.{◌≡◌, ◌-◌, ◌^◌, min, take}
use Rattle.line_text.specs.Numbers.{value}
use Rattle.line_text.proofs.digits.value_of.Given as goal

abbrev pub invariant-loop-digit : goal.invariant-loop-digit
invariant-loop-digit l = l.value ≡ min (value (take l.digit-index l.digits)) (2 ^ 32 - 1)
