use Rattle.std.proofs.Common.{◌≡◌, take}
use Rattle.instance_text.proofs.name.copy_name.Given as goal

abbrev pub invariant-loop-byte : goal.invariant-loop-byte
invariant-loop-byte l = l.name ≡ take l.byte-index l.word
