use Rattle.std.proofs.Common.{drop, map, string_bytes}
use Rattle.command_words.proofs.Walk.{IsReading}
use Rattle.command_words.proofs.judge.are_good.Given as goal

abbrev pub invariant-loop-word : goal.invariant-loop-word
invariant-loop-word l = IsReading (map string_bytes l.words) (map string_bytes (drop l.word-index l.words)) l.line
