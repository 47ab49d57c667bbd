use Rattle.std.proofs.Common.{◌≡◌, ◌≤◌, ◌++◌, length, map, take, filter}
use Rattle.line_text.specs.Lines.{is_word, words}
use Rattle.line_text.specs.Parts.{parts_left, room_left}
use Rattle.line_text.proofs.words.words_of.Given as goal

abbrev pub invariant-loop-piece : goal.invariant-loop-piece
invariant-loop-piece l = (length l.found.items ≤ 13) × (take 13 (map (λ w. w.now) l.found.items ++ filter is_word (parts_left l.pieces.left l.pieces.separator)) ≡ take 13 (words l.line))

abbrev pub decreases-loop-piece : goal.decreases-loop-piece
decreases-loop-piece l = room_left l.pieces.left
