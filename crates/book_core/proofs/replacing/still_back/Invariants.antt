use Rattle.std.proofs.Common.{◌≡◌, ◌≤◌, length, take, filter}
use Rattle.book_core.specs.Outdone.{is_back_in}
use Rattle.book_core.proofs.replacing.still_back.Given as goal

abbrev pub invariant-loop-id : goal.invariant-loop-id
invariant-loop-id l = record { kept : l.kept ≡ filter (is_back_in l.slots) (take l.id-index l.id-items); few : length l.kept ≤ l.id-index }
