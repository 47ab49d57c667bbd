use Rattle.std.proofs.Common.{◌+◌, ◌-◌, ◌≤◌, length}
use Rattle.std.specs.Io.KnownBytes.{Consumes}
use Rattle.lock_io.proofs.read.read_all.Given as goal

-- the bytes so far are those that the source handed out, and the count of faults hasn't fallen
abbrev pub invariant-loop-count : goal.invariant-loop-count
invariant-loop-count g l =
    let source = g.S.Source in
    record {
      within : length l.bytes.items ≤ l.limit;
      front : Consumes (source.left l.fn.src) (source.left l.src) l.bytes.items;
      later : source.faults l.fn.src ≤ source.faults l.src;
    }

abbrev pub decreases-loop-count : goal.decreases-loop-count
decreases-loop-count g l = l.limit + 1 - length l.bytes.items
