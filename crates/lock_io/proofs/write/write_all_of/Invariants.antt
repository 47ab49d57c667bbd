use Rattle.std.proofs.Common.{length, ◌-◌, ◌≤◌, take}
use Rattle.std.specs.Io.KnownBytes.{Appends}
use Rattle.lock_io.proofs.write.write_all_of.Given as goal

-- the first bytes are appended, and the count of faults hasn't fallen
abbrev pub invariant-loop-done : goal.invariant-loop-done
invariant-loop-done g l =
    let sink = g.K.Sink in
    record {
      within : l.done ≤ length l.bytes;
      front : Appends (sink.held l.fn.out) (sink.held l.out) (take l.done l.bytes);
      later : sink.faults l.fn.out ≤ sink.faults l.out;
    }

abbrev pub decreases-loop-done : goal.decreases-loop-done
decreases-loop-done g l = length l.bytes - l.done
