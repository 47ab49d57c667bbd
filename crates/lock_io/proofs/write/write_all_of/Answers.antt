use Rattle.std.proofs.Common.{arith, length-drop, length, ap}
use Rattle.std.proofs.lemmas.List.{take_rest}
use Rattle.lock_io.proofs.TransferLemmas.{Appends-more}
use Rattle.lock_io.proofs.write.write_all_of.Goals as goal

pub loop-done-preserved : goal.loop-done-preserved
loop-done-preserved g c =
    let bytes = c.args.bytes.now in
    let piece = take_rest bytes c.loop-done.done in
    let took = c.in-Took.ensures.bytes in
    record {
      within = omega (arith, took.fits, ap length piece, length-drop c.loop-done.done bytes);
      front = Appends-more _ _ _ bytes _ c.loop-done.done c.in-Took.count c.loop-done.invariant.within piece c.loop-done.invariant.front took.first;
      later = omega (arith, c.in-Took.ensures.later);
    }
