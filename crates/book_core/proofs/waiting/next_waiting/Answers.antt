use Rattle.std.proofs.Common.{◌≡◌, ◌-◌, suc, length, ap, ◌∙◌, arith, take, vec_len}
use Rattle.book_core.proofs.KeptLemmas.{length-slots, some-is}
use Rattle.book_core.proofs.NextLemmas.{last-waits, least-next, waiting-popped}
use Rattle.book_core.proofs.waiting.next_waiting.Goals as goal

pub least_fresh-requires : goal.least_fresh-requires
least_fresh-requires c =
    let I = c.args.instance.now in
    let ss = c.args.slots.now in
    let ws = c.loop-waiting.waiting.items in
    let good = c.loop-waiting.invariant in
    let some = some-is (vec_len c.loop-waiting.waiting) c.is_empty.result c.is_empty.ensures c.loop-waiting-test.true in
    let count : suc (c.len.result - 1) ≡ length ws = omega (arith, some, c.len.ensures, c.loop-waiting.waiting.ok.0) in
    let last = c.index-last.result.now in
    let waits = last-waits I ss ws good (c.len.result - 1) count last c.index-last.ensures in
    let within = waits.within in
    omega (arith, within, length-slots I ss)

pub returns-in-Some-clause-some : goal.returns-in-Some-clause-some
returns-in-Some-clause-some c =
    let I = c.args.instance.now in
    let ss = c.args.slots.now in
    let ws = c.loop-waiting.waiting.items in
    let good = c.loop-waiting.invariant in
    let some = some-is (vec_len c.loop-waiting.waiting) c.is_empty.result c.is_empty.ensures c.loop-waiting-test.true in
    let count : suc (c.len.result - 1) ≡ length ws = omega (arith, some, c.len.ensures, c.loop-waiting.waiting.ok.0) in
    let last = c.index-last.result.now in
    least-next I ss ws good (c.len.result - 1) count last c.index-last.ensures c.in-Some.id c.in-Some.ensures

pub loop-waiting-preserved : goal.loop-waiting-preserved
loop-waiting-preserved c =
    let I = c.args.instance.now in
    let ss = c.args.slots.now in
    let ws = c.loop-waiting.waiting.items in
    let good = c.loop-waiting.invariant in
    let some = some-is (vec_len c.loop-waiting.waiting) c.is_empty.result c.is_empty.ensures c.loop-waiting-test.true in
    let count : suc (c.len.result - 1) ≡ length ws = omega (arith, some, c.len.ensures, c.loop-waiting.waiting.ok.0) in
    let last = c.index-last.result.now in
    let same : c.len-in-loop-waiting.result - 1 ≡ c.len.result - 1 = omega (arith, c.len.ensures, c.len-in-loop-waiting.ensures) in
    let shorter = c.truncate.ensures.items ∙ ap (λ n. take n ws) same in
    waiting-popped I ss ws good (c.len.result - 1) count last c.index-last.ensures c.in_default.ensures c.truncate.new.self.items shorter
