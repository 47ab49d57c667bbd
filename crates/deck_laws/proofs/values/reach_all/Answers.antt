use Rattle.std.proofs.Common.{◌≡◌, length, arith}
use Rattle.std.proofs.lemmas.Grind.{common_steps}
use Rattle.deck_laws.proofs.ValueLemmas.{next_reached}
use Rattle.deck_laws.proofs.values.reach_all.Goals as goal

pub loop-before-preserved : goal.loop-before-preserved
loop-before-preserved c =
    let count : length c.args.deck.now.ships ≡ length c.as_slice.result.now = grind (arith, common_steps) in
    let before = c.loop-before-test.true in
    let size = c.reach_next.ensures.size in
    let small = c.loop-before.invariant.0 in
    (omega (arith, size, small), next_reached c.args.deck.now c.loop-before.before _ _ (omega (arith, count, before)) c.loop-before.invariant.1 c.reach_next.ensures)
