use Rattle.std.proofs.Common.{◌<◌, length, All, sym, subst}
use Rattle.replan.proofs.RenumberLemmas.{rising_more}
use Rattle.replan.proofs.together.ships_of.Goals as goal

pub push-requires-clause-rising : goal.push-requires-clause-rising
push-requires-clause-rising c =
    let ss = c.as_slice-ship-items.result.now in
    rising_more c.args.numbers.now c.requires.rising ss c.loop-ship.renumbered c.loop-ship.ship-index c.loop-ship-test.true
    (subst (All (λ s. s < length c.args.numbers.now)) (sym c.as_slice-ship-items.ensures.value) c.requires.known)
    c.as_slice-ship-items.ensures.rising c.loop-ship.invariant
