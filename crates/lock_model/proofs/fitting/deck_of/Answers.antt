use Rattle.std.proofs.Common.{◌≡◌, ◌≤◌, length, arith, subst}
use Rattle.std.proofs.lemmas.Grind.{common_steps}
use Rattle.lock_model.specs.declared.limits.TheConstants.{MOST}
use Rattle.lock_model.specs.Deck.{IsDeck}
use Rattle.lock_model.specs.Fitting.{deck_of}
use Rattle.lock_model.proofs.FleetLemmas.{IsDeck-deck_of}
use Rattle.lock_model.proofs.fitting.deck_of.Goals as goal

pub invariant_of-result : goal.invariant_of-result
invariant_of-result c =
    let small : length c.args.ships.now ≤ MOST = grind (arith, common_steps) in
    let same : deck_of c.args.instance.now c.args.chamber c.args.ships.now ≡ _ = grind (arith, common_steps) in
    subst IsDeck same (IsDeck-deck_of c.args.instance.now c.args.chamber c.args.ships.now c.requires.chamber_in c.requires.ships_in (c.requires.some, small))
