use Rattle.std.proofs.Common.{rules}
use Rattle.lock_model.specs.Deck.{IsDeck}
use Rattle.deck_cuts.proofs.HitLemmas.{refuted_told}
use Rattle.place_refute.proofs.check.check_refutation.Goals as goal

pub returns-clause-unfit : goal.returns-clause-unfit
returns-clause-unfit c =
    let limits : IsDeck c.args.deck.now = search rules in
    refuted_told c.args.deck.now c.args.refutation.now c.is_refuted.result limits c.is_refuted.ensures
