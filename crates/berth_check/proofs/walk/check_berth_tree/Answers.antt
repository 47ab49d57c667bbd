use Rattle.std.proofs.Common.{rules}
use Rattle.lock_model.specs.Deck.{IsDeck}
use Rattle.berth_check.proofs.StepLemmas.{tree_told}
use Rattle.berth_check.proofs.walk.check_berth_tree.Goals as goal

pub returns-clause-unfit : goal.returns-clause-unfit
returns-clause-unfit c =
    let limits : IsDeck c.args.deck.now = search rules in
    tree_told c.args.deck.now c.args.marks.now c.is_walked.result limits c.is_walked.ensures
