use Rattle.std.proofs.Common.{rules, ◌≡◌, ◌≤◌, length}
use Rattle.lock_model.specs.declared.limits.TheConstants.{MOST}
use Rattle.refute_rules.specs.Choices.{spot_decisions}
use Rattle.place_refute.proofs.ReadLemmas.{reads_spots}
use Rattle.place_refute.proofs.check.is_spot_tree.Goals as goal

pub is_tree-requires : goal.is_tree-requires
is_tree-requires c =
    let all : c.spot_decisions-decisions.result ≡ spot_decisions (length c.args.deck.now.ships) = search rules in
    let few : length c.args.deck.now.ships ≤ MOST = search rules in
    reads_spots c.args.deck.now c.args.values.now c.spot_decisions-decisions.result all c.requires few
