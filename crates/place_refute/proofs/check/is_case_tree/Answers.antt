use Rattle.std.proofs.Common.{rules, ◌≡◌, ◌≤◌, length, []}
use Rattle.lock_model.specs.declared.limits.TheConstants.{MOST}
use Rattle.refute_rules.specs.Choices.{decisions}
use Rattle.place_refute.proofs.ReadLemmas.{reads_cases}
use Rattle.place_refute.proofs.check.is_case_tree.Goals as goal

pub is_tree-requires : goal.is_tree-requires
is_tree-requires c =
    let all : c.case_decisions-decisions.result ≡ decisions (length c.args.deck.now.ships) = search rules in
    let few : length c.args.deck.now.ships ≤ MOST = search rules in
    reads_cases c.args.deck.now [] c.case_decisions-decisions.result all few
