use Rattle.std.proofs.Common.{List, ℕ, refl, slice_index_or, subst}
use Rattle.node_work.proofs.FateLemmas.{group_known, spent_fate}
use Rattle.node_work.specs.Settling.{IsSettled}
use Rattle.node_work.proofs.group_fate.new_group_fate.Goals as goal

pub known_if_new-requires-clause-ships_in : goal.known_if_new-requires-clause-ships_in
known_if_new-requires-clause-ships_in g c =
    let group = c.index-line-place.result in
    group_known c.args.search.now.instance.now c.args.node.now c.requires.node c.args.at.0 c.requires.at.chamber c.args.at.1 c.line.result.now c.line.ensures.value c.requires.at.place group (slice_index_or c.line.result.now c.args.at.1 group).ships refl

pub settle_known-requires-clause-ships_in : goal.settle_known-requires-clause-ships_in
settle_known-requires-clause-ships_in g c =
    let group = c.index-line-place.result in
    group_known c.args.search.now.instance.now c.args.node.now c.requires.node c.args.at.0 c.requires.at.chamber c.args.at.1 c.line.result.now c.line.ensures.value c.requires.at.place group (slice_index_or c.line.result.now c.args.at.1 group).ships refl

pub returns-in_ok-spent-in-Spent : goal.returns-in_ok-spent-in-Spent
returns-in_ok-spent-in-Spent g c =
    let I = c.args.search.now.instance.now in
    let group = c.index-line-place.result in
    let ships : List ℕ = (slice_index_or c.line.result.now c.args.at.1 group).ships in
    spent_fate I c.args.node.now c.requires.node c.args.at.0 c.requires.at.chamber c.args.at.1 c.line.result.now c.line.ensures.value c.requires.at.place group ships refl
    (g.K.KnownCuts.tells c.args.known.now I) c.args.search.now.turns c.in-Spent.hard c.in-Spent.field-1 c.in_ok-spent-in-Spent.field-0
    (subst (IsSettled I c.args.at.0 ships c.args.search.now.turns) c.in-Spent.is c.in_ok-settle_known.ensures)
    c.in_ok-spent-in-Spent.ensures
