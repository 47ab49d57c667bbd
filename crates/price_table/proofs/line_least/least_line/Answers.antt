use Rattle.std.proofs.Common.{◌≡◌, All, length, refl, sym, ap, ◌∙◌, subst, rules}
use Rattle.lock_model.specs.Fleet.{chamber_at}
use Rattle.price_terms.specs.Cuts.{plain_cuts}
use Rattle.price_groups.specs.Asked.{line_asked}
use Rattle.price_groups.specs.Sparing.{IsSpared}
use Rattle.price_successors.specs.SuccessorLists.{AreSuccessorLists}
use Rattle.price_table.proofs.FrameLemmas.{spared-uncut, cut-least}
use Rattle.price_table.proofs.line_least.least_line.Goals as goal

pub returns-then-not-are_spared-clause-least : goal.returns-then-not-are_spared-clause-least
returns-then-not-are_spared-clause-least c =
    let case = c.args.extension.now.case.now in
    let I = case.instance.now in
    let held : ¬ All (IsSpared c.args.extension.now.sets.now) case.line.now = search rules in
    cut-least I case.index (plain_cuts I case.cuts.now) c.args.extension.now.sets.now c.args.extension.now.forbids case.depth case.prices.now (chamber_at I case.index).stands (chamber_at I case.index).opens case.line.now case.ships_in held

pub invariant_of-table : goal.invariant_of-table
invariant_of-table c =
    let case = c.args.extension.now.case.now in
    let I = case.instance.now in
    let kept : c.deref.result.now ≡ c.in_ok-successor_lists.successor_lists.items = search rules in
    record {
      uncut = spared-uncut I case.index (plain_cuts I case.cuts.now) c.args.extension.now.sets.now c.args.extension.now.forbids case.line.now case.good case.ships_in (c.if-not-are_spared.ensures.0 refl);
      late = c.horizon.ensures.late;
      small = c.horizon.ensures.small;
      whole = ap length kept ∙ c.in_ok-successor_lists.ensures.successor_lists.made.count;
    }

pub line_by-requires : goal.line_by-requires
line_by-requires c =
    let kept : c.deref.result.now ≡ c.in_ok-successor_lists.successor_lists.items = search rules in
    subst (AreSuccessorLists (line_asked c.args.extension.now.case.now)) (sym kept) c.in_ok-successor_lists.ensures.successor_lists
