use Rattle.std.proofs.Common.{◌≡◌, ◌+◌, ◌∙◌, length, sym, ap, subst}
use Rattle.price_groups.specs.Asked.{line_asked}
use Rattle.price_groups.specs.declared.line_case.LineCase.{LineCase}
use Rattle.price_successors.specs.SuccessorLists.{AreSuccessorLists}
use Rattle.price_table.specs.Values.{AreEmpty}
use Rattle.price_table.proofs.FrameLemmas.{values-none}
use Rattle.price_table.proofs.end_values.EndValues.new.Goals as goal

pub returns-clause-are : goal.returns-clause-are
returns-clause-are c =
    let case = c.args.case.now in
    let lists = c.in_ok-successor_lists.successor_lists.items in
    let are = c.in_ok-successor_lists.ensures.successor_lists in
    let values = c.in_ok-values.values in
    let one : length case.line.now + 1 ≡ 1 = ap (λ line. length line + 1) c.requires.empty in
    record {
      empty = c.requires.empty;
      lists = subst (λ (case : LineCase). AreSuccessorLists (line_asked case) lists) c.requires.case are;
      whole = are.made.count ∙ ap (λ (case : LineCase). length case.line.now + 1) c.requires.case ∙ one;
      late = c.horizon-horizon.ensures.late;
      small = c.horizon-horizon.ensures.small;
      values = values-none (line_asked case) case.chamber_in c.horizon-horizon.result values (subst (λ places. AreEmpty places values) (sym one) c.in_ok-values.ensures);
    }
