use Rattle.std.proofs.Common.{rules, All, subst}
use Rattle.price_groups.specs.Sparing.{IsSpared}
use Rattle.sweep.specs.Judging.{IsOwnGroup}
use Rattle.sweep.proofs.JudgeLemmas.{own-uncut}
use Rattle.sweep.proofs.judging.uncut_flow.Goals as goal

pub returns : goal.returns
returns c =
    let asked = c.args.asked.now in
    let line = c.args.line.now in
    let own : All (IsOwnGroup asked.instance.now c.args.chamber) line = search rules in
    let spared : All (IsSpared c.deref.result.now) line = c.are_spared.ensures.0 (search rules) in
    record {
      uncut = own-uncut asked c.args.chamber c.case_of.result c.in_ok-sets.sets.items line c.case_of.ensures c.in_ok-sets.ensures own
          (subst (λ sets. All (IsSpared sets) line) c.deref.ensures.value spared);
      sum = c.in_ok-flow.ensures;
    }
