use Rattle.std.proofs.Common.{All, subst, rules}
use Rattle.std.proofs.lemmas.List.{take_all}
use Rattle.std.proofs.lemmas.List.Elements.{All-more}
use Rattle.closing_rules.specs.ProvedCuts.{IsProved}
use Rattle.cert_check.proofs.cuts.first_unproved.Goals as goal

pub loop-number-preserved : goal.loop-number-preserved
loop-number-preserved c =
    let own : IsProved c.args.instance.now c.index-cuts-number.result = search rules in
    All-more (IsProved c.args.instance.now) c.args.cuts.now c.loop-number.number c.index-cuts-number.result c.loop-number-test.true c.loop-number.invariant
    (subst (IsProved c.args.instance.now) c.index-cuts-number.is own)

pub returns-clause-none : goal.returns-clause-none
returns-clause-none c =
    subst (All (IsProved c.args.instance.now)) (take_all c.loop-number.number c.args.cuts.now c.loop-number-test.false) c.loop-number.invariant
