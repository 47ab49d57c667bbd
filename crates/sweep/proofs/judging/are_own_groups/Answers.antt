use Rattle.std.proofs.Common.{[], ◌∙◌, subst}
use Rattle.lock_model.specs.declared.group.Group.{Group}
use Rattle.lock_model.specs.declared.way.Way.TheVariants.{Up}
use Rattle.sweep.specs.Judging.{IsOwnGroup}
use Rattle.sweep.proofs.JudgeLemmas.{same-at, each_more, each_all}
use Rattle.sweep.proofs.judging.are_own_groups.Goals as goal

abbrev none : Group
none = record { way = Up; ships = [] }

pub loop-group-preserved : goal.loop-group-preserved
loop-group-preserved c =
    let line = c.args.line.now in
    let k = c.loop-group.group-index in
    let own = IsOwnGroup c.args.instance.now c.args.chamber in
    let here = c.group-item.is ∙ same-at line k c.group-item.result none c.loop-group-test.true in
    each_more own line none k c.loop-group.invariant (subst own here (c.is_own_group.ensures c.if-not-is_own_group.false))

pub returns : goal.returns
returns c = λ _. each_all (IsOwnGroup c.args.instance.now c.args.chamber) c.args.line.now none c.loop-group.group-index c.loop-group.invariant c.loop-group-test.false
