use Rattle.std.proofs.Common.{◌<◌, length, All, sym, subst}
use Rattle.replan.proofs.LeftLemmas.{left-known, rest_none}
use Rattle.replan.proofs.remaining.rest_of.Goals as goal

pub ships_from-requires : goal.ships_from-requires
ships_from-requires c = subst (All (λ s. s < length c.args.instance.now.ships)) (sym c.requires.left) (left-known c.args.instance.now c.args.kept.now)

pub returns-clause-done : goal.returns-clause-done
returns-clause-done c =
    rest_none c.args.instance.now c.args.kept.now c.args.from c.requires.can c.requires.early c.new.result c.chambers_after-chambers.result c.ships_from.result c.args.numbers.now
    c.new.ensures.valid c.chambers_after-chambers.ensures c.requires.left c.ships_from.ensures
