use Rattle.std.proofs.Common.{sym, subst, rules, All, Contains}
use Rattle.std.proofs.lemmas.List.Elements.{All-push}
use Rattle.node_work.proofs.cutting.add_kept.Goals as goal

pub returns-then-len-lt-MOST-clause-among : goal.returns-then-len-lt-MOST-clause-among
returns-then-len-lt-MOST-clause-among c =
    let S = c.args.ships.now in
    let among : Contains S c.args.ship = search rules in
    subst (All (Contains S)) (sym c.push.ensures) (All-push (Contains S) c.args.fewer.now c.args.ship c.requires.among among)
