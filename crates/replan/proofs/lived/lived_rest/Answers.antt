use Rattle.std.proofs.Common.{◌≡◌, ◌<◌, length, All, ap, ◌∙◌, sym, subst}
use Rattle.replan.specs.Kept.{kept_of}
use Rattle.replan.specs.Lived.{chambers_lived}
use Rattle.replan.specs.Rest.{ships_left}
use Rattle.replan.proofs.LeftLemmas.{left-known, none_left}
use Rattle.replan.proofs.LivedLemmas.{lived-limits}
use Rattle.replan.proofs.lived.lived_rest.Goals as goal

pub ships_from-requires : goal.ships_from-requires
ships_from-requires c = subst (All (λ s. s < length c.args.instance.now.ships)) (sym c.requires.left) (left-known c.args.instance.now c.args.kept.now)

pub returns-clause-done : goal.returns-clause-done
returns-clause-done c =
    let I = c.args.instance.now in
    let P = c.args.plan.now in
    let M = c.args.minute in
    let left : c.args.numbers.now ≡ ships_left I (kept_of P M) = c.requires.left ∙ ap (ships_left I) c.requires.kept in
    none_left I (kept_of P M) M (chambers_lived I P M) (lived-limits I P M c.requires.can c.requires.early) c.new.result c.chambers_lived-chambers.result c.ships_from.result c.args.numbers.now
    c.new.ensures.valid c.chambers_lived-chambers.ensures left c.ships_from.ensures
