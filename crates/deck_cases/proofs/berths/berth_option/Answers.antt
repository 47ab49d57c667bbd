use Rattle.std.proofs.Common.{sym, ◌∙◌}
use Rattle.lock_model.specs.declared.placement.Moor.TheVariants.{Ship}
use Rattle.deck_cases.proofs.BerthLemmas.{host-at}
use Rattle.deck_cases.proofs.berths.berth_option.Goals as goal

pub returns : goal.returns
returns c =
    let two = c.if-option-lt2.false in
    (λ t. record { rank = c.rank_of-rank.ensures t; moor = Ship (c.other_ship-host.ensures t) })
    ∙ sym (host-at c.args.ships c.args.ship c.args.option c.requires.ship two c.requires.option)
