use Rattle.std.proofs.Common.{ap, ◌∙◌, length, nat_lt}
use Rattle.std.specs.List.{list_all}
use Rattle.refute_rules.specs.Cuts.{Cut}
use Rattle.book_core.proofs.PostLemmas.{known_ships}
use Rattle.book_core.proofs.posting.has_its_ships.Goals as goal

pub returns-clause-value : goal.returns-clause-value
returns-clause-value c =
    let count = length c.args.instance.now.ships in
    known_ships c.has_ships.result count c.as_slice.result.now c.has_ships.ensures
    ∙ ap (list_all (λ s. nat_lt s count)) c.as_slice.ensures.value
    ∙ ap (λ (cut : Cut). list_all (λ s. nat_lt s count) cut.ships) c.cut.view_is
