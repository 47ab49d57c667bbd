use Rattle.refute_rules.specs.declared.refutation.Quick.TheVariants.{Area, Row, Column}
use Rattle.ship_shapes.proofs.FirstLemmas.{reason_unfit}
use Rattle.ship_shapes.proofs.reason.holds.Goals as goal

pub returns-in-Area-clause-unfit : goal.returns-in-Area-clause-unfit
returns-in-Area-clause-unfit c = λ yes. reason_unfit c.args.deck.now Area c.is_area.ensures.limits (c.is_area.ensures.yes.0 yes)

pub returns-in-Row-clause-unfit : goal.returns-in-Row-clause-unfit
returns-in-Row-clause-unfit c = λ yes. reason_unfit c.args.deck.now (Row c.in-Row.ships) c.is_row.ensures.limits (c.is_row.ensures.exact.0 yes)

pub returns-in-Column-clause-unfit : goal.returns-in-Column-clause-unfit
returns-in-Column-clause-unfit c = λ yes. reason_unfit c.args.deck.now (Column c.in-Column.ships) c.is_column.ensures.limits (c.is_column.ensures.exact.0 yes)
