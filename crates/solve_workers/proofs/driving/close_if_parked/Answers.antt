use Rattle.std.proofs.Common.{rules, refl}
use Rattle.book_rules.specs.Events.{close}
use Rattle.closing_rules.specs.declared.grounds.Ground.TheVariants as by
use Rattle.solve_workers.proofs.DrivenLemmas.{driven_by, driven_none}
use Rattle.solve_workers.proofs.TidyLemmas.{tidied_more, tidied_length, tidied_past}
use Rattle.solve_workers.proofs.driving.close_if_parked.Goals as goal

pub returns-then-not-is_parked-clause-tidied : goal.returns-then-not-is_parked-clause-tidied
returns-then-not-is_parked-clause-tidied c = tidied_past c.args.book.now c.args.id (search rules) c.requires.tidied

pub returns-then-not-is_parked-clause-count : goal.returns-then-not-is_parked-clause-count
returns-then-not-is_parked-clause-count c = refl

pub returns-then-not-is_parked-clause-driven : goal.returns-then-not-is_parked-clause-driven
returns-then-not-is_parked-clause-driven c = driven_none c.args.book.now

pub returns-clause-tidied : goal.returns-clause-tidied
returns-clause-tidied c = tidied_more c.args.book.now c.args.id c.close_bound.result c.close_bound.new.self c.requires.tidied c.close_bound.ensures

pub returns-clause-count : goal.returns-clause-count
returns-clause-count c = tidied_length c.args.book.now c.args.id c.close_bound.result c.close_bound.new.self c.requires.tidied c.close_bound.ensures

pub returns-clause-driven : goal.returns-clause-driven
returns-clause-driven c = driven_by c.args.book.now (close c.args.id by.Bound) c.close_bound.result c.close_bound.new.self c.keeps.ensures tt tt c.close_bound.ensures
