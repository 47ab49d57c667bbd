use Rattle.book_rules.specs.Events.{close}
use Rattle.solve_workers.proofs.DrivenLemmas.{driven_by}
use Rattle.solve_workers.proofs.HeldLemmas.{closable_shut}
use Rattle.solve_workers.specs.Holds.{node_at}
use Rattle.solve_workers.proofs.ending.close.Goals as goal

pub returns-clause-freed : goal.returns-clause-freed
returns-clause-freed c = closable_shut c.args.book.now c.args.id (node_at c.args.book.now c.args.id) c.requires.holds c.args.why c.close.result c.close.new.self c.keeps.ensures c.requires.closed c.close.ensures

pub returns-clause-driven : goal.returns-clause-driven
returns-clause-driven c = driven_by c.args.book.now (close c.args.id c.args.why) c.close.result c.close.new.self c.keeps.ensures tt tt c.close.ensures
