use Rattle.book_rules.specs.Events.{park}
use Rattle.solve_workers.proofs.DrivenLemmas.{driven_by}
use Rattle.solve_workers.proofs.HeldLemmas.{spent_frees}
use Rattle.solve_workers.specs.Holds.{node_at}
use Rattle.solve_workers.proofs.ending.park.Goals as goal

pub returns-clause-freed : goal.returns-clause-freed
returns-clause-freed c =
    spent_frees c.args.book.now c.args.id (node_at c.args.book.now c.args.id) c.requires.holds c.args.chamber c.args.place c.args.hard.now c.park.result c.park.new.self c.requires.spent c.park.ensures

pub returns-clause-driven : goal.returns-clause-driven
returns-clause-driven c =
    driven_by c.args.book.now (park c.args.id c.args.chamber c.args.place c.args.hard.now.deck c.args.hard.now.turns) c.park.result c.park.new.self c.keeps.ensures c.requires.spent.spent tt c.park.ensures
