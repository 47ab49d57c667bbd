use Rattle.solve_workers.proofs.DrivenLemmas.{driven_then}
use Rattle.solve_workers.proofs.HeldLemmas.{of_false, still_lacks}
use Rattle.solve_workers.proofs.working.split_unless_priced.Goals as goal

pub split-requires-clause-lacks : goal.split-requires-clause-lacks
split-requires-clause-lacks g c =
    still_lacks c.args.book.now c.is_priced.new.book c.args.id c.is_priced.ensures.driven
    (of_false c.is_priced.result c.is_priced.ensures.node c.if-is_priced.false) c.requires.lacks

pub returns-clause-driven : goal.returns-clause-driven
returns-clause-driven g c = driven_then c.args.book.now c.is_priced.new.book c.split.new.book c.is_priced.ensures.driven c.split.ensures.driven
