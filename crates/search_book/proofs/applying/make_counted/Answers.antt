use Rattle.search_book.proofs.ApplyLemmas.{applies-count, on-refused}
use Rattle.search_book.proofs.applying.make_counted.Goals as goal

pub returns-clause-count : goal.returns-clause-count
returns-clause-count c = (applies-count c.args.book.now c.args.event c.make.result c.make.new.book c.make.ensures).count

pub returns-clause-case : goal.returns-clause-case
returns-clause-case c = (applies-count c.args.book.now c.args.event c.make.result c.make.new.book c.make.ensures).case

pub returns-clause-refused : goal.returns-clause-refused
returns-clause-refused c = on-refused c.args.book.now c.args.event c.make.result c.make.new.book c.make.ensures
