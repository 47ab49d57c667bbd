use Rattle.std.proofs.Common.{sym, ap, ◌∙◌}
use Rattle.closing_rules.specs.declared.grounds.Ground.TheVariants as by
use Rattle.book_rules.specs.Book.{best_cost}
use Rattle.book_rules.specs.Step.{cheaper_than}
use Rattle.book_core.proofs.CloseLemmas.{missed}
use Rattle.book_core.proofs.book.Book.close_throughput.Goals as goal

pub returns-then-not-may_close : goal.returns-then-not-may_close
returns-then-not-may_close c = missed c.args.self.now c.args.id by.Throughput (sym c.may_close.ensures.value ∙ c.if-not-may_close.true)

pub shut_from-requires-clause-held : goal.shut_from-requires-clause-held
shut_from-requires-clause-held c = sym c.may_close.ensures.value ∙ c.if-not-may_close.false

pub shut_from-requires-clause-asked : goal.shut_from-requires-clause-asked
shut_from-requires-clause-asked c = ap (cheaper_than (best_cost c.args.self.now)) (sym c.throughput-throughput.ensures)
