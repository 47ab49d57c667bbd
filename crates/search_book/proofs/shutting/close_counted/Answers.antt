use Rattle.search_book.specs.Shutting.{closing_event}
use Rattle.search_book.proofs.ApplyLemmas.{answers-count}
use Rattle.search_book.specs.Replies.{is_accepting}
use Rattle.std.proofs.Common.{◌≡◌}
use Rattle.std.proofs.lemmas.Bool.{OnFalse_from}
use Rattle.search_book.proofs.shutting.close_counted.Goals as goal

pub returns-clause-count : goal.returns-clause-count
returns-clause-count c = (answers-count c.args.book.now (closing_event c.args.closing.now) c.close_price.result c.close_price.new.self c.close_price.ensures).count

pub returns-clause-refused : goal.returns-clause-refused
returns-clause-refused c = OnFalse_from (is_accepting c.close_price.result) (c.close_price.new.self ≡ c.args.book.now) (answers-count c.args.book.now (closing_event c.args.closing.now) c.close_price.result c.close_price.new.self c.close_price.ensures).refused
