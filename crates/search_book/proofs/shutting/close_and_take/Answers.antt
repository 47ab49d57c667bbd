use Rattle.std.proofs.Common.{rules}
use Rattle.search_book.proofs.shutting.close_and_take.Goals as goal

pub returns-clause-steps : goal.returns-clause-steps
returns-clause-steps g c = record {
  ended = c.shut-reply.result;
  between = c.shut-reply.new.kept.book.value;
  step = c.shut-reply.ensures.step;
  accepted = search rules;
  taken = c.apply.ensures.step;
}
