use Rattle.std.proofs.Common.{rules}
use Rattle.search_book.proofs.applying.apply_and_take.Goals as goal

pub returns-clause-steps : goal.returns-clause-steps
returns-clause-steps g c = record {
  ended = c.apply-reply.result;
  between = c.apply-reply.new.kept.book.value;
  step = c.apply-reply.ensures.step;
  accepted = search rules;
  taken = c.apply.ensures.step;
}
