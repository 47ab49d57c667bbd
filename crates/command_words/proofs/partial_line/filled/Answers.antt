use Rattle.std.proofs.Common.{◌∙◌, false, ap, sym, slice_index_or}
use Rattle.command_words.proofs.Seen.{refuses, fills_at}
use Rattle.command_words.proofs.partial_line.filled.Goals as goal

pub returns-then-line-place : goal.returns-then-line-place
returns-then-line-place c l t stands other =
    refuses c.args.argument t c.args.line.now l stands (ap (λ i. slice_index_or c.args.line.now.seen i false) (sym c.place-place.ensures.place) ∙ c.if-line-place.true)

pub returns : goal.returns
returns c l t stands other = fills_at c.args.argument c.place-place.result t c.args.line.now l stands c.place-place.ensures.place c.if-line-place.false other
