use Rattle.std.proofs.Common.{◌∙◌, false, sym, ap, slice_index_or}
use Rattle.command_words.specs.declared.arguments.Argument.TheVariants.{Command}
use Rattle.command_words.proofs.Seen.{refuses, fills_command_at}
use Rattle.command_words.proofs.partial_line.with_command.Goals as goal

pub returns-then-line-first : goal.returns-then-line-first
returns-then-line-first c l stands =
    refuses Command c.args.word.now c.args.line.now l stands (ap (λ i. slice_index_or c.args.line.now.seen i false) (sym c.place-first.ensures.place) ∙ c.if-line-first.true)

pub returns : goal.returns
returns c l stands = fills_command_at c.place-first.result c.args.word.now c.args.line.now l c.command_named.result stands c.place-first.ensures.place c.if-line-first.false c.command_named.ensures
