use Rattle.std.proofs.Common.{Option, Some, sym, subst}
use Rattle.std.specs.Prelude.{option_and_then}
use Rattle.command_words.specs.WordByWord.{named}
use Rattle.command_words.specs.Stands.{StepsTo}
use Rattle.command_words.specs.declared.arguments.Argument.{Argument}
use Rattle.command_words.proofs.Follows.{named_other}
use Rattle.command_words.proofs.word_by_word.joined_word.Goals as goal

pub returns-in-Some : goal.returns-in-Some
returns-in-Some c l stands =
    subst (λ (o : Option Argument). StepsTo c.joined.result (option_and_then (λ s. named s (Some c.args.text.now) l) o)) c.in-Some.ensures (c.joined.ensures l stands (named_other c.args.name.now c.in-Some.option (sym c.in-Some.ensures)))
