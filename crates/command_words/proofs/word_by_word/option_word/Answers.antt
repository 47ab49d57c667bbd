use Rattle.std.proofs.Common.{◌+◌}
use Rattle.std.proofs.lemmas.List.{take_rest}
use Rattle.command_words.proofs.Seen.{joined_steps, alone_steps}
use Rattle.command_words.proofs.word_by_word.option_word.Goals as goal

pub returns-in-Some : goal.returns-in-Some
returns-in-Some c l stands = joined_steps c.args.text.now c.in-Some.i _ l c.joined_word.result c.in-Some.ensures (take_rest c.args.text.now (c.in-Some.i + 1)) (c.joined_word.ensures l stands)

pub returns-in-None : goal.returns-in-None
returns-in-None c l stands = alone_steps c.args.text.now l c.alone_word.result c.in-None.ensures (c.alone_word.ensures l stands)
