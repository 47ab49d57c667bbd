use Rattle.std.proofs.Common.{◌≡◌, drop, find}
use Rattle.std.specs.Str.{bytes_eq}
use Rattle.command_words.specs.Names.{word_of}
use Rattle.command_words.proofs.command_names.named_in.Given as goal

-- no command so far has the word
abbrev pub invariant-loop-command : goal.invariant-loop-command
invariant-loop-command l = find (λ c. bytes_eq (word_of c) l.text) l.commands ≡ find (λ c. bytes_eq (word_of c) l.text) (drop l.command-index l.commands)
