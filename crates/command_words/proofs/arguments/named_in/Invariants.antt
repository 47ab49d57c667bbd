use Rattle.std.proofs.Common.{◌≡◌, drop, find}
use Rattle.std.specs.Str.{bytes_eq}
use Rattle.command_words.specs.Names.{name_of}
use Rattle.command_words.proofs.arguments.named_in.Given as goal

-- no option so far has the name
abbrev pub invariant-loop-option : goal.invariant-loop-option
invariant-loop-option l = find (λ a. bytes_eq (name_of a) l.text) l.options ≡ find (λ a. bytes_eq (name_of a) l.text) (drop l.option-index l.options)
