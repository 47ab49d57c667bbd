use Rattle.std.proofs.Common.{◌≡◌, drop}
use Rattle.clap.specs.Words.{app_of}
use Rattle.command_words.specs.Parser.{with_all}
use Rattle.command_words.proofs.parser.with_all.Given as goal

-- the options that are left are added to what there is
abbrev pub invariant-loop-option : goal.invariant-loop-option
invariant-loop-option l = with_all (app_of l.parser) (drop l.option-index l.options) ≡ with_all (app_of l.initial.parser) l.options
