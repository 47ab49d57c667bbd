use Rattle.std.proofs.Common.{◌≡◌, drop, not}
use Rattle.std.specs.Prelude.{◌||◌}
use Rattle.std.specs.List.{list_all}
use Rattle.command_words.specs.Names.{is_for}
use Rattle.command_words.specs.Given.{is_given}
use Rattle.command_words.specs.WordByWord.{PartialLine}
use Rattle.command_words.specs.Stands.{Stands}
use Rattle.command_words.proofs.judge.all_fit.Given as goal

-- the options so far fit
abbrev pub invariant-loop-option : goal.invariant-loop-option
invariant-loop-option l = (line : PartialLine) → Stands l.line line
    → list_all (λ a. not (is_given a line.given) || is_for l.command a) l.options ≡ list_all (λ a. not (is_given a line.given) || is_for l.command a) (drop l.option-index l.options)
