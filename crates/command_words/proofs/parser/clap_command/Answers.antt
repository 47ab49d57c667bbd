use Rattle.std.proofs.Common.{◌≡◌, ◌∙◌, ap, ap₂}
use Rattle.std.proofs.lemmas.Result.{IfOk-weaker}
use Rattle.clap.specs.Words.{app_of}
use Rattle.clap.specs.Simple.{with_rule}
use Rattle.command_words.specs.Names.{name_of, options}
use Rattle.command_words.specs.Parser.{parser, bare_parser, command_rule, with_all}
use Rattle.command_words.specs.declared.arguments.Argument.TheVariants.{Command}
use Rattle.command_words.proofs.parser.clap_command.Goals as goal

pub returns : goal.returns
unfolding parser
returns c =
    let first : app_of c.in_ok-command.command ≡ with_rule bare_parser (command_rule (name_of Command)) =
    c.in_ok-command.ensures ∙ ap₂ with_rule c.bare.ensures (ap command_rule c.name.ensures) in
    IfOk-weaker c.with_all.result _ _ (λ p h. h ∙ ap (λ app. with_all app options) first) c.with_all.ensures
