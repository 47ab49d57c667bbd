use Rattle.std.proofs.Common.{◌∙◌, ap}
use Rattle.clap.specs.Words.{found_of, first_value}
use Rattle.clap.specs.Walk.{first_of}
use Rattle.clap.proofs.WalkLemmas.{first_value-rows}
use Rattle.command_words.specs.Names.{name_of}
use Rattle.command_words.proofs.Taken.{text_found}
use Rattle.command_words.proofs.parser.text_of.Goals as goal

pub returns : goal.returns
returns c given rows plain =
    let found = found_of c.args.matches.now in
    c.get_str.ensures ∙ (ap (first_value found) c.name.ensures ∙ (first_value-rows found (name_of c.args.argument)
    ∙ (ap (first_of (name_of c.args.argument)) rows ∙ text_found c.args.argument given plain)))
