use Rattle.std.proofs.Common.{◌∙◌, ap}
use Rattle.clap.specs.Words.{found_of}
use Rattle.clap.specs.Matches.{one_text}
use Rattle.clap.specs.Walk.{one_of}
use Rattle.clap.proofs.WalkLemmas.{one_text-rows}
use Rattle.command_words.specs.Names.{name_of}
use Rattle.command_words.specs.Given.{is_given}
use Rattle.command_words.proofs.Taken.{flag_found, flag_reads}
use Rattle.command_words.proofs.parser.has_flag.Goals as goal

pub returns : goal.returns
returns c given rows flag =
    let found = found_of c.args.matches.now in
    flag_reads c.get_flag.result (is_given c.args.flag given) _ c.get_flag.ensures.value c.get_flag.ensures.other
    (ap (one_text found) c.name.ensures ∙ (one_text-rows found (name_of c.args.flag)
    ∙ (ap (one_of (name_of c.args.flag)) rows ∙ flag_found c.args.flag given flag)))
