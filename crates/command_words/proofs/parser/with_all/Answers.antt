use Rattle.std.proofs.Common.{◌∙◌, ◌+◌, ap, sym, drop}
use Rattle.std.proofs.lemmas.List.{at_drop_more}
use Rattle.clap.specs.Words.{app_of}
use Rattle.command_words.specs.Parser.{with_all}
use Rattle.command_words.proofs.parser.with_all.Goals as goal

pub loop-option-preserved : goal.loop-option-preserved
loop-option-preserved c =
    let options = c.args.options.now in
    let i = c.loop-option.option-index in
    ap (λ app. with_all app (drop (i + 1) options)) c.in_ok-parser.ensures
    ∙ sym (at_drop_more (with_all (app_of c.loop-option.parser)) options i _ c.loop-option-test.true)
    ∙ c.loop-option.invariant
