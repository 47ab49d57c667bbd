use Rattle.std.proofs.Common.{◌∙◌, ap, map, string_bytes}
use Rattle.std.proofs.lemmas.Result.{IfOk-weaker, IfErr-weaker}
use Rattle.clap.specs.Words.{is_simple, takes, matches_of}
use Rattle.command_words.proofs.Taken.{good_words_taken}
use Rattle.command_words.proofs.parser.matches_of_words.Goals as goal

pub returns-clause-rows : goal.returns-clause-rows
returns-clause-rows c =
    let words = map string_bytes c.args.words.now in
    let app = c.in_ok-command.ensures in
    let taken = good_words_taken words c.requires in
    IfOk-weaker c.try_get_matches_from.result _ _ (λ m h. (h (ap is_simple app ∙ taken.1)).0 ∙ (ap (λ a. matches_of a words) app ∙ taken.2)) c.try_get_matches_from.ensures.matches

pub returns-clause-memory : goal.returns-clause-memory
returns-clause-memory c =
    let words = map string_bytes c.args.words.now in
    let app = c.in_ok-command.ensures in
    let taken = good_words_taken words c.requires in
    IfErr-weaker c.try_get_matches_from.result _ _ (λ e h. h (ap (λ a. takes a words) app ∙ taken.0)) c.try_get_matches_from.ensures.passes
