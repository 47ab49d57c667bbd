use Rattle.std.proofs.Common.{◌∙◌, sym, map, string_bytes}
use Rattle.command_words.proofs.Taken.{good_words_taken}
use Rattle.command_words.proofs.Whole.{good_is_accepted, accepted_is_good}
use Rattle.command_words.proofs.judge.good_words.Goals as goal

pub returns-clause-good : goal.returns-clause-good
returns-clause-good c =
    let words = map string_bytes c.args.words.now in
    (λ e. accepted_is_good words (sym c.are_good.ensures ∙ e), λ good. c.are_good.ensures ∙ (good_is_accepted words good).0)

pub returns-clause-taken : goal.returns-clause-taken
returns-clause-taken c e = (good_words_taken (map string_bytes c.args.words.now) (sym c.are_good.ensures ∙ e)).0
