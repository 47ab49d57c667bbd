use Rattle.std.proofs.Common.{◌∙◌, sym, map, string_bytes}
use Rattle.command_words.specs.WordByWord.{given_of}
use Rattle.command_words.specs.declared.errors.WordsError.TheVariants.{Bad, NoMemory}
use Rattle.command_words.proofs.Whole.{accepted_is_good}
use Rattle.command_words.proofs.Meant.{given_meant, answers_meant, meant_answered, bad_answered}
use Rattle.command_words.proofs.reader.read_words.Goals as goal

pub returns-then-not-are_good-clause-each : goal.returns-then-not-are_good-clause-each
returns-then-not-are_good-clause-each c command means =
    let words = map string_bytes c.args.words.now in
    let good = (given_meant words command means).0 in
    let bad = c.are_good.ensures in
    let not_good = c.if-not-are_good.true in
    cc

pub returns-then-not-are_good-clause-bad : goal.returns-then-not-are_good-clause-bad
returns-then-not-are_good-clause-bad c err command means =
    let words = map string_bytes c.args.words.now in
    let good = (given_meant words command means).0 in
    let bad = c.are_good.ensures in
    let not_good = c.if-not-are_good.true in
    cc

pub returns-in-Ok-clause-bad : goal.returns-in-Ok-clause-bad
returns-in-Ok-clause-bad c =
    let words = map string_bytes c.args.words.now in
    bad_answered words c.command_of.result Bad c.ok_or.result c.ok_or.ensures.value (λ command. c.command_of.ensures.each (given_of words) command c.in-Ok.ensures.rows)

pub returns-in-Ok-clause-ok : goal.returns-in-Ok-clause-ok
returns-in-Ok-clause-ok c =
    let words = map string_bytes c.args.words.now in
    answers_meant words c.command_of.result Bad c.ok_or.result (sym c.are_good.ensures ∙ c.if-not-are_good.false) c.ok_or.ensures.value (c.command_of.ensures.some (given_of words) c.in-Ok.ensures.rows)

pub returns-in-Ok-clause-each : goal.returns-in-Ok-clause-each
returns-in-Ok-clause-each c =
    let words = map string_bytes c.args.words.now in
    meant_answered words c.command_of.result Bad NoMemory c.ok_or.result c.ok_or.ensures.value (λ command. c.command_of.ensures.each (given_of words) command c.in-Ok.ensures.rows)

pub returns-in-Ok-clause-early : goal.returns-in-Ok-clause-early
returns-in-Ok-clause-early c none = absurd (none (accepted_is_good (map string_bytes c.args.words.now) (sym c.are_good.ensures ∙ c.if-not-are_good.false)))

pub returns-clause-early : goal.returns-clause-early
returns-clause-early c none = absurd (none (accepted_is_good (map string_bytes c.args.words.now) (sym c.are_good.ensures ∙ c.if-not-are_good.false)))
