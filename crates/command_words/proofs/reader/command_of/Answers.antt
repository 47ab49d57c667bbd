use Rattle.std.proofs.Common.{◌≡◌, ◌∙◌, Some, sym, ap, refl, option_map}
use Rattle.std.specs.Prelude.{unwrap_or}
use Rattle.command_words.specs.Names.{command_named}
use Rattle.command_words.specs.Meaning.{name_of_command}
use Rattle.command_words.proofs.Meant.{name_found, word_found, gives_found}
use Rattle.command_words.proofs.reader.command_of.Goals as goal

pub returns-in_err-name-clause-each : goal.returns-in_err-name-clause-each
returns-in_err-name-clause-each c given command rows gives =
    let text = ap (option_map (λ t. t.now)) (sym c.in_ok-word.was) ∙ (c.text_of.ensures given rows refl ∙ gives.word) in
    let some = name_found (name_of_command command) c.in_ok-word.word.now c.command_named.result (c.command_named.ensures ∙ ap command_named c.as_bytes.ensures.value) text in
    let none = c.in_err-name.was in
    cc

pub returns-clause-some : goal.returns-clause-some
returns-clause-some c given rows =
    let text = ap (option_map (λ t. t.now)) (sym c.in_ok-word.was) ∙ c.text_of.ensures given rows refl in
    let named = sym c.in_ok-name.was ∙ (c.command_named.ensures ∙ ap command_named c.as_bytes.ensures.value) in
    gives_found c.with_options.result given c.in_ok-name.name (Some c.in_ok-word.word.now) (sym text) (word_found c.in_ok-name.name c.in_ok-word.word.now named)
    c.with_options.ensures.name (c.with_options.ensures.some given rows)

pub returns-clause-each : goal.returns-clause-each
returns-clause-each c given command rows gives =
    let text = ap (option_map (λ t. t.now)) (sym c.in_ok-word.was) ∙ (c.text_of.ensures given rows refl ∙ gives.word) in
    let some = name_found (name_of_command command) c.in_ok-word.word.now c.command_named.result (c.command_named.ensures ∙ ap command_named c.as_bytes.ensures.value) text in
    let same : name_of_command command ≡ c.in_ok-name.name = ap (λ o. unwrap_or o c.in_ok-name.name) (sym some ∙ c.in_ok-name.was) in
    c.with_options.ensures.each given command rows same gives.options
