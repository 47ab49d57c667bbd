use Rattle.std.proofs.Common.{◌≡◌, ◌∙◌, true, false, is_some, option_map, sym, ap, refl}
use Rattle.command_words.specs.Given.{is_given}
use Rattle.command_words.specs.declared.arguments.Argument.TheVariants.{Now}
use Rattle.command_words.proofs.RestGiven.{now_is, lived_each, lived_none, known_each, known_none}
use Rattle.command_words.proofs.options.day_rest.Goals as goal

pub returns-in_err-number_of-in-Some-clause-each : goal.returns-in_err-number_of-in-Some-clause-each
returns-in_err-number_of-in-Some-clause-each c given r finds gives =
    let is : is_given Now given ≡ true = now_is given true (ap is_some (sym (c.text_of.ensures given finds refl)) ∙ ap (λ o. is_some (option_map (λ t. t.now) o)) c.in-Some.is) in
    c.from_residual.ensures ∙ lived_none given c.number_of.result is (λ n. c.number_of.ensures.each given n finds) r gives c.in_err-number_of-in-Some.was

pub returns-in_err-number_of-in-None-clause-each : goal.returns-in_err-number_of-in-None-clause-each
returns-in_err-number_of-in-None-clause-each c given r finds gives =
    let is : is_given Now given ≡ false = now_is given false (ap is_some (sym (c.text_of.ensures given finds refl)) ∙ ap (λ o. is_some (option_map (λ t. t.now) o)) c.in-None.is) in
    c.from_residual-in_err-number_of-in-None.ensures ∙ known_none given c.number_of-in-None.result is (λ n. c.number_of-in-None.ensures.each given n finds) r gives c.in_err-number_of-in-None.was

pub returns-in_ok-number_of-in-Some-clause-some : goal.returns-in_ok-number_of-in-Some-clause-some
returns-in_ok-number_of-in-Some-clause-some c given finds = (
  now_is given true (ap is_some (sym (c.text_of.ensures given finds refl)) ∙ ap (λ o. is_some (option_map (λ t. t.now) o)) c.in-Some.is),
  c.in_ok-number_of-in-Some.ensures.some given finds,
)

pub returns-in_ok-number_of-in-Some-clause-each : goal.returns-in_ok-number_of-in-Some-clause-each
returns-in_ok-number_of-in-Some-clause-each c given r finds gives =
    let is : is_given Now given ≡ true = now_is given true (ap is_some (sym (c.text_of.ensures given finds refl)) ∙ ap (λ o. is_some (option_map (λ t. t.now) o)) c.in-Some.is) in
    lived_each given c.number_of.result is (λ n. c.number_of.ensures.each given n finds) r gives c.in_ok-number_of-in-Some.field-0 c.in_ok-number_of-in-Some.was

pub returns-in_ok-number_of-in-None-clause-some : goal.returns-in_ok-number_of-in-None-clause-some
returns-in_ok-number_of-in-None-clause-some c given finds = (
  now_is given false (ap is_some (sym (c.text_of.ensures given finds refl)) ∙ ap (λ o. is_some (option_map (λ t. t.now) o)) c.in-None.is),
  c.in_ok-number_of-in-None.ensures.some given finds,
)

pub returns-in_ok-number_of-in-None-clause-each : goal.returns-in_ok-number_of-in-None-clause-each
returns-in_ok-number_of-in-None-clause-each c given r finds gives =
    let is : is_given Now given ≡ false = now_is given false (ap is_some (sym (c.text_of.ensures given finds refl)) ∙ ap (λ o. is_some (option_map (λ t. t.now) o)) c.in-None.is) in
    known_each given c.number_of-in-None.result is (λ n. c.number_of-in-None.ensures.each given n finds) r gives c.in_ok-number_of-in-None.field-0 c.in_ok-number_of-in-None.was
