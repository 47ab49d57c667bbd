use Rattle.std.proofs.Common.{◌<◌, length, rules, subst, arith}
use Rattle.refute_rules.specs.declared.choices.Decision.{Decision}
use Rattle.refute_rules.specs.Choices.{options_of}
use Rattle.deck_cases.proofs.OptionLemmas.{berth_count}
use Rattle.deck_cases.proofs.options.option_at.Goals as goal

pub berth_choice-requires-clause-number : goal.berth_choice-requires-clause-number
berth_choice-requires-clause-number c =
    let known : c.in-BerthOf.ship < length c.args.deck.now.ships = search rules in
    let has : Decision → Type 0 = λ asked. c.args.number < length (options_of c.args.deck.now asked) in
    let less = subst has c.in-BerthOf.is c.requires.number in
    omega (arith, less, berth_count c.args.deck.now c.in-BerthOf.ship known)
