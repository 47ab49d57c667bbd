use Rattle.std.proofs.Common.{rules, ◌≡◌, length, ap, ◌∙◌, slice_index_or}
use Rattle.refute_rules.specs.Choices.{berths_of}
use Rattle.deck_cases.specs.Berths.{first_berth}
use Rattle.deck_cases.proofs.OptionLemmas.{berth_choice, moor_known}
use Rattle.deck_cases.proofs.options.berth_choice.Goals as goal

pub returns-clause-value : goal.returns-clause-value
returns-clause-value c =
    let d = c.args.deck.now in
    let ships : length c.as_slice.result.now ≡ length d.ships = search rules in
    let is = c.berth_option.ensures ∙ ap (λ n. slice_index_or (berths_of n c.args.ship) c.args.number first_berth) ships in
    berth_choice d c.args.ship c.args.number c.berth_option.result c.requires.ship c.requires.number is

pub returns-clause-known : goal.returns-clause-known
returns-clause-known c =
    let d = c.args.deck.now in
    let ships : length c.as_slice.result.now ≡ length d.ships = search rules in
    let is = c.berth_option.ensures ∙ ap (λ n. slice_index_or (berths_of n c.args.ship) c.args.number first_berth) ships in
    (c.requires.ship, moor_known d c.args.ship c.args.number c.berth_option.result c.requires.ship c.requires.number is)
