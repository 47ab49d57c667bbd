use Rattle.std.proofs.Common.{rules, ◌≡◌, ◌∷◌, [], ◌++◌, length, ap, ◌∙◌, subst, slice_index_or, OnOk}
use Rattle.refute_rules.specs.declared.choices.Choice.{Choice}
use Rattle.refute_rules.specs.Choices.{berths_of}
use Rattle.deck_cases.specs.Berths.{first_berth}
use Rattle.berth_place.proofs.OptionLemmas.{berth_number}
use Rattle.berth_place.proofs.deciding.take_berth.Goals as goal

pub returns : goal.returns
returns c =
    let d = c.args.deck.now in
    let ships : length c.as_slice-2.result.now ≡ length d.ships = search rules in
    let told = c.berth_option-berth.ensures ∙ ap (λ n. slice_index_or (berths_of n c.args.ship) c.args.option first_berth) ships in
    subst (λ (choice : Choice). OnOk c.push.result (c.push.new.self ≡ c.args.case.now ++ choice ∷ [])) (berth_number d c.args.ship c.requires.ship c.args.option _ c.requires.option told) c.push.ensures.ok
