use Rattle.std.proofs.Common.{◌≡◌, pos, ◌+ℤ◌, ◌≤ℤ◌, FitsSigned, to_z, of_z, w64, arith, rules, sym, subst}
use Rattle.std.proofs.lemmas.Int.{to_z-of_z}
use Rattle.price_groups.specs.Asked.{line_asked}
use Rattle.price_table.specs.Ends.{IsLeastBehind}
use Rattle.sweep_arcs.specs.Lanes.{gains_ask, IsGainAt}
use Rattle.sweep_arcs.proofs.GainLemmas.{gain-least}
use Rattle.sweep_arcs.proofs.gains.Gains.worked.Goals as goal

pub keep-requires-clause-gain : goal.keep-requires-clause-gain
keep-requires-clause-gain c =
    let ask = gains_ask c.args.self.now in
    let value = c.in_ok-least.field-0 in
    let gain = c.gain_of-gain.result in
    let fits : FitsSigned w64 value = search rules in
    let same : to_z w64 (of_z w64 value) ≡ value = grind (arith, to_z-of_z) in
    let least = subst (λ stand. IsLeastBehind ask stand c.args.minute value) c.stand_before.ensures c.in_ok-least.ensures.least in
    let high = subst (λ value. pos 0 ≤ℤ (value +ℤ pos gain)) same c.gain_of-gain.ensures in
    let own = gain-least ask c.requires.kept.root c.args.way c.args.minute gain value least high in
    subst (λ case. IsGainAt (line_asked case.now) c.args.way c.args.minute gain) (sym c.in_ok-least.ensures.same) own

pub returns-clause-gain : goal.returns-clause-gain
returns-clause-gain c =
    let ask = gains_ask c.args.self.now in
    let value = c.in_ok-least.field-0 in
    let gain = c.gain_of-gain.result in
    let fits : FitsSigned w64 value = search rules in
    let same : to_z w64 (of_z w64 value) ≡ value = grind (arith, to_z-of_z) in
    let least = subst (λ stand. IsLeastBehind ask stand c.args.minute value) c.stand_before.ensures c.in_ok-least.ensures.least in
    let high = subst (λ value. pos 0 ≤ℤ (value +ℤ pos gain)) same c.gain_of-gain.ensures in
    gain-least ask c.requires.kept.root c.args.way c.args.minute gain value least high
