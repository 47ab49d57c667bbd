use Rattle.std.proofs.Common.{rules, subst, sym, ◌∙◌, ◌≡◌, ◌≤ℤ◌, pos, Some, IsSome, ℤ, ℕ, arith}
use Rattle.std.proofs.lemmas.Int.{ints}
use Rattle.std.proofs.lemmas.Option.{same_Some}
use Rattle.std.specs.declared.option.Option.{Option}
use Rattle.refute_rules.specs.Known.{y_in}
use Rattle.spot_place.specs.SpotCase.{case_on}
use Rattle.spot_place.proofs.SpotLemmas.{whole-y}
use Rattle.spot_place.proofs.spot_case.SpotCase.y_of.Goals as goal

pub unwrap-requires : goal.unwrap-requires
unwrap-requires c =
    let y = whole-y c.args.self.now c.requires.way c.requires.whole c.args.ship c.requires.ship in
    subst (λ (o : Option ℤ). IsSome o) (sym (c.height.ensures ∙ y.1)) (search rules)

is : (c : goal.After-unwrap) → (n : ℕ) × (c.unwrap.result ≡ pos n)
is c =
    let y = whole-y c.args.self.now c.requires.way c.requires.whole c.args.ship c.requires.ship in
    (y.0, same_Some _ _ (sym c.unwrap.ensures ∙ c.height.ensures ∙ y.1))

low : (c : goal.After-unwrap) → pos 0 ≤ℤ c.unwrap.result
low c = subst (λ (z : ℤ). pos 0 ≤ℤ z) (sym (is c).1) (omega (arith, ints))

pub overflow_cast-result : goal.overflow_cast-result
overflow_cast-result c = let from = low c in search rules

pub returns : goal.returns
returns c =
    let from = low c in
    let told : y_in c.args.self.now.deck (case_on c.args.self.now) c.args.ship ≡ Some c.unwrap.result = sym c.height.ensures ∙ c.unwrap.ensures in
    search rules
