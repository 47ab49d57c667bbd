use Rattle.std.proofs.Common.{rules, ◌≡◌, ◌<◌, length, sym, ap, ◌∙◌, subst, arith, IfSome, IfNone, inl, inr}
use Rattle.std.proofs.lemmas.Bool.{cases_lt}
use Rattle.std.specs.declared.option.Option.{Option}
use Rattle.std.specs.List.{remove}
use Rattle.refute_rules.specs.Reasons.{AreSome}
use Rattle.chamber_place.specs.Placing.{PlaceRefutes}
use Rattle.chamber_place.specs.Parts.{part_of, IsRefutedPart}
use Rattle.chamber_place.specs.declared.shrinking.Part.{Part}
use Rattle.chamber_place.proofs.PartLemmas.{fewer-some, refuted-smaller}
use Rattle.chamber_place.proofs.shrinking.smaller_part.Goals as goal

pub refuted_part-requires-clause-some : goal.refuted_part-requires-clause-some
refuted_part-requires-clause-some c =
    let less : c.loop-number.number < length c.args.places.now = search rules in
    subst (AreSome c.args.deck.now) (sym c.without.ensures) (fewer-some c.args.deck.now c.args.places.now c.loop-number.number c.requires.some c.requires.two less)

pub returns-in-Some-clause-some : goal.returns-in-Some-clause-some
returns-in-Some-clause-some c =
    let less : c.loop-number.number < length c.args.places.now = search rules in
    let P : Option Part → Type 0 = λ found. IfSome found (λ (part : Part). IsRefutedPart c.args.deck.now c.args.turns c.without.result part.places part.refutation) in
    refuted-smaller c.args.deck.now c.args.turns c.args.places.now c.without.result c.in-Some.part.places c.in-Some.part.refutation c.loop-number.number less c.without.ensures (subst P c.in-Some.is c.in_ok-part.ensures.some)

pub loop-number-preserved : goal.loop-number-preserved
loop-number-preserved c =
    let D = c.args.deck.now in
    let P : Option Part → Type 0 = λ found. IfNone found (PlaceRefutes (part_of D c.without.result) c.args.turns → ⊥) in
    let here = subst P c.in_default.is c.in_ok-part.ensures.none in
    λ k h. elim (cases_lt k c.loop-number.number) [
      | inl l ↦ c.loop-number.invariant k l
      | inr m ↦ λ refutes. here (subst (λ places. PlaceRefutes (part_of D places) c.args.turns) (ap (remove c.args.places.now) (let e : k ≡ c.loop-number.number = omega (arith, h, m) in e) ∙ sym c.without.ensures) refutes)
    ]
