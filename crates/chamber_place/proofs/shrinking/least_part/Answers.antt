use Rattle.std.proofs.Common.{◌<◌, ℕ, length, subst, IfSome, IfNone}
use Rattle.std.specs.declared.option.Option.{Option}
use Rattle.std.specs.List.{remove}
use Rattle.chamber_place.specs.Placing.{PlaceRefutes}
use Rattle.chamber_place.specs.Parts.{part_of, IsSmallerPart}
use Rattle.chamber_place.specs.declared.shrinking.Part.{Part}
use Rattle.chamber_place.proofs.PartLemmas.{smaller-again, part-least}
use Rattle.chamber_place.proofs.shrinking.least_part.Goals as goal

pub loop-alloc-preserved : goal.loop-alloc-preserved
loop-alloc-preserved c =
    let d = c.args.deck.now in
    let before = c.loop-alloc.least.places in
    let P : Option Part → Type 0 = λ found. IfSome found (λ (part : Part). IsSmallerPart d c.args.turns before part.places part.refutation) in
    let found = subst P c.in-Some.is c.in_ok-smaller.ensures.some in
    record {
      part = found.part;
      smaller = smaller-again d c.args.turns c.args.part.places before c.in-Some.smaller.places c.loop-alloc.invariant.smaller found.smaller;
    }

pub returns-in-None-clause-least : goal.returns-in-None-clause-least
returns-in-None-clause-least c =
    let d = c.args.deck.now in
    let places = c.loop-alloc.least.places in
    let P : Option Part → Type 0 = λ found. IfNone found ((k : ℕ) → k < length places → PlaceRefutes (part_of d (remove places k)) c.args.turns → ⊥) in
    part-least d places c.args.turns (subst P c.in-None.is c.in_ok-smaller.ensures.none)
