use Rattle.std.proofs.Common.{◌≡◌, ◌+◌, ◌<◌, ◌∷◌, ◌++◌, [], All, length, ap, sym, ◌∙◌, subst, arith}
use Rattle.lock_rules.specs.Arrival.{numbers_from}
use Rattle.lock_rules.proofs.LineLemmas.{length-numbers, numbers_more}
use Rattle.chamber_place.proofs.PartLemmas.{numbers-below}
use Rattle.chamber_place.proofs.parts.all_places.Goals as goal

pub push-requires-clause-room : goal.push-requires-clause-room
push-requires-clause-room c =
    let l = ap length c.loop-place.invariant in
    let n = length-numbers 0 c.loop-place.place in
    omega (arith, l, n)

pub push-requires-clause-rising : goal.push-requires-clause-rising
push-requires-clause-rising c = subst (All (λ s. s < c.loop-place.place)) (sym c.loop-place.invariant) (numbers-below c.loop-place.place)

pub loop-place-preserved : goal.loop-place-preserved
loop-place-preserved c =
    let zero : 0 + c.loop-place.place ≡ c.loop-place.place = omega arith in
    c.push.ensures ∙ ap (λ ps. ps ++ c.loop-place.place ∷ []) c.loop-place.invariant ∙ sym (numbers_more 0 c.loop-place.place ∙ ap (λ n. numbers_from 0 c.loop-place.place ++ n ∷ []) zero)
