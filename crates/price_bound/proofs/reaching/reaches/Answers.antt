use Rattle.std.proofs.Common.{◌*◌, ◌+ℤ◌, ◌<ℤ◌, ◌≤ℤ◌, pos, neg_ℤ, IfSome, refl, sym, subst}
use Rattle.price_rules.proofs.ReachLemmas.{reached-without}
use Rattle.price_terms.specs.Cuts.{plain_cuts}
use Rattle.price_bound.specs.Asked.{node_asked}
use Rattle.price_bound.specs.Total.{IsNodeSum}
use Rattle.price_bound.proofs.TotalLemmas.{reaches-exact, sum-rounded}
use Rattle.price_bound.proofs.reaching.reaches.Goals as goal

pub returns-in-None : goal.returns-in-None
returns-in-None c =
    let asked = c.args.asked.now in
    let I = asked.instance.now in
    let cuts = plain_cuts I asked.cuts.now in
    let node = asked.node.now in
    let none = subst (IsNodeSum (node_asked asked)) c.in-None.is c.in_ok-price_sum.ensures.value in
    (λ told. reached-without I cuts node.depth node.lines asked.prices.now c.args.cost none.chamber none.known none.none, λ reached. refl)

pub returns-in-Some : goal.returns-in-Some
returns-in-Some c =
    let asked = c.args.asked.now in
    let I = asked.instance.now in
    let cuts = plain_cuts I asked.cuts.now in
    let node = asked.node.now in
    let told = c.in_ok-price_sum.ensures in
    let sum = subst (IsNodeSum (node_asked asked)) c.in-Some.is told.value in
    let low = subst (λ o. IfSome o (λ v. neg_ℤ (pos 4000000000000000) ≤ℤ v)) c.in-Some.is told.low in
    let high = subst (λ o. IfSome o (λ v. v ≤ℤ pos 400000000000000)) c.in-Some.is told.high in
    let exact = reaches-exact I cuts node.depth node.lines asked.prices.now c.in-Some.sum c.args.cost sum in
    let same = sum-rounded c.in-Some.sum low high in (
      λ h. exact.1 (subst (λ v. pos (100 * c.args.cost) <ℤ (v +ℤ pos 100)) same (c.is_high.ensures.0 h)),
      λ h. c.is_high.ensures.1 (subst (λ v. pos (100 * c.args.cost) <ℤ (v +ℤ pos 100)) (sym same) (exact.0 h)),
    )
