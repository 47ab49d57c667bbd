use Rattle.std.proofs.Common.{◌*◌, ◌↔◌, ℕ, ◌≤ℤ◌, ◌<ℤ◌, ◌+ℤ◌, pos, neg_ℤ, to_z, of_z, w64, IfSome, inl, inr, sym, subst, arith}
use Rattle.std.proofs.lemmas.Int.{ints}
use Rattle.price_terms.specs.Claim.{IsReached}
use Rattle.price_terms.specs.Cuts.{plain_cuts}
use Rattle.price_bound.specs.Asked.{node_asked, claimed}
use Rattle.price_bound.specs.Total.{IsNodeSum}
use Rattle.price_bound.proofs.TotalLemmas.{reaches-exact, sum-rounded}
use Rattle.price_bound.proofs.reaching.greatest_cost.Goals as goal

pub returns-in-Some : goal.returns-in-Some
returns-in-Some c =
    let asked = c.args.asked.now in
    let I = asked.instance.now in
    let cuts = plain_cuts I asked.cuts.now in
    let node = asked.node.now in
    let told = c.in_ok-price_sum.ensures in
    let sum = subst (IsNodeSum (node_asked asked)) c.in-Some.is told.value in
    let low = subst (λ o. IfSome o (λ v. neg_ℤ (pos 4000000000000000) ≤ℤ v)) c.in-Some.is told.low in
    let high = subst (λ o. IfSome o (λ v. v ≤ℤ pos 400000000000000)) c.in-Some.is told.high in
    let same = sum-rounded c.in-Some.sum low high in
    let exact : (cost : ℕ) → IsReached (claimed asked cost) ↔ (pos (100 * cost) <ℤ (to_z w64 (of_z w64 c.in-Some.sum) +ℤ pos 100)) = λ cost.
    subst (λ v. IsReached (claimed asked cost) ↔ (pos (100 * cost) <ℤ (v +ℤ pos 100))) (sym same) (reaches-exact I cuts node.depth node.lines asked.prices.now c.in-Some.sum cost sum) in
    record {
      low = omega (arith, c.min.ensures);
      known = elim c.cost_of.ensures.known [
        | inl none ↦ inl (omega (arith, c.min.ensures, none))
        | inr reached ↦ inr ((exact c.min.result).1 (omega (arith, ints, c.min.ensures, reached)))
      ];
      greatest = λ other less reached. omega (arith, c.min.ensures, less, c.cost_of.ensures.greatest other ((exact other).0 reached));
    }
