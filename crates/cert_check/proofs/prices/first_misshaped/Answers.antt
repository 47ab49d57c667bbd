use Rattle.std.proofs.Common.{◌≡◌, ◌<◌, ◌∙◌, All, ap, length, sym, subst, refl}
use Rattle.std.proofs.lemmas.Bool.{false≢true}
use Rattle.std.proofs.lemmas.List.{take_all}
use Rattle.std.proofs.lemmas.List.Elements.{All-more}
use Rattle.price_rules.specs.declared.triple.Triple.{Triple}
use Rattle.closing_rules.specs.ListedPrices.{AreShapedPrices}
use Rattle.cert_check.proofs.prices.first_misshaped.Goals as goal

pub loop-number-preserved : goal.loop-number-preserved
loop-number-preserved c =
    let own = c.index-prices-number.result in
    let same : length c.as_slice-count.result.now ≡ length c.args.instance.now.ships = ap length c.as_slice-count.ensures.value in
    let told = c.are_of.ensures.0 c.if-not-are_of.false in
    let shaped : AreShapedPrices c.args.instance.now own = record { count = told.0 ∙ same; known = subst (λ n. All (λ (t : Triple). t.third < n) own.triples) same told.1 } in
    All-more (AreShapedPrices c.args.instance.now) c.args.prices.now c.loop-number.number own c.loop-number-test.true c.loop-number.invariant
    (subst (AreShapedPrices c.args.instance.now) c.index-prices-number.is shaped)

pub returns-then-not-are_of-clause-some : goal.returns-then-not-are_of-clause-some
returns-then-not-are_of-clause-some c =
    let own = c.index-prices-number.result in
    let same : length c.as_slice-count.result.now ≡ length c.args.instance.now.ships = ap length c.as_slice-count.ensures.value in
    record {
      own = own;
      known = c.loop-number-test.true;
      is = sym c.index-prices-number.is;
      before = c.loop-number.invariant;
      misshaped = λ shaped. false≢true (sym c.if-not-are_of.true ∙ c.are_of.ensures.1 (shaped.count ∙ sym same, subst (λ n. All (λ (t : Triple). t.third < n) own.triples) (sym same) shaped.known));
      reason = refl;
    }

pub returns-clause-none : goal.returns-clause-none
returns-clause-none c = subst (All (AreShapedPrices c.args.instance.now)) (take_all c.loop-number.number c.args.prices.now c.loop-number-test.false) c.loop-number.invariant
