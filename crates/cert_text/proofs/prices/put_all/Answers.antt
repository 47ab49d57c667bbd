use Rattle.std.proofs.Common.{◌∙◌, [], ap, subst, arith}
use Rattle.cert_text.specs.Prices.{prices_data}
use Rattle.cert_text.proofs.PriceLemmas.{lists_back, HasTriplesBack, back_of, data_of}
use Rattle.cert_text.proofs.ValueLemmas.{one_more, next_too}
use Rattle.cert_text.proofs.prices.put_all.Goals as goal

pub returns-clause-reads_back : goal.returns-clause-reads_back
returns-clause-reads_back c =
    let over = c.loop-own-test.false in
    lists_back c.args.prices.now (λ k d low. c.loop-own.invariant.back k d (omega arith))

pub loop-own-preserved : goal.loop-own-preserved
loop-own-preserved c =
    let own = c.own-item.result in
    let i = c.loop-own.own-index in
    let low = c.loop-own-test.true in
    let back : HasTriplesBack own = back_of own c.triples.result.now c.triples.ensures.value c.in_ok-put_one.ensures.reads_back in
    record {
      values = one_more prices_data c.args.prices.now c.loop-own.list.items c.push.new.self.items c.in_ok-put_one.field-0 [] i own
          low c.in_ok-push.ensures.items (c.in_ok-put_one.ensures.value ∙ data_of own c.ships.result.now c.triples.result.now c.ships.ensures.value c.triples.ensures.value ∙ ap prices_data c.own-item.is) c.loop-own.invariant.values;
      back = next_too HasTriplesBack c.args.prices.now i own low (subst HasTriplesBack c.own-item.is back) c.loop-own.invariant.back;
    }
