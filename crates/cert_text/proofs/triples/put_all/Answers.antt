use Rattle.std.proofs.Common.{arith, []}
use Rattle.cert_text.specs.Triples.{triple_data, triple_in}
use Rattle.cert_text.proofs.FieldLemmas.{all_back, ReadsBack}
use Rattle.cert_text.proofs.ValueLemmas.{one_more, next_too}
use Rattle.cert_text.proofs.triples.put_all.Goals as goal

pub returns-clause-reads_back : goal.returns-clause-reads_back
returns-clause-reads_back c =
    let over = c.loop-triple-test.false in
    all_back triple_data triple_in c.args.triples.now (λ k d low. c.loop-triple.invariant.back k d (omega arith))

pub loop-triple-preserved : goal.loop-triple-preserved
loop-triple-preserved c = record {
  values = one_more triple_data c.args.triples.now c.loop-triple.list.items c.push.new.self.items c.in_ok-put_triple.field-0 [] c.loop-triple.triple-index _
      c.loop-triple-test.true c.in_ok-push.ensures.items c.in_ok-put_triple.ensures.value c.loop-triple.invariant.values;
  back = next_too (ReadsBack triple_data triple_in) c.args.triples.now c.loop-triple.triple-index _ c.loop-triple-test.true (record { same = c.in_ok-put_triple.ensures.reads_back }) c.loop-triple.invariant.back;
}
