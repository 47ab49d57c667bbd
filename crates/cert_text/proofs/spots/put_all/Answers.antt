use Rattle.std.proofs.Common.{arith, []}
use Rattle.cert_text.specs.Plans.{spot_data, spot_in}
use Rattle.cert_text.proofs.FieldLemmas.{all_back, ReadsBack}
use Rattle.cert_text.proofs.ValueLemmas.{one_more, next_too}
use Rattle.cert_text.proofs.spots.put_all.Goals as goal

pub returns-clause-reads_back : goal.returns-clause-reads_back
returns-clause-reads_back c =
    let over = c.loop-spot-test.false in
    all_back spot_data spot_in c.args.spots.now (λ k d low. c.loop-spot.invariant.back k d (omega arith))

pub loop-spot-preserved : goal.loop-spot-preserved
loop-spot-preserved c = record {
  values = one_more spot_data c.args.spots.now c.loop-spot.list.items c.push.new.self.items c.in_ok-put_spot.field-0 [] c.loop-spot.spot-index _
      c.loop-spot-test.true c.in_ok-push.ensures.items c.in_ok-put_spot.ensures.value c.loop-spot.invariant.values;
  back = next_too (ReadsBack spot_data spot_in) c.args.spots.now c.loop-spot.spot-index _ c.loop-spot-test.true (record { same = c.in_ok-put_spot.ensures.reads_back }) c.loop-spot.invariant.back;
}
