use Rattle.cert_text.specs.Plans.{spot_in}
use Rattle.cert_text.proofs.ListLemmas.{read_more, count_more}
use Rattle.cert_text.proofs.spots.all_in.Goals as goal

pub loop-value-preserved : goal.loop-value-preserved
loop-value-preserved c =
    let l = c.loop-value in record {
      whole = read_more spot_in c.args.list.now l.spots l.value-index l.invariant.whole c.value-item.result _ c.push.new.self c.loop-value-test.true c.value-item.is c.in_ok-spot_in.ensures c.push.ensures;
      count = count_more l.spots c.push.new.self _ l.value-index l.invariant.count c.push.ensures;
    }
