use Rattle.std.proofs.Common.{◌∙◌, [], ap, subst, arith}
use Rattle.cert_text.specs.Plans.{lockage_data, lockage_in}
use Rattle.cert_text.proofs.FieldLemmas.{all_back, ReadsBack}
use Rattle.cert_text.proofs.ValueLemmas.{one_more, next_too}
use Rattle.cert_text.proofs.plan.put_all.Goals as goal

pub returns-clause-reads_back : goal.returns-clause-reads_back
returns-clause-reads_back c =
    let over = c.loop-lockage-test.false in
    all_back lockage_data lockage_in c.args.lockages.now (λ k d low. c.loop-lockage.invariant.back k d (omega arith))

pub loop-lockage-preserved : goal.loop-lockage-preserved
loop-lockage-preserved c =
    let own = c.lockage-item.result in
    let i = c.loop-lockage.lockage-index in
    let low = c.loop-lockage-test.true in
    let back : ReadsBack lockage_data lockage_in own = record { same = c.in_ok-put_lockage.ensures.reads_back } in
    record {
      values = one_more lockage_data c.args.lockages.now c.loop-lockage.list.items c.push.new.self.items c.in_ok-put_lockage.field-0 [] i own
          low c.in_ok-push.ensures.items (c.in_ok-put_lockage.ensures.value ∙ ap lockage_data c.lockage-item.is) c.loop-lockage.invariant.values;
      back = next_too (ReadsBack lockage_data lockage_in) c.args.lockages.now i own low (subst (ReadsBack lockage_data lockage_in) c.lockage-item.is back) c.loop-lockage.invariant.back;
    }
