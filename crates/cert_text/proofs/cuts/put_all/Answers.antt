use Rattle.std.proofs.Common.{◌∙◌, [], ap, subst, arith}
use Rattle.cert_text.specs.Cuts.{cut_data, cut_in}
use Rattle.cert_text.proofs.FieldLemmas.{all_back, ReadsBack}
use Rattle.cert_text.proofs.ValueLemmas.{one_more, next_too}
use Rattle.cert_text.proofs.cuts.put_all.Goals as goal

pub returns-clause-reads_back : goal.returns-clause-reads_back
returns-clause-reads_back c =
    let over = c.loop-cut-test.false in
    all_back cut_data cut_in c.args.cuts.now (λ k d low. c.loop-cut.invariant.back k d (omega arith))

pub loop-cut-preserved : goal.loop-cut-preserved
loop-cut-preserved c =
    let own = c.cut-item.result in
    let i = c.loop-cut.cut-index in
    let low = c.loop-cut-test.true in
    let back : ReadsBack cut_data cut_in own = record { same = c.in_ok-put_cut.ensures.reads_back } in
    record {
      values = one_more cut_data c.args.cuts.now c.loop-cut.list.items c.push.new.self.items c.in_ok-put_cut.field-0 [] i own
          low c.in_ok-push.ensures.items (c.in_ok-put_cut.ensures.value ∙ ap cut_data c.cut-item.is) c.loop-cut.invariant.values;
      back = next_too (ReadsBack cut_data cut_in) c.args.cuts.now i own low (subst (ReadsBack cut_data cut_in) c.cut-item.is back) c.loop-cut.invariant.back;
    }
