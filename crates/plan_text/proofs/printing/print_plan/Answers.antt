use Rattle.std.proofs.Common.{subst, sym, All}
use Rattle.plan_text.specs.Reading.{IsPlanText}
use Rattle.plan_text.specs.Writable.{IsWritable}
use Rattle.plan_text.proofs.BackLemmas.{text_back}
use Rattle.plan_text.proofs.PrintLemmas.{printed}
use Rattle.plan_text.proofs.WritableLemmas.{written}
use Rattle.plan_text.proofs.printing.print_plan.Goals as goal

pub put_lockages-requires : goal.put_lockages-requires
put_lockages-requires c = subst (All (IsWritable c.args.instance.now)) (sym c.as_slice.ensures.value) (written c.args.instance.now c.args.plan.now c.requires).each

pub returns-clause-text : goal.returns-clause-text
returns-clause-text c =
    printed c.args.instance.now c.args.plan.now c.as_slice.result.now c.new-out.result.items c.put.new.out.items c.put_lockages.new.out.items c.put-2.new.out.items
    c.as_slice.ensures.value c.new-out.ensures.items c.in_ok-put.ensures c.in_ok-put_lockages.ensures c.in_ok-put-2.ensures

pub returns-clause-reads_back : goal.returns-clause-reads_back
returns-clause-reads_back c =
    subst (λ text. IsPlanText c.args.instance.now text c.args.plan.now) (sym (printed c.args.instance.now c.args.plan.now c.as_slice.result.now c.new-out.result.items c.put.new.out.items c.put_lockages.new.out.items c.put-2.new.out.items
    c.as_slice.ensures.value c.new-out.ensures.items c.in_ok-put.ensures c.in_ok-put_lockages.ensures c.in_ok-put-2.ensures))
    (text_back c.args.instance.now c.args.plan.now (written c.args.instance.now c.args.plan.now c.requires))
