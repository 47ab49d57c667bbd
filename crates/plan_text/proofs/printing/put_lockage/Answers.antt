use Rattle.std.proofs.Common.{refl}
use Rattle.std.proofs.lemmas.Result.{IfOk-equal}
use Rattle.plan_text.proofs.PrintLemmas.{lockage_is}
use Rattle.plan_text.proofs.printing.put_lockage.Goals as goal

pub returns : goal.returns
returns c = IfOk-equal c.put_berths.result _ _ _ c.put_berths.ensures
    (lockage_is c.args.instance.now c.args.lockage.now c.args.out.now.items c.put_head.new.out.items _ c.as_slice.result.now c.as_slice-2.result.now c.as_slice.ensures.value c.as_slice-2.ensures.value c.in_ok-put_head.ensures refl)
