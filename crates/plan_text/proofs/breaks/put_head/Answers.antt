use Rattle.std.proofs.Common.{◌+◌, ◌++◌, ap, ◌∙◌, codes, append_assoc}
use Rattle.std.specs.Prelude.{decimal}
use Rattle.std.proofs.lemmas.Result.{IfOk-equal}
use Rattle.plan_text.specs.BreakTexts.{lockage_head}
use Rattle.plan_text.proofs.breaks.put_head.Goals as goal

pub returns : goal.returns
unfolding lockage_head
returns c =
    let head = codes "illegal lockage " ++ decimal (c.args.place + 1) in
    IfOk-equal c.put.result _ _ _ c.put.ensures
    (ap (λ t. t ++ codes " ") c.in_ok-put_named.ensures ∙ append_assoc c.args.out.now.items head (codes " "))
