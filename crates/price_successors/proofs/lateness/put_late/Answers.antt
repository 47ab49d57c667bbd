use Rattle.std.proofs.Common.{◌++◌, [], ◌∷◌, sym, ap, ◌∙◌, subst}
use Rattle.std.proofs.lemmas.Result.{on_ok_weaker}
use Rattle.price_groups.specs.Asked.{line_asked}
use Rattle.price_successors.specs.Dominance.{HasLate}
use Rattle.price_successors.proofs.LateLemmas.{late-itself}
use Rattle.price_successors.proofs.lateness.put_late.Goals as goal

pub returns : goal.returns
returns c =
    let case = c.args.case.now in
    let I = case.instance.now in
    let successor = c.args.successor.now in
    let old = c.args.lates.now.items in
    on_ok_weaker c.append.result (λ pushed. subst (HasLate (line_asked case) c.args.late successor old) (sym (pushed ∙ ap (λ h. old ++ h ∷ []) c.copy.ensures))
    (late-itself (line_asked case) c.args.late successor old)) c.append.ensures
