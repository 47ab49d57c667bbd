use Rattle.std.proofs.Common.{sym, subst}
use Rattle.std.proofs.lemmas.Result.{on_ok_weaker}
use Rattle.price_groups.specs.Asked.{line_asked}
use Rattle.price_successors.specs.Enough.{HasOne}
use Rattle.price_successors.proofs.SuccessorLemmas.{one-pushed}
use Rattle.price_successors.proofs.dominance.add.Goals as goal

pub returns : goal.returns
returns c =
    let I = c.args.case.now.instance.now in
    on_ok_weaker c.append.result (λ pushed.
    subst (HasOne (line_asked c.args.case.now) c.args.successor c.args.successors.now.items) (sym pushed)
    (one-pushed (line_asked c.args.case.now) c.args.successors.now.items c.args.successor c.requires.each c.requires.is)) c.append.ensures
