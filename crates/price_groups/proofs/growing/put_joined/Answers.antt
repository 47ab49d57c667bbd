use Rattle.std.proofs.Common.{◌++◌, [], ◌∷◌, sym, subst}
use Rattle.std.proofs.lemmas.Result.{on_ok_weaker}
use Rattle.price_groups.specs.Sums.{AreWeighed}
use Rattle.price_groups.proofs.WeighLemmas.{weighed-more}
use Rattle.price_groups.proofs.growing.put_joined.Goals as goal

pub returns-clause-weighed : goal.returns-clause-weighed
returns-clause-weighed c =
    let case = c.args.extension.now.case.now in
    let I = case.instance.now in
    on_ok_weaker c.append-2.result (λ pushed.
    subst (AreWeighed I case.index c.append.new.list.items) (sym pushed)
    (subst (λ gs. AreWeighed I case.index gs (c.args.sums.now.items ++ c.args.own ∷ [])) (sym c.in_ok-append.ensures)
    (weighed-more I case.index c.args.groups.now.items c.args.sums.now.items c.args.group c.args.own c.requires.own c.requires.weighed))) c.append-2.ensures
