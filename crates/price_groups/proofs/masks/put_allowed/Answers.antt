use Rattle.std.proofs.Common.{◌+◌, sym, subst}
use Rattle.std.proofs.lemmas.Result.{on_ok_weaker}
use Rattle.price_groups.specs.Masks.{AreAllowed}
use Rattle.price_groups.proofs.MaskLemmas.{allowed-more}
use Rattle.price_groups.proofs.masks.put_allowed.Goals as goal

pub returns-then-ship-last : goal.returns-then-ship-last
returns-then-ship-last c =
    let case = c.args.case.now in
    on_ok_weaker c.append.result (λ pushed.
    subst (AreAllowed case.instance.now case.depth c.args.last (c.args.ship + 1)) (sym pushed)
    (allowed-more case.instance.now case.depth c.args.last c.args.ship c.args.ships.now.items c.requires.few c.requires.before)) c.append.ensures
