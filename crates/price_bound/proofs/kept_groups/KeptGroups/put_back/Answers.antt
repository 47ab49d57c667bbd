use Rattle.std.proofs.Common.{[], ◌∷◌, ◌++◌, All, cond, true, false, sym, subst}
use Rattle.std.specs.Prelude.{is_ok}
use Rattle.std.proofs.lemmas.List.Elements.{All-push}
use Rattle.price_bound.specs.declared.kept_groups.ChamberGroups.{ChamberGroups}
use Rattle.price_bound.specs.KeptGroups.{AreGroupsFor}
use Rattle.price_bound.proofs.kept_groups.KeptGroups.put_back.Goals as goal

pub returns-clause-keeps : goal.returns-clause-keeps
returns-clause-keeps c = λ I k cuts stocks right.
    let is : ChamberGroups → Type 0 = AreGroupsFor I k cuts c.args.self.now.ceilings in
    let all = c.args.self.now.chambers.items in
    subst (All is) (sym c.push.ensures.items) (elim (is_ok c.push.result) as (λ b. All is (cond b (all ++ c.args.own ∷ []) all)) [
      | true ↦ All-push is all c.args.own stocks right
      | false ↦ stocks
    ])
