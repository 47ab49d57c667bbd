use Rattle.std.proofs.Common.{sym, subst, Some}
use Rattle.std.proofs.lemmas.List.Elements.{All-nil}
use Rattle.price_bound.specs.Keeping.{IsKeptUnder, AreKeptUnder}
use Rattle.price_bound.specs.KeptGroups.{AreGroupsUnder}
use Rattle.price_bound.proofs.KeepLemmas.{stocks-on}
use Rattle.price_bound.proofs.keeping.KeptLines.go_under.Goals as goal

pub invariant_of-self : goal.invariant_of-self
invariant_of-self c =
    let case = c.args.case.now in
    let old = c.in-Some.terms in
    let new = c.go_on.new.self in
    let groups = c.self.inside.groups in
    record {
      lines_kept = subst (AreKeptUnder (Some new)) (sym c.clear.ensures.items) (All-nil (IsKeptUnder new));
      groups_kept = stocks-on case.instance.now case.depth case.cuts.now old new groups c.if-lead_to.ensures c.go_on.ensures.leads c.go_on.ensures.more (subst (λ t. AreGroupsUnder t groups) c.in-Some.is c.self.invariant.groups_kept);
    }
