use Rattle.std.proofs.Common.{All, sym, subst}
use Rattle.price_groups.specs.Asks.{group_ask}
use Rattle.price_groups.specs.GrownLists.{IsGrownList}
use Rattle.price_bound.proofs.kept_groups.least_of.Goals as goal

pub least_line-requires-clause-lists : goal.least_line-requires-clause-lists
least_line-requires-clause-lists c =
    let I = c.args.case.now.instance.now in
    let k = c.args.case.now.depth in
    let own = c.args.own.now in
    let ceilings = c.args.ceilings.now in
    subst (λ d. All (IsGrownList (group_ask I d k ceilings c.deref.result.now)) own.lists.items) c.requires.chamber
    (subst (λ sets. All (IsGrownList (group_ask I own.chamber k ceilings sets)) own.lists.items) (sym c.deref.ensures.value) c.requires.right.lists)

pub returns-clause-right : goal.returns-clause-right
returns-clause-right c =
    let I = c.args.case.now.instance.now in
    let k = c.args.case.now.depth in
    let own = c.args.own.now in
    let ceilings = c.args.ceilings.now in
    let right = c.requires.right in
    record {
      seen = right.seen;
      forbidden = right.forbidden;
      completable = right.completable;
      lists =
          subst (λ sets. All (IsGrownList (group_ask I own.chamber k ceilings sets)) c.least_line.new.lists.items) c.deref.ensures.value
          (subst (λ d. All (IsGrownList (group_ask I d k ceilings c.deref.result.now)) c.least_line.new.lists.items) (sym c.requires.chamber) c.least_line.ensures.lists);
    }
