use Rattle.std.proofs.Common.{◌≡◌, ◌++◌, length, take, drop, All, sym, ap, ◌∙◌, subst, arith, rules}
use Rattle.std.proofs.lemmas.List.{map-append, take_all, take-append-drop}
use Rattle.price_terms.specs.Cuts.{plain_cut, plain_cuts}
use Rattle.price_groups.specs.Asks.{group_ask}
use Rattle.price_groups.specs.GrownLists.{IsGrownList}
use Rattle.price_groups.specs.Masks.{AreMarks, AreAllCompletable}
use Rattle.price_groups.specs.Sparing.{AreForbidden}
use Rattle.price_bound.specs.KeptGroups.{AreSparedLists}
use Rattle.price_bound.proofs.SparedLemmas.{forbidden-both, spared-all}
use Rattle.price_bound.proofs.kept_groups.update.Goals as goal

pub returns-clause-right : goal.returns-clause-right
returns-clause-right c = λ ceilings right.
    let I = c.args.case.now.instance.now in
    let k = c.args.case.now.depth in
    let cuts = c.args.case.now.cuts.now in
    let own = c.args.own.now in
    let chamber = own.chamber in
    let added = c.in_ok-added.added.items in
    let masks = c.in_ok-masks.masks.items in
    let other = c.after.result in
    let later : AreForbidden I chamber (plain_cuts I (drop own.seen cuts)) added =
    subst (λ J. AreForbidden J chamber (plain_cuts J (drop own.seen cuts)) added) c.after.ensures.instance
    (subst (λ d. AreForbidden other.instance.now d (plain_cuts other.instance.now (drop own.seen cuts)) added) (c.after.ensures.chamber ∙ sym c.requires.chamber)
    (subst (λ cs. AreForbidden other.instance.now other.index (plain_cuts other.instance.now cs) added) c.after.ensures.cuts c.in_ok-added.ensures)) in
    let put : c.deref-4.result.now ≡ added = search rules in
    let sets : c.append_sets.new.sets.items ≡ own.sets.items ++ added = c.in_ok-append_sets.ensures ∙ ap (λ more. own.sets.items ++ more) put in
    let all : plain_cuts I (take own.seen cuts) ++ plain_cuts I (drop own.seen cuts) ≡ plain_cuts I (take (length cuts) cuts) =
    sym (map-append (plain_cut I) (take own.seen cuts) (drop own.seen cuts)) ∙ ap (plain_cuts I) (take-append-drop own.seen cuts ∙ sym (take_all (length cuts) cuts (omega arith))) in
    let both = forbidden-both I chamber (plain_cuts I (take own.seen cuts)) (plain_cuts I (drop own.seen cuts)) own.sets.items added right.forbidden later in
    let marked : c.deref.result.now ≡ added = search rules in
    let marks = subst (λ added. AreMarks I added (length added) masks) marked c.in_ok-masks.ensures in
    let listed : c.deref-2.result.now ≡ own.lists.items = search rules in
    let apart : c.deref-3.result.now ≡ masks = search rules in
    let spared = subst (λ masks. AreSparedLists masks own.lists.items (length own.lists.items) c.in_ok-own.field-0.items) apart (subst (λ lists. AreSparedLists c.deref-3.result.now lists (length lists) c.in_ok-own.field-0.items) listed c.in_ok-own.ensures) in
    let held : c.deref-5.result.now ≡ c.append_sets.new.sets.items = search rules in
    record {
      seen = omega arith;
      forbidden = subst (AreForbidden I chamber (plain_cuts I (take (length cuts) cuts))) (sym sets) (subst (λ cs. AreForbidden I chamber cs (own.sets.items ++ added)) all both);
      completable = subst (λ sets. AreAllCompletable I k sets (length I.ships) c.in_ok-own-2.field-0.items) held c.in_ok-own-2.ensures;
      lists =
          subst (λ sets. All (IsGrownList (group_ask I chamber k ceilings sets)) c.in_ok-own.field-0.items) (sym sets)
          (spared-all I chamber k ceilings own.sets.items added masks own.lists.items c.in_ok-own.field-0.items I.limits.ship_count.1 marks spared right.lists);
    }
