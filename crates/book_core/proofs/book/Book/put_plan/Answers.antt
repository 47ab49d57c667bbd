use Rattle.std.proofs.Common.{◌≡◌, [], ◌∷◌, ◌++◌, length, map, filter, take, drop, count_by, sym, ap, ◌∙◌, subst, arith, refl}
use Rattle.std.proofs.lemmas.List.{length-map}
use Rattle.list_laws.proofs.Lists.{length-push}
use Rattle.book_rules.specs.Book.{Book}
use Rattle.book_rules.specs.History.{is_show_low}
use Rattle.book_rules.specs.declared.book.Entry.TheVariants as entry
use Rattle.book_core.specs.Keeps.{IsSound}
use Rattle.book_core.specs.Outdone.{outdone_stored, is_back_in}
use Rattle.book_core.proofs.KeepingLemmas.{lows-kept}
use Rattle.book_core.proofs.OutdoneLemmas.{refill, cost-here, replaced-is, replaced-tables, replaced-nodes, replaced-path}
use Rattle.book_core.proofs.book.Book.put_plan.Goals as goal

pub returns-clause-some : goal.returns-clause-some
returns-clause-some c =
    let a = c.self.inside in
    let b = c.args.self.now in
    let f = outdone_stored c.args.cost in
    let written : c.outdo.new.slots ≡ map f a.slots.items = c.outdo.ensures ∙ ap (map f) c.as_mut_slice.ensures.value in
    let count : length c.outdo.new.slots ≡ length a.slots.items = ap length written ∙ length-map a.slots.items f in
    let all = ap (λ n. take n (c.outdo.new.slots ++ drop (length c.outdo.new.slots) a.slots.items)) a.slots.ok.0 ∙ refill c.outdo.new.slots a.slots.items count ∙ written in
    let plans = c.push_reserved.ensures.items ∙ (λ i. c.make_room.ensures.list i ++ c.copy.ensures i ∷ []) in
    let history = c.push_reserved-2.ensures.items ∙ ap (λ l. l ++ entry.Replace ∷ []) c.make_room.ensures.history in
    replaced-is a b c.self.view_is c.args.cost c.args.plan c.requires.cost (take a.slots.len (c.outdo.new.slots ++ drop (length c.outdo.new.slots) a.slots.items)) all c.push_reserved.new.self.items plans c.push_reserved-2.new.self.items history

pub invariant_of-self-2 : goal.invariant_of-self-2
invariant_of-self-2 c =
    let a = c.self.inside in
    let b = c.args.self.now in
    let f = outdone_stored c.args.cost in
    let written : c.outdo.new.slots ≡ map f a.slots.items = c.outdo.ensures ∙ ap (map f) c.as_mut_slice.ensures.value in
    let count : length c.outdo.new.slots ≡ length a.slots.items = ap length written ∙ length-map a.slots.items f in
    let all = ap (λ n. take n (c.outdo.new.slots ++ drop (length c.outdo.new.slots) a.slots.items)) a.slots.ok.0 ∙ refill c.outdo.new.slots a.slots.items count ∙ written in
    let plans = c.push_reserved.ensures.items ∙ (λ i. c.make_room.ensures.list i ++ c.copy.ensures i ∷ []) in
    let history = c.push_reserved-2.ensures.items ∙ ap (λ l. l ++ entry.Replace ∷ []) c.make_room.ensures.history in
    let old = c.self.invariant in
    let ss = take a.slots.len (c.outdo.new.slots ++ drop (length c.outdo.new.slots) a.slots.items) in
    let same = replaced-is a b c.self.view_is c.args.cost c.args.plan c.requires.cost ss all c.push_reserved.new.self.items plans c.push_reserved-2.new.self.items history in
    let back = c.still_back-self-inside.ensures ∙ ap (λ l. filter (is_back_in l) a.back) c.deref.ensures.value in
    record {
      sound = subst IsSound (sym same) c.requires.sound;
      tables = replaced-tables a b c.self.view_is c.args.cost c.args.plan c.requires.cost ss all c.still_back-self-inside.result back old.tables;
      nodes = replaced-nodes a b c.self.view_is c.args.cost c.args.plan c.requires.cost ss all old.nodes;
      path = replaced-path a b c.self.view_is c.args.cost c.args.plan c.requires.cost ss all old.path;
      roster_is = old.roster_is;
      costs = record { best_is = cost-here a b c.self.view_is c.args.cost c.args.plan c.requires.cost ss all; opening_is = old.costs.opening_is; throughput_is = old.costs.throughput_is };
      lows = lows-kept a.history.items a.shown_lows entry.Replace c.push_reserved-2.new.self.items old.lows refl history;
      room = record {
        enough = omega (
          arith,
          c.in_ok-needed.ensures.count.count,
          old.lows.count,
          ap (λ (u : Book). count_by is_show_low u.history) c.self.view_is,
          c.in_ok-make_room.ensures.entries,
          c.push_reserved-2.ensures.capacity,
          ap (λ (u : Book). u.case.nodes) c.self.view_is,
          ap (λ (u : Book). length u.cuts) c.self.view_is,
          ap (λ (u : Book). length u.plans) c.self.view_is,
          ap (λ (u : Book). length u.prices) c.self.view_is,
          ap length plans,
          length-push a.plans.items c.args.plan,
        );
      };
    }
