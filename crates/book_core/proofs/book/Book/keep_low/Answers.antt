use Rattle.std.proofs.Common.{◌∷◌, ◌++◌, [], length, count_by, refl, sym, ap, ◌∙◌, subst, arith}
use Rattle.book_rules.specs.declared.book.Entry.TheVariants as entry
use Rattle.book_rules.specs.Book.{Book}
use Rattle.book_rules.specs.History.{is_show_low}
use Rattle.book_core.specs.Hands.{ids_of}
use Rattle.book_core.specs.Keeps.{IsSound, CountsLows}
use Rattle.book_core.specs.Seen.{seen}
use Rattle.book_core.specs.Stored.{slots_of}
use Rattle.book_core.proofs.HeldLemmas.{nodes-kept}
use Rattle.book_core.proofs.KeepingLemmas.{no_value, if_refused, lows-more, new_slots, slots-rest, nodes-rest, tables-rest, low-is}
use Rattle.book_core.proofs.PathLemmas.{path-kept}
use Rattle.book_core.proofs.SettleLemmas.{slots-known}
use Rattle.book_core.proofs.book.Book.keep_low.Goals as goal

pub index_mut-requires : goal.index_mut-requires
index_mut-requires c = let known = slots-known c.self.inside c.args.self.now c.self.view_is c.args.id c.requires.known in omega (arith, known, c.self.inside.slots.ok.0)

pub returns-clause-some : goal.returns-clause-some
returns-clause-some c =
    let a = c.self.inside in
    let known = slots-known a c.args.self.now c.self.view_is c.args.id c.requires.known in
    let history = c.push_reserved.ensures.items ∙ ap (λ l. l ++ entry.ShowLow c.args.id c.args.low ∷ []) c.widen.ensures.history in
    low-is a c.args.self.now c.self.view_is c.args.id known c.index_mut.result.now c.index_mut.ensures.value c.args.low c.push_reserved.new.self.items history

pub invariant_of-self-2 : goal.invariant_of-self-2
invariant_of-self-2 c =
    let a = c.self.inside in
    let b = c.args.self.now in
    let old = c.self.invariant in
    let I = a.case.instance in
    let S = slots_of I a.slots.items in
    let r = c.index_mut.result.now in
    let known = slots-known a b c.self.view_is c.args.id c.requires.known in
    let history = c.push_reserved.ensures.items ∙ ap (λ l. l ++ entry.ShowLow c.args.id c.args.low ∷ []) c.widen.ensures.history in
    let same = low-is a b c.self.view_is c.args.id known r c.index_mut.ensures.value c.args.low c.push_reserved.new.self.items history in
    let new = new_slots a b c.self.view_is c.args.id known r c.index_mut.ensures.value c.args.low in
    let rest = slots-rest a b c.self.view_is c.args.id known r c.index_mut.ensures.value c.args.low in
    record {
      sound = subst IsSound (sym same) c.requires.sound;
      tables = tables-rest S new rest a.ended (ids_of a.hands) a.back a.waiting.items old.tables;
      nodes = nodes-kept I S new (nodes-rest S new rest) a.hands old.nodes;
      path = path-kept I S new (nodes-rest S new rest) a.path old.path;
      roster_is = old.roster_is;
      costs = record { best_is = old.costs.best_is; opening_is = old.costs.opening_is; throughput_is = old.costs.throughput_is };
      lows = lows-more a.history.items a.shown_lows c.args.id c.args.low c.push_reserved.new.self.items c.in-Some.lows old.lows (omega arith) history;
      room = record {
        enough = omega (
          arith,
          c.in_ok-needed.ensures.count.count,
          c.in_ok-widen.ensures.entries,
          c.push_reserved.ensures.capacity,
          old.lows.count,
          ap (λ (u : Book). count_by is_show_low u.history) c.self.view_is,
          ap (λ (u : Book). u.case.nodes) c.self.view_is,
          ap (λ (u : Book). length u.cuts) c.self.view_is,
          ap (λ (u : Book). length u.plans) c.self.view_is,
          ap (λ (u : Book). length u.prices) c.self.view_is,
        );
      };
    }

pub returns-in_default-clause-none : goal.returns-in_default-clause-none
returns-in_default-clause-none c = refl

pub returns-in_err-needed-clause-some : goal.returns-in_err-needed-clause-some
returns-in_err-needed-clause-some c = no_value _ c.from_residual.result c.from_residual.ensures.0

pub returns-in_err-needed-clause-none : goal.returns-in_err-needed-clause-none
returns-in_err-needed-clause-none c = if_refused c.from_residual.result refl

pub invariant_of-self : goal.invariant_of-self
invariant_of-self c =
    let a = c.self.inside in
    let old = c.self.invariant in
    let h = c.widen.ensures.history in
    record {
      sound = subst IsSound (λ i. record (seen a) { history = sym h i }) old.sound;
      tables = old.tables;
      nodes = old.nodes;
      path = old.path;
      roster_is = old.roster_is;
      costs = record { best_is = old.costs.best_is; opening_is = old.costs.opening_is; throughput_is = old.costs.throughput_is };
      lows = subst (λ es. CountsLows es a.shown_lows) (sym h) old.lows;
      room = record { enough = omega (arith, old.room.enough, c.widen.ensures.wider) };
    }

pub returns-in_err-widen-clause-some : goal.returns-in_err-widen-clause-some
returns-in_err-widen-clause-some c = no_value _ c.from_residual-in_err-widen.result c.from_residual-in_err-widen.ensures.0

pub returns-in_err-widen-clause-none : goal.returns-in_err-widen-clause-none
returns-in_err-widen-clause-none c = if_refused c.from_residual-in_err-widen.result ((λ i. record (seen c.self.inside) { history = c.widen.ensures.history i }) ∙ c.self.view_is)
