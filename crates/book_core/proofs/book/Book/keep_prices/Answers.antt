use Rattle.std.proofs.Common.{◌∙◌, ◌++◌, ◌∷◌, [], length, length-append, refl, sym, ap, subst, arith}
use Rattle.book_rules.specs.declared.book.Entry.TheVariants as entry
use Rattle.book_rules.specs.Book.{Book}
use Rattle.book_core.specs.Growing.{with_prices}
use Rattle.book_core.specs.Keeps.{IsSound, CountsLows, IsMoreRoom}
use Rattle.book_core.specs.Seen.{seen}
use Rattle.book_core.proofs.KeepingLemmas.{lows-kept, no_value, if_refused}
use Rattle.book_core.proofs.book.Book.keep_prices.Goals as goal

pub returns-in_err-needed-clause-some : goal.returns-in_err-needed-clause-some
returns-in_err-needed-clause-some c = no_value _ c.from_residual.result c.from_residual.ensures.0

pub returns-in_err-needed-clause-none : goal.returns-in_err-needed-clause-none
returns-in_err-needed-clause-none c = if_refused c.from_residual.result refl

pub returns-in_err-kept-clause-some : goal.returns-in_err-kept-clause-some
returns-in_err-kept-clause-some c = no_value _ c.from_residual-in_err-kept.result c.from_residual-in_err-kept.ensures.0

pub returns-in_err-kept-clause-none : goal.returns-in_err-kept-clause-none
returns-in_err-kept-clause-none c = if_refused c.from_residual-in_err-kept.result refl

pub returns-in_err-make_room-clause-some : goal.returns-in_err-make_room-clause-some
returns-in_err-make_room-clause-some c = no_value _ c.from_residual-in_err-make_room.result c.from_residual-in_err-make_room.ensures.0

pub returns-in_err-make_room-clause-none : goal.returns-in_err-make_room-clause-none
returns-in_err-make_room-clause-none c =
    let room = c.make_room.ensures in
    if_refused c.from_residual-in_err-make_room.result ((λ i. record (seen c.self.inside) { prices = room.list i; history = room.history i }) ∙ c.self.view_is)

pub invariant_of-self : goal.invariant_of-self
invariant_of-self c =
    let a = c.self.inside in
    let old = c.self.invariant in
    let ps = c.make_room.ensures.list in
    let h = c.make_room.ensures.history in
    record {
      sound = subst IsSound (λ i. record (seen a) { prices = sym ps i; history = sym h i }) old.sound;
      tables = old.tables;
      nodes = old.nodes;
      path = old.path;
      roster_is = old.roster_is;
      costs = record { best_is = old.costs.best_is; opening_is = old.costs.opening_is; throughput_is = old.costs.throughput_is };
      lows = subst (λ es. CountsLows es a.shown_lows) (sym h) old.lows;
      room = record { enough = omega (arith, old.room.enough, ap length ps, c.make_room.ensures.wider) };
    }

pub invariant_of-self-2 : goal.invariant_of-self-2
invariant_of-self-2 c =
    let a = c.self.inside in
    let old = c.self.invariant in
    let view = c.self.view_is in
    let ps = c.push_reserved.ensures.items ∙ (λ i. c.make_room.ensures.list i ++ c.in_ok-kept.ensures i ∷ []) in
    let h = c.push_reserved-2.ensures.items ∙ ap (λ es. es ++ entry.Prices ∷ []) c.make_room.ensures.history in
    let same = (λ i. record (seen a) { prices = ps i; history = h i }) ∙ ap (λ (u : Book). with_prices u c.args.prices.now) view in
    let more : IsMoreRoom (seen a) c.in_ok-needed.needed = subst (λ u. IsMoreRoom u c.in_ok-needed.needed) (sym view) c.in_ok-needed.ensures.count in
    record {
      sound = subst IsSound (sym same) c.requires;
      tables = old.tables;
      nodes = old.nodes;
      path = old.path;
      roster_is = old.roster_is;
      costs = record { best_is = old.costs.best_is; opening_is = old.costs.opening_is; throughput_is = old.costs.throughput_is };
      lows = lows-kept a.history.items a.shown_lows entry.Prices c.push_reserved-2.new.self.items old.lows refl h;
      room = record { enough = omega (arith, more.count, old.lows.count, c.in_ok-make_room.ensures.entries, c.push_reserved-2.ensures.capacity, ap length ps, length-append a.prices.items (c.args.prices.now ∷ [])) };
    }

pub returns-clause-some : goal.returns-clause-some
returns-clause-some c =
    let ps = c.push_reserved.ensures.items ∙ (λ i. c.make_room.ensures.list i ++ c.in_ok-kept.ensures i ∷ []) in
    let h = c.push_reserved-2.ensures.items ∙ ap (λ es. es ++ entry.Prices ∷ []) c.make_room.ensures.history in
    (λ i. record (seen c.self.inside) { prices = ps i; history = h i }) ∙ ap (λ (u : Book). with_prices u c.args.prices.now) c.self.view_is
