use Rattle.std.proofs.Common.{◌∙◌, ◌++◌, ◌∷◌, [], length, length-append, refl, sym, ap, subst, arith}
use Rattle.book_rules.specs.declared.book.Entry.TheVariants as entry
use Rattle.book_rules.specs.Book.{Book}
use Rattle.book_core.specs.Growing.{kept_cut}
use Rattle.book_core.specs.Keeps.{IsSound, CountsLows, IsMoreRoom}
use Rattle.book_core.specs.Seen.{seen}
use Rattle.book_core.proofs.KeepingLemmas.{lows-kept, no_value, if_refused}
use Rattle.book_core.proofs.book.Book.keep_cut.Goals as goal

pub returns-in_err-needed-clause-some : goal.returns-in_err-needed-clause-some
returns-in_err-needed-clause-some c = no_value _ c.from_residual.result c.from_residual.ensures.0

pub returns-in_err-needed-clause-none : goal.returns-in_err-needed-clause-none
returns-in_err-needed-clause-none c = if_refused c.from_residual.result refl

pub invariant_of-self : goal.invariant_of-self
invariant_of-self c =
    let a = c.self.inside in
    let old = c.self.invariant in
    let h = c.widen.ensures.history in
    record {
      sound = subst IsSound (λ i. record (seen a) { history = sym h i }) old.sound;
      tables = old.tables;
      nodes = old.nodes;
      path = old.path;
      roster_is = old.roster_is;
      costs = record { best_is = old.costs.best_is; opening_is = old.costs.opening_is; throughput_is = old.costs.throughput_is };
      lows = subst (λ es. CountsLows es a.shown_lows) (sym h) old.lows;
      room = record { enough = omega (arith, old.room.enough, c.widen.ensures.wider) };
    }

pub returns-in_err-widen-clause-some : goal.returns-in_err-widen-clause-some
returns-in_err-widen-clause-some c = no_value _ c.from_residual-in_err-widen.result c.from_residual-in_err-widen.ensures.0

pub returns-in_err-widen-clause-none : goal.returns-in_err-widen-clause-none
returns-in_err-widen-clause-none c = if_refused c.from_residual-in_err-widen.result ((λ i. record (seen c.self.inside) { history = c.widen.ensures.history i }) ∙ c.self.view_is)

pub invariant_of-self-in_err-push : goal.invariant_of-self-in_err-push
invariant_of-self-in_err-push c =
    let a = c.self.inside in
    let old = c.self.invariant in
    let cuts = c.in_err-push.ensures.none in
    let h = c.widen.ensures.history in
    record {
      sound = subst IsSound (λ i. record (seen a) { cuts = sym cuts i; history = sym h i }) old.sound;
      tables = old.tables;
      nodes = old.nodes;
      path = old.path;
      roster_is = old.roster_is;
      costs = record { best_is = old.costs.best_is; opening_is = old.costs.opening_is; throughput_is = old.costs.throughput_is };
      lows = subst (λ es. CountsLows es a.shown_lows) (sym h) old.lows;
      room = record { enough = omega (arith, old.room.enough, ap length cuts, c.widen.ensures.wider) };
    }

pub returns-in_err-push-clause-some : goal.returns-in_err-push-clause-some
returns-in_err-push-clause-some c = no_value _ c.from_residual-in_err-push.result c.from_residual-in_err-push.ensures.0

pub returns-in_err-push-clause-none : goal.returns-in_err-push-clause-none
returns-in_err-push-clause-none c =
    if_refused c.from_residual-in_err-push.result ((λ i. record (seen c.self.inside) { cuts = c.in_err-push.ensures.none i; history = c.widen.ensures.history i }) ∙ c.self.view_is)

pub invariant_of-self-2 : goal.invariant_of-self-2
invariant_of-self-2 c =
    let a = c.self.inside in
    let old = c.self.invariant in
    let view = c.self.view_is in
    let cuts = c.in_ok-push.ensures.some in
    let h = c.push_reserved.ensures.items ∙ ap (λ es. es ++ entry.Post ∷ []) c.widen.ensures.history in
    let same = (λ i. record (seen a) { cuts = cuts i; history = h i }) ∙ ap (λ (u : Book). kept_cut u c.args.cut) view in
    let more : IsMoreRoom (seen a) c.in_ok-needed.needed = subst (λ u. IsMoreRoom u c.in_ok-needed.needed) (sym view) c.in_ok-needed.ensures.count in
    record {
      sound = subst IsSound (sym same) c.requires;
      tables = old.tables;
      nodes = old.nodes;
      path = old.path;
      roster_is = old.roster_is;
      costs = record { best_is = old.costs.best_is; opening_is = old.costs.opening_is; throughput_is = old.costs.throughput_is };
      lows = lows-kept a.history.items a.shown_lows entry.Post c.push_reserved.new.self.items old.lows refl h;
      room = record { enough = omega (arith, more.count, old.lows.count, c.in_ok-widen.ensures.entries, c.push_reserved.ensures.capacity, ap length cuts, length-append a.cuts (c.args.cut ∷ [])) };
    }

pub returns-clause-some : goal.returns-clause-some
returns-clause-some c =
    let h = c.push_reserved.ensures.items ∙ ap (λ es. es ++ entry.Post ∷ []) c.widen.ensures.history in
    (λ i. record (seen c.self.inside) { cuts = c.in_ok-push.ensures.some i; history = h i }) ∙ ap (λ (u : Book). kept_cut u c.args.cut) c.self.view_is
