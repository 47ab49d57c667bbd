use Rattle.std.proofs.Common.{◌≡◌, sym, ap, ◌∙◌, subst, arith, slice_index_or, slice_set, true, false, refl}
use Rattle.book_rules.specs.declared.book.Entry.TheVariants as entry
use Rattle.book_rules.specs.Book.{Book}
use Rattle.book_core.specs.Stored.{slots_of}
use Rattle.book_core.specs.Changes.{finished}
use Rattle.book_core.specs.Hands.{ids_of}
use Rattle.book_core.specs.Keeps.{IsSound}
use Rattle.book_core.specs.Seen.{seen}
use Rattle.book_core.proofs.KeepingLemmas.{lows-kept, one-fits}
use Rattle.book_core.proofs.HandOverLemmas.{tables-ended}
use Rattle.book_core.proofs.book.Book.end.Goals as goal

pub invariant_of-self : goal.invariant_of-self
invariant_of-self c =
    let a = c.self.inside in
    let old = c.self.invariant in
    let same : record (seen a) { ended = slice_set a.ended c.args.worker true; history = c.push_reserved.new.self.items } ≡ finished c.args.self.now c.args.worker =
    (λ i. record (seen a) { ended = slice_set a.ended c.args.worker true; history = c.push_reserved.ensures.items i }) ∙ ap (λ u. finished u c.args.worker) c.self.view_is in
    let running = ap (λ (b : Book). slice_index_or b.ended c.args.worker false) c.self.view_is ∙ c.requires.running in
    record {
      sound = subst IsSound (sym same) c.requires.sound;
      tables = tables-ended (seen a) a.ended (ids_of a.hands) a.back a.waiting.items old.tables (slots_of a.case.instance a.slots.items) 0 c.args.worker (omega (arith, c.requires.known, old.sound.parts.workers.nine)) running;
      nodes = old.nodes;
      path = old.path;
      roster_is = old.roster_is;
      costs = record { best_is = old.costs.best_is; opening_is = old.costs.opening_is; throughput_is = old.costs.throughput_is };
      lows = lows-kept a.history.items a.shown_lows (entry.Release c.args.worker) c.push_reserved.new.self.items old.lows refl c.push_reserved.ensures.items;
      room = record { enough = omega (arith, old.room.enough, c.push_reserved.ensures.capacity) };
    }

pub push_reserved-requires : goal.push_reserved-requires
push_reserved-requires c =
    one-fits c.self.inside c.self.invariant c.args.self.now c.self.view_is (entry.Release c.args.worker) _ refl c.requires.sound.parts.room.room

pub returns : goal.returns
returns c =
    (λ i. record (seen c.self.inside) { ended = slice_set c.self.inside.ended c.args.worker true; history = c.push_reserved.ensures.items i }) ∙ ap (λ u. finished u c.args.worker) c.self.view_is
