use Rattle.std.proofs.Common.{refl, sym, ap, ◌∙◌, slice_set}
use Rattle.book_core.proofs.BoundingLemmas.{laid-filled, tables-filled, hands-filled}
use Rattle.book_core.proofs.book.Book.keep_bounds.Goals as goal

pub invariant_of-self : goal.invariant_of-self
invariant_of-self c =
    let a = c.self.inside in
    let old = c.self.invariant in
    let b = c.args.self.now in
    let w = c.in-Held.worker in
    let held = sym c.state_of.ensures.state ∙ c.in-Held.is in
    let hands = c.lay_bounds.ensures ∙ ap (slice_set a.hands w) (laid-filled a old b c.self.view_is w c.args.id held c.args.bounds c.requires) in
    record {
      sound = old.sound;
      tables = tables-filled a old b c.self.view_is w c.args.id held a.case.instance refl c.lay_bounds.new.hands hands;
      nodes = hands-filled a old b c.self.view_is w c.args.id held a.case.instance refl c.lay_bounds.new.hands hands;
      path = old.path;
      roster_is = old.roster_is;
      costs = old.costs;
      lows = old.lows;
      room = old.room;
    }
