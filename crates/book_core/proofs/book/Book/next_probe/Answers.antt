use Rattle.std.proofs.Common.{sym, ap, ◌∙◌, subst, arith}
use Rattle.std.specs.Prelude.{IfSome}
use Rattle.lock_rules.specs.Bound.{least_number}
use Rattle.book_rules.specs.Book.{Case}
use Rattle.flow_bounds.specs.Roster.{IsRosterOf}
use Rattle.book_core.specs.Hands.{held_at, IsBounding}
use Rattle.book_core.proofs.HandLemmas.{state-known, held-open}
use Rattle.book_core.proofs.BoundingLemmas.{least-below, holder-few, bounding, tables-filled, hands-filled, bounds-here}
use Rattle.book_core.proofs.book.Book.next_probe.Goals as goal

pub fill_hand-requires-clause-hand : goal.fill_hand-requires-clause-hand
fill_hand-requires-clause-hand c =
    let a = c.self.inside in
    let w = c.in-Held.worker in
    let held = sym c.state_of.ensures.state ∙ c.in-Held.is in
    subst (λ K. IfSome (held_at a.hands w) (IsBounding K)) (sym (ap (λ (k : Case). k.instance) c.case.view_is))
    (bounding a c.self.invariant c.args.self.now c.self.view_is w c.args.id held c.requires.lacks)

pub invariant_of-self : goal.invariant_of-self
invariant_of-self c =
    let a = c.self.inside in
    let old = c.self.invariant in
    let b = c.args.self.now in
    let w = c.in-Held.worker in
    let held = sym c.state_of.ensures.state ∙ c.in-Held.is in
    let K_is = ap (λ (k : Case). k.instance) c.case.view_is in
    record {
      sound = old.sound;
      tables = tables-filled a old b c.self.view_is w c.args.id held c.case.inside.instance K_is c.fill_hand.new.hands c.fill_hand.ensures;
      nodes = hands-filled a old b c.self.view_is w c.args.id held c.case.inside.instance K_is c.fill_hand.new.hands c.fill_hand.ensures;
      path = old.path;
      roster_is = old.roster_is;
      costs = old.costs;
      lows = old.lows;
      room = old.room;
    }

pub returns-clause-value : goal.returns-clause-value
returns-clause-value c =
    let a = c.self.inside in
    let b = c.args.self.now in
    let w = c.in-Held.worker in
    let held = sym c.state_of.ensures.state ∙ c.in-Held.is in
    let K_is = ap (λ (k : Case). k.instance) c.case.view_is in
    c.least_in.ensures
    ∙ ap least_number (bounds-here a c.self.invariant b c.self.view_is w c.args.id held c.case.inside.instance K_is c.fill_hand.new.hands c.fill_hand.ensures c.index-self-worker.result)
    ∙ least-below b c.keeps.ensures c.args.id (state-known b.slots c.args.id (λ e. held-open w (sym held ∙ e))) c.requires.lacks

pub fill_hand-requires-clause-worker : goal.fill_hand-requires-clause-worker
fill_hand-requires-clause-worker c =
    let few = holder-few c.self.inside c.self.invariant c.args.self.now c.self.view_is c.in-Held.worker c.args.id (sym c.state_of.ensures.state ∙ c.in-Held.is) in
    omega (arith, few)

pub fill_hand-requires-clause-roster : goal.fill_hand-requires-clause-roster
fill_hand-requires-clause-roster c =
    subst (λ I. IsRosterOf I c.self.inside.roster) (sym (ap (λ (k : Case). k.instance) c.case.view_is)) c.self.invariant.roster_is

pub bounds-self-inside-worker : goal.bounds-self-inside-worker
bounds-self-inside-worker c = holder-few c.self.inside c.self.invariant c.args.self.now c.self.view_is c.in-Held.worker c.args.id (sym c.state_of.ensures.state ∙ c.in-Held.is)

pub returns-clause-same : goal.returns-clause-same
returns-clause-same c = c.self.view_is
