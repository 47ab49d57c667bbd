use Rattle.std.proofs.Common.{sym, ap, ◌∙◌}
use Rattle.book_rules.specs.Book.{is_held}
use Rattle.book_core.proofs.BoundingLemmas.{holder-few, at-hand, hand-some, hand-of}
use Rattle.book_core.proofs.book.Book.hand_of.Goals as goal

pub returns-in-Some-clause-some : goal.returns-in-Some-clause-some
returns-in-Some-clause-some c =
    let a = c.self.inside in
    let b = c.args.self.now in
    let w = c.in-Held.worker in
    let held = sym c.state_of.ensures.state ∙ c.in-Held.is in
    hand-of a c.self.invariant b c.self.view_is w c.args.id held c.in-Some.hand (sym (at-hand a c.self.invariant b c.self.view_is w c.args.id held c.index-self-worker.result) ∙ c.in-Some.is)

pub returns-in-None-clause-none : goal.returns-in-None-clause-none
returns-in-None-clause-none c =
    let a = c.self.inside in
    let b = c.args.self.now in
    let w = c.in-Held.worker in
    let held = sym c.state_of.ensures.state ∙ c.in-Held.is in
    absurd (hand-some a c.self.invariant b c.self.view_is w c.args.id held (sym (at-hand a c.self.invariant b c.self.view_is w c.args.id held c.index-self-worker.result) ∙ c.in-None.is))

pub bounds-self-inside-worker : goal.bounds-self-inside-worker
bounds-self-inside-worker c = holder-few c.self.inside c.self.invariant c.args.self.now c.self.view_is c.in-Held.worker c.args.id (sym c.state_of.ensures.state ∙ c.in-Held.is)

pub returns-in-Some-clause-held : goal.returns-in-Some-clause-held
returns-in-Some-clause-held c = ap is_held (sym c.state_of.ensures.state ∙ c.in-Held.is)

pub returns-in-Some-clause-none : goal.returns-in-Some-clause-none
returns-in-Some-clause-none c = tt

pub returns-in-None-clause-some : goal.returns-in-None-clause-some
returns-in-None-clause-some c = tt

pub returns-in-None-clause-held : goal.returns-in-None-clause-held
returns-in-None-clause-held c = tt
