use Rattle.std.proofs.Common.{sym, subst, Bool}
use Rattle.price_search.specs.Holding.{Ends}
use Rattle.solve_workers.specs.Offering.{HasDriven, HasFreed}
use Rattle.solve_workers.proofs.DeskLemmas.{ends_free, ends_still, ends_driven}
use Rattle.solve_workers.proofs.pricing.ask.Goals as goal

pub returns-clause-closed : goal.returns-clause-closed
returns-clause-closed g c =
    let b = c.args.book.now in
    let new = c.price_or_sweep.new.hand in
    let held = c.args.held.now in
    let ends = subst (λ (t : Bool). Ends (HasDriven held) HasFreed b new t) (sym c.was_closed.ensures) c.price_or_sweep.ensures.ends in
    ends_free b new held c.requires.holds c.was_closed.result ends

pub returns-clause-held : goal.returns-clause-held
returns-clause-held g c =
    let b = c.args.book.now in
    let new = c.price_or_sweep.new.hand in
    let held = c.args.held.now in
    let ends = subst (λ (t : Bool). Ends (HasDriven held) HasFreed b new t) (sym c.was_closed.ensures) c.price_or_sweep.ensures.ends in
    ends_still b new held c.requires.holds c.was_closed.result ends

pub returns-clause-driven : goal.returns-clause-driven
returns-clause-driven g c =
    let b = c.args.book.now in
    let new = c.price_or_sweep.new.hand in
    let held = c.args.held.now in
    let ends = subst (λ (t : Bool). Ends (HasDriven held) HasFreed b new t) (sym c.was_closed.ensures) c.price_or_sweep.ensures.ends in
    ends_driven b new held c.requires.holds c.was_closed.result ends
