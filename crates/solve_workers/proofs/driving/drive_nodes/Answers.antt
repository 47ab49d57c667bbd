use Rattle.std.proofs.Common.{sym, subst, arith}
use Rattle.solve_workers.specs.Closable.{IsOwnSearch}
use Rattle.solve_workers.proofs.DrivenLemmas.{driven_none, driven_then, own_still, running_still}
use Rattle.solve_workers.proofs.driving.drive_nodes.Goals as goal

pub slots-init : goal.slots-init
slots-init g c = (c.requires.free, c.requires.running, driven_none c.args.book.now, c.requires.own)

pub work-requires-clause-own : goal.work-requires-clause-own
work-requires-clause-own g c = own_still c.slots.book c.take.new.book c.slots.driver.search c.take.ensures.driven c.slots.invariant.3

pub slots-smaller : goal.slots-smaller
slots-smaller g c =
    let falls = c.in-Some.ensures.falls in
    let room = c.work.ensures.driven.room in
    omega (arith, falls, room)

pub slots-preserved : goal.slots-preserved
slots-preserved g c =
    let old = c.slots.book in
    let new = c.work.new.book in
    let driven = driven_then old c.take.new.book new c.take.ensures.driven c.work.ensures.driven in (
      c.in_ok-work.ensures.freed,
      running_still old new driven c.slots.invariant.1,
      driven_then c.args.book.now old new c.slots.invariant.2 driven,
      subst (IsOwnSearch new) (sym c.work.ensures.search) (own_still old new c.slots.driver.search driven c.slots.invariant.3),
    )

pub returns-in_err-work-clause-driven : goal.returns-in_err-work-clause-driven
returns-in_err-work-clause-driven g c =
    driven_then c.args.book.now c.slots.book c.work.new.book c.slots.invariant.2
    (driven_then c.slots.book c.take.new.book c.work.new.book c.take.ensures.driven c.work.ensures.driven)

pub returns-clause-driven : goal.returns-clause-driven
returns-clause-driven g c = driven_then c.args.book.now c.slots.book c.take.new.book c.slots.invariant.2 c.take.ensures.driven
