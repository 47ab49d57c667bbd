use Rattle.solve_workers.proofs.GrantLemmas.{grant_driven, grant_holds, grant_falls, grant_done, grant_free}
use Rattle.solve_workers.proofs.held.take.Goals as goal

pub returns-clause-holds : goal.returns-clause-holds
returns-clause-holds c = grant_holds c.args.book.now c.take_slot.result c.take_slot.new.self c.keeps.ensures c.take_slot.ensures.step c.slot_in.result c.slot_in.ensures c.requires.free c.requires.running

pub returns-clause-falls : goal.returns-clause-falls
returns-clause-falls c = grant_falls c.args.book.now c.take_slot.result c.take_slot.new.self c.keeps.ensures c.take_slot.ensures.step c.slot_in.result c.slot_in.ensures c.requires.free c.requires.running

pub returns-clause-done : goal.returns-clause-done
returns-clause-done c = grant_done c.args.book.now c.take_slot.result c.take_slot.new.self c.keeps.ensures c.take_slot.ensures.step c.slot_in.result c.slot_in.ensures c.requires.free c.requires.running

pub returns-clause-free : goal.returns-clause-free
returns-clause-free c = grant_free c.args.book.now c.take_slot.result c.take_slot.new.self c.keeps.ensures c.take_slot.ensures.step c.slot_in.result c.slot_in.ensures c.requires.free c.requires.running

pub returns-clause-driven : goal.returns-clause-driven
returns-clause-driven c = grant_driven c.args.book.now c.take_slot.result c.take_slot.new.self c.keeps.ensures c.take_slot.ensures.step c.slot_in.result c.slot_in.ensures
