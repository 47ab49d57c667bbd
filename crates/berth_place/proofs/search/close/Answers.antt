use Rattle.std.proofs.Common.{refl}
use Rattle.berth_place.specs.Faults.{fault_of}
use Rattle.berth_place.proofs.VisitLemmas.{fault_closed}
use Rattle.berth_place.proofs.search.close.Goals as goal

pub returns : goal.returns
returns c = fault_closed c.args.deck.now (fault_of c.args.fault) c.args.search.now _ c.requires.stands c.in_ok-write_fault.ensures refl refl refl refl c.requires.few
