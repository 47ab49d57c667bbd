-- Faults of a case as the code keeps them.
use Rattle.refute_rules.specs.Cases.{CaseFault as Told, OtherRank as HasRank, Walk as HasWalk}
use Rattle.chamber_place.specs.declared.faults.CaseFault.{CaseFault}
use Rattle.chamber_place.specs.declared.faults.CaseFault.TheVariants.{OtherRank, Walk}

abbrev pub fault_of : CaseFault → Told
fault_of (OtherRank i) = HasRank i
fault_of (Walk numbers) = HasWalk numbers
