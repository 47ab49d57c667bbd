-- Faults as the code keeps them.
use Rattle.refute_rules.specs.BerthFaults as told
use Rattle.berth_place.specs.declared.faults.BerthFault.{BerthFault}
use Rattle.berth_place.specs.declared.faults.BerthFault.TheVariants.{OtherRank, LeadsBack, TooLong, Outside, Guests, Crowd, NoPlaces}

abbrev pub fault_of : BerthFault → told.BerthFault
fault_of (OtherRank i) = told.OtherRank i
fault_of (LeadsBack i) = told.LeadsBack i
fault_of (TooLong i) = told.TooLong i
fault_of (Outside i) = told.Outside i
fault_of (Guests k) = told.Guests k
fault_of (Crowd set) = told.Crowd set
fault_of NoPlaces = told.NoPlaces
