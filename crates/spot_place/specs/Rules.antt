-- What the search through spot cases goes by.
use Rattle.std.specs.Prelude.{true, length}
use Rattle.lock_model.specs.Deck.{Deck}
use Rattle.refute_rules.specs.Choices.{options_of, spot_decisions}
use Rattle.refute_rules.specs.SpotFaults.{IsSpotFault, spot_fault_numbers, IsFaultless}
use Rattle.refute_rules.specs.Spots.{IsWholeSpots}
use Rattle.case_search.specs.Rules.{Rules}
use Rattle.spot_place.specs.declared.faults.SpotFault.{SpotFault}
use Rattle.spot_place.specs.Faults.{fault_of}

-- spot decisions, the five faults, and a turn for each listed case
abbrev pub spot_rules : Deck → Rules SpotFault
spot_rules d = record {
  options = options_of d;
  decisions = spot_decisions (length d.ships);
  IsFault = λ case fault. IsSpotFault d case (fault_of fault);
  numbers_of = λ fault. spot_fault_numbers (fault_of fault);
  IsGood = IsFaultless d;
  IsEnd = IsWholeSpots d;
  counts_faulty = true;
}
