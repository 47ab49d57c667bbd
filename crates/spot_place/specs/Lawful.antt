-- Spot cases meet what the search rests on.
use Rattle.std.specs.Prelude.{Bool, true, false}
use Rattle.std.proofs.Common.{subst}
use Rattle.lock_model.specs.Deck.{Deck}
use Rattle.case_search.specs.Rules.{AreSoundRules}
use Rattle.spot_place.specs.Faults.{fault_of}
use Rattle.spot_place.specs.Rules.{spot_rules}

abbrev Holds : Bool → Type 0
Holds true = Unit {0}
Holds false = ⊥

pub spot-lawful : (d : Deck) → AreSoundRules (spot_rules d)
spot-lawful d = record {
  faulty = λ case fault stands good. good (fault_of fault) stands;
  shorter = λ e case more good. absurd (subst Holds e tt);
  ends = λ case good all. record { faultless = good; all = all };
  complete = λ case end. end.all;
  good_end = λ e case end. end.faultless;
}
