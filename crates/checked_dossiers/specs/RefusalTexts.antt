-- What is written where a dossier is refused.
use Rattle.std.specs.Prelude.{ℕ, List, ◌++◌, codes, decimal}
use Rattle.certificate_rules.specs.declared.certificate.FailurePlace.{FailurePlace}
use Rattle.certificate_rules.specs.declared.certificate.FailurePlace.TheVariants.{Plan, Cost, Cut, Prices, Tree}
use Rattle.certificate_rules.specs.declared.certificate.Reason.{Reason}
use Rattle.certificate_rules.specs.declared.certificate.Reason.TheVariants.{PlanIllegal, CostWrong, CutShape, CutUnproved, TreeShort, TreeLong, SplitFull, BoundLow, CutMisses, ThroughputLow, ProbeWrong, PricesShape, PriceLow, SweptWrong}
use Rattle.cert_text.specs.declared.bad.BadDossier.{BadDossier}
use Rattle.cert_text.specs.declared.bad.BadDossier.TheVariants.{Instance, NoMark, Json, Shape}
use Rattle.run_answers.specs.Texts.{defect_text}

-- a place of a certificate
abbrev pub place_text : FailurePlace → List ℕ
place_text Plan = codes "plan"
place_text Cost = codes "cost"
place_text (Cut number) = codes "cut " ++ decimal number
place_text (Prices number) = codes "prices " ++ decimal number
place_text (Tree number) = codes "tree " ++ decimal number

-- the reasons, numbered from 1
abbrev pub number_of_reason : Reason → ℕ
number_of_reason PlanIllegal = 1
number_of_reason CostWrong = 2
number_of_reason CutShape = 3
number_of_reason CutUnproved = 4
number_of_reason TreeShort = 5
number_of_reason TreeLong = 6
number_of_reason SplitFull = 7
number_of_reason BoundLow = 8
number_of_reason CutMisses = 9
number_of_reason ThroughputLow = 10
number_of_reason ProbeWrong = 11
number_of_reason PricesShape = 12
number_of_reason PriceLow = 13
number_of_reason SweptWrong = 14

abbrev pub name_of_reason : Reason → List ℕ
name_of_reason PlanIllegal = codes "PlanIllegal"
name_of_reason CostWrong = codes "CostWrong"
name_of_reason CutShape = codes "CutShape"
name_of_reason CutUnproved = codes "CutUnproved"
name_of_reason TreeShort = codes "TreeShort"
name_of_reason TreeLong = codes "TreeLong"
name_of_reason SplitFull = codes "SplitFull"
name_of_reason BoundLow = codes "BoundLow"
name_of_reason CutMisses = codes "CutMisses"
name_of_reason ThroughputLow = codes "ThroughputLow"
name_of_reason ProbeWrong = codes "ProbeWrong"
name_of_reason PricesShape = codes "PricesShape"
name_of_reason PriceLow = codes "PriceLow"
name_of_reason SweptWrong = codes "SweptWrong"

-- the first failure of a certificate
unfoldable pub rejected_text : FailurePlace → Reason → List ℕ
rejected_text place reason = codes "rejected " ++ place_text place ++ codes " reason " ++ decimal (number_of_reason reason) ++ codes " " ++ name_of_reason reason ++ codes "\n"

-- a part of the JSON value of a dossier that has not its form
unfoldable pub shape_text : ℕ → List ℕ
shape_text part = codes "dossier fault 4 Shape part " ++ decimal part ++ codes "\n"

-- the first fault of a dossier
abbrev pub fault_text : BadDossier → List ℕ
fault_text (Instance bad) = codes "dossier fault 1 Instance " ++ defect_text bad.line bad.kind
fault_text NoMark = codes "dossier fault 2 NoMark\n"
fault_text Json = codes "dossier fault 3 Json\n"
fault_text (Shape part) = shape_text part
