-- What is written for the first fault of a plan text.
use Rattle.std.specs.Prelude.{ℕ, List, ◌++◌, codes, decimal}
use Rattle.plan_text.specs.declared.kinds.PlanKind.{PlanKind}
use Rattle.plan_text.specs.declared.kinds.PlanKind.TheVariants.{NotUtf8, NoMark, Word, Count, Number, Range, Unknown, Twice, Loose, Host, NoEnd}

-- the kinds of fault, numbered from 1
abbrev pub number_of : PlanKind → ℕ
number_of NotUtf8 = 1
number_of NoMark = 2
number_of Word = 3
number_of Count = 4
number_of Number = 5
number_of Range = 6
number_of Unknown = 7
number_of Twice = 8
number_of Loose = 9
number_of Host = 10
number_of NoEnd = 11

abbrev pub name_of : PlanKind → List ℕ
name_of NotUtf8 = codes "NotUtf8"
name_of NoMark = codes "NoMark"
name_of Word = codes "Word"
name_of Count = codes "Count"
name_of Number = codes "Number"
name_of Range = codes "Range"
name_of Unknown = codes "Unknown"
name_of Twice = codes "Twice"
name_of Loose = codes "Loose"
name_of Host = codes "Host"
name_of NoEnd = codes "NoEnd"

-- the line, counted from 1 after the instance, and the kind of a fault
unfoldable pub fault_text : ℕ → PlanKind → List ℕ
fault_text line kind = codes "plan line " ++ decimal line ++ codes " fault " ++ decimal (number_of kind) ++ codes " " ++ name_of kind ++ codes "\n"
