-- What is written where no plan is.
use Rattle.std.specs.Prelude.{ℕ, List, ◌++◌, codes, decimal}
use Rattle.lock_model.specs.Fleet.{ship_at}
use Rattle.lock_model.specs.declared.instance.Instance.{Instance}
use Rattle.instance_text.specs.declared.bad.Kind.{Kind}
use Rattle.instance_text.specs.declared.bad.Kind.TheVariants.{NotUtf8, NoHeader, Word, Count, Number, Range, Name, Twice, TurnOverPass, NoChamber, NoShip, NoEnd, Unknown, Overlap}

abbrev pub bad_words_text : List ℕ
bad_words_text = codes "bad words\n"

abbrev pub read_fault_text : List ℕ
read_fault_text = codes "read fault\n"

abbrev pub no_memory_text : List ℕ
no_memory_text = codes "no memory\n"

-- the kinds of defect, numbered from 1
abbrev pub number_of : Kind → ℕ
number_of NotUtf8 = 1
number_of NoHeader = 2
number_of Word = 3
number_of Count = 4
number_of Number = 5
number_of Range = 6
number_of Name = 7
number_of Twice = 8
number_of TurnOverPass = 9
number_of NoChamber = 10
number_of NoShip = 11
number_of NoEnd = 12
number_of Unknown = 13
number_of Overlap = 14

abbrev pub name_of : Kind → List ℕ
name_of NotUtf8 = codes "NotUtf8"
name_of NoHeader = codes "NoHeader"
name_of Word = codes "Word"
name_of Count = codes "Count"
name_of Number = codes "Number"
name_of Range = codes "Range"
name_of Name = codes "Name"
name_of Twice = codes "Twice"
name_of TurnOverPass = codes "TurnOverPass"
name_of NoChamber = codes "NoChamber"
name_of NoShip = codes "NoShip"
name_of NoEnd = codes "NoEnd"
name_of Unknown = codes "Unknown"
name_of Overlap = codes "Overlap"

-- the first defect of an instance text
unfoldable pub defect_text : ℕ → Kind → List ℕ
defect_text line kind = codes "line " ++ decimal line ++ codes " fault " ++ decimal (number_of kind) ++ codes " " ++ name_of kind ++ codes "\n"

-- more bytes than the limit
unfoldable pub too_long_text : ℕ → List ℕ
too_long_text limit = codes "too long " ++ decimal limit ++ codes "\n"

-- a ship that no chamber takes
unfoldable pub unfit_text : Instance → ℕ → List ℕ
unfit_text I s = codes "ship " ++ (ship_at I s).name ++ codes " fits no chamber\n"
