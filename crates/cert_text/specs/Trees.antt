-- Trees of marks as JSON values: the numbers of their marks, one after the other.
use Rattle.std.specs.Prelude.{ℕ, ◌++◌, List, [], ◌∷◌, Option, None, Some}
use Rattle.std.specs.List.{flat_map}
use Rattle.serde_json.specs.Data.{Data, Items, no_items, item}
use Rattle.serde_json.specs.Find.{as_array}
use Rattle.certificate_rules.specs.declared.certificate.Mark.{Mark}
use Rattle.cert_text.specs.declared.marks.PriceMark.{PriceMark}
use Rattle.cert_text.specs.declared.marks.Told.{Told}
use Rattle.cert_text.specs.declared.marks.Told.TheVariants.{Ended, Begun}
use Rattle.cert_text.specs.Steps.{◌>>=◌}
use Rattle.cert_text.specs.Fields.{numbers_data}

-- the mark that a number ends, if it does, and the one of two numbers that it begins
abbrev pub listed : Told → List Mark
listed (Ended m) = m ∷ []
listed (Begun kind) = []

abbrev pub begun_behind : Told → Option PriceMark
begun_behind (Ended m) = None
begun_behind (Begun kind) = Some kind

-- the marks that numbers say, the last of which ends one: `told` is what a number says, behind one that begins a mark or not
abbrev pub marks_in : (Option PriceMark → Data → Option Told) → Option PriceMark → Items → Option (List Mark)
marks_in told (Some kind) no_items = None
marks_in told None no_items = Some []
marks_in told begun (item d more) = do
  mark ← told begun d
  marks ← marks_in told (begun_behind mark) more
  Some (listed mark ++ marks)

abbrev pub tree_data : (Mark → List ℕ) → List Mark → Data
tree_data numbers marks = numbers_data (flat_map numbers marks)

abbrev pub tree_in : (Option PriceMark → Data → Option Told) → Data → Option (List Mark)
tree_in told d = do
  items ← as_array d
  marks_in told None items
