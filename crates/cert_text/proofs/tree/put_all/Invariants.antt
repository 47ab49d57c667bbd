use Rattle.std.proofs.Common.{◌≡◌, map, take}
use Rattle.std.specs.List.{flat_map}
use Rattle.serde_json.specs.View.{view}
use Rattle.cert_text.specs.Fields.{number_data}
use Rattle.cert_text.specs.Marks.{mark_numbers}
use Rattle.cert_text.proofs.tree.put_all.Given as goal

abbrev pub invariant-loop-mark : goal.invariant-loop-mark
invariant-loop-mark l = map view l.list.items ≡ map number_data (flat_map (mark_numbers l.numbering) (take l.mark-index l.marks))
