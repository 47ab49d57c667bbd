use Rattle.std.proofs.Common.{◌≡◌, ◌++◌, map, take}
use Rattle.serde_json.specs.View.{view}
use Rattle.cert_text.specs.Fields.{number_data}
use Rattle.cert_text.proofs.ships.push_bytes.Given as goal

abbrev pub invariant-loop-number : goal.invariant-loop-number
invariant-loop-number l = map view l.list.items ≡ map view l.initial.list.items ++ map number_data (take l.number-index l.numbers)
