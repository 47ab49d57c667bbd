use Rattle.std.proofs.Common.{◌≡◌, ◌++◌, take}
use Rattle.std.specs.List.{flat_map}
use Rattle.picture_page.specs.Passages.{passage_events}
use Rattle.picture_page.proofs.events.put_all_events.Given as goal

abbrev pub invariant-loop-passage : goal.invariant-loop-passage
invariant-loop-passage l = l.events.items ≡ l.initial.events.items ++ flat_map (passage_events l.instance) (take l.passage-index l.passages)
