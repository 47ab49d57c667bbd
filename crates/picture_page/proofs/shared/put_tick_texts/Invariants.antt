use Rattle.std.proofs.Common.{◌≡◌, ◌++◌, take}
use Rattle.std.specs.List.{flat_map}
use Rattle.picture_page.specs.Shared.{tick_text}
use Rattle.picture_page.proofs.shared.put_tick_texts.Given as goal

abbrev pub invariant-loop-tick : goal.invariant-loop-tick
invariant-loop-tick l = l.out.items ≡ l.initial.out.items ++ flat_map (tick_text l.clock) (take l.tick-index l.ticks)
