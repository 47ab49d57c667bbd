use Rattle.std.proofs.Common.{◌≡◌, ◌++◌, take}
use Rattle.std.specs.List.{flat_map}
use Rattle.plan_commands.specs.Playing.{beat_line}
use Rattle.plan_commands.proofs.day_text.put_beats.Given as goal

abbrev pub invariant-loop-beat : goal.invariant-loop-beat
invariant-loop-beat l = l.out.items ≡ l.initial.out.items ++ flat_map (beat_line l.instance l.plan) (take l.beat-index l.beats)
