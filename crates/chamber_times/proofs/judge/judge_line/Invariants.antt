use Rattle.std.proofs.Common.{◌≡◌, ◌≤◌, ◌^◌, take}
use Rattle.lock_model.specs.Fleet.{chamber_at}
use Rattle.chamber_times.specs.Walk.{lockages_at}
use Rattle.chamber_times.specs.FirstBreak.{AreTimely, stand_after_all, done_after_all}
use Rattle.chamber_times.proofs.judge.judge_line.Given as goal

abbrev pub invariant-loop-place : goal.invariant-loop-place
invariant-loop-place l = record {
  timely : AreTimely l.instance l.chamber (lockages_at l.plan (take l.place-index l.place-items));
  stand : l.stand ≡ stand_after_all (chamber_at l.instance l.chamber).stands (lockages_at l.plan (take l.place-index l.place-items));
  from : l.from ≡ done_after_all l.instance l.chamber (chamber_at l.instance l.chamber).opens (lockages_at l.plan (take l.place-index l.place-items));
  small : l.from ≤ 2 ^ 33;
}
