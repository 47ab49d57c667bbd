use Rattle.std.proofs.Common.{◌≡◌, ℕ, ◌<◌, false, get_or}
use Rattle.std.specs.Str.{bytes_eq}
use Rattle.lock_model.specs.Fleet.{no_chamber}
use Rattle.plan_text.proofs.named.chamber_named.Given as goal

abbrev pub invariant-loop-place : goal.invariant-loop-place
invariant-loop-place l = (k : ℕ) → k < l.place → bytes_eq l.word (get_or l.chambers k no_chamber).name ≡ false
