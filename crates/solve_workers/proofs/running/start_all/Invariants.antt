use Rattle.std.proofs.Common.{◌≡◌, ◌+◌, ◌≤◌, vec_len, vec_capacity, All}
use Rattle.lock_model.specs.declared.limits.TheConstants.{WORKERS}
use Rattle.solve_workers.proofs.running.start_all.Given as goal

abbrev pub invariant-loop-hands : goal.invariant-loop-hands
invariant-loop-hands g l =
    (vec_len l.crew + vec_len l.running + vec_len l.ended ≡ vec_len l.initial.crew)
    × (vec_len l.initial.crew ≤ WORKERS)
    × (vec_len l.initial.crew ≤ vec_capacity l.running) × (vec_len l.initial.crew ≤ vec_capacity l.ended)
    × All (λ h. h.seat.table ≡ l.post.word.now.table) l.crew.items
    × All (λ h. h.promise.0.value.table ≡ l.post.word.now.table) l.running.items
    × All (λ h. h.seat.table ≡ l.post.word.now.table) l.ended.items

abbrev pub decreases-loop-hands : goal.decreases-loop-hands
decreases-loop-hands g l = vec_len l.crew
