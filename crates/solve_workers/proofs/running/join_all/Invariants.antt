use Rattle.std.proofs.Common.{◌≡◌, ◌+◌, ◌≤◌, vec_len, vec_capacity, All}
use Rattle.solve_workers.proofs.running.join_all.Given as goal

abbrev pub invariant-loop-handle : goal.invariant-loop-handle
invariant-loop-handle g l =
    (vec_len l.running + vec_len l.ended ≡ vec_len l.initial.running + vec_len l.initial.ended)
    × (vec_len l.running + vec_len l.ended ≤ vec_capacity l.ended)
    × All (λ h. h.promise.0.value.table ≡ l.post.word.now.table) l.running.items
    × All (λ h. h.seat.table ≡ l.post.word.now.table) l.ended.items

abbrev pub decreases-loop-handle : goal.decreases-loop-handle
decreases-loop-handle g l = vec_len l.running
