use Rattle.std.proofs.Common.{◌≡◌, ◌+◌, length, vec_len, sum_by, All}
use Rattle.solve_workers.proofs.crew.gather.Given as goal

abbrev pub invariant-loop-hands : goal.invariant-loop-hands
invariant-loop-hands g l =
    (length l.shares + vec_len l.crew ≡ length l.initial.shares + vec_len l.initial.crew)
    × (l.seat.table ≡ l.word.table) × (l.seat.view.parts + vec_len l.crew ≡ l.initial.seat.view.parts + vec_len l.initial.crew)
    × All (λ h. h.seat.table ≡ l.word.table) l.crew.items
    × (sum_by (λ s. s.parts) l.shares + vec_len l.crew ≡ sum_by (λ s. s.parts) l.initial.shares + vec_len l.initial.crew)

abbrev pub decreases-loop-hands : goal.decreases-loop-hands
decreases-loop-hands g l = vec_len l.crew
