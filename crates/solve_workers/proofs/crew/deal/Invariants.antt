use Rattle.std.proofs.Common.{◌≡◌, ◌+◌, ◌≤◌, length, vec_len, vec_capacity, All, sum_by}
use Rattle.solve_workers.proofs.crew.deal.Given as goal

abbrev pub invariant-loop-worker : goal.invariant-loop-worker
invariant-loop-worker g l =
    All (λ s. s.parts ≡ 1) l.shares × (length l.shares + l._worker ≡ l.workers + 1) × (sum_by (λ s. s.parts) l.shares + l._worker ≡ l.workers + 1)
    × (l.seat.table ≡ l.word.table) × (l.seat.view.parts + l._worker ≡ l.workers + 1)
    × (vec_len l.crew ≡ l._worker) × (l.workers ≤ vec_capacity l.crew)
    × All (λ h. h.seat.table ≡ l.word.table) l.crew.items
