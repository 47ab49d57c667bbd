use Rattle.std.proofs.Common.{◌≡◌, ◌+◌, length, sum_by, All}
use Rattle.search_book.proofs.sharing.cut_shares.Given as goal

abbrev pub invariant-loop-i : goal.invariant-loop-i
invariant-loop-i g l =
    (l.all.parts + l._i ≡ l.workers + 1) × (l.all.amount ≡ l.initial.all.amount) × (length l.shares ≡ l._i)
    × All (λ s. s.parts ≡ 1) l.shares × (sum_by (λ s. s.amount) l.shares ≡ 0) × (sum_by (λ s. s.parts) l.shares ≡ l._i)
