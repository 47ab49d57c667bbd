use Rattle.std.proofs.Common.{◌≡◌, ◌+◌, ◌*◌, ◌<◌, length, All}
use Rattle.std.specs.Bool.{OnTrue}
use Rattle.search_book.specs.Granting.{IsFirstAt}
use Rattle.search_book.proofs.GoingLemmas.{Went}
use Rattle.search_book.proofs.going.go_ahead.Given as goal

abbrev pub invariant-loop-ahead : goal.invariant-loop-ahead
invariant-loop-ahead g l =
    Went l.worker l.initial.kept.book.value l.id l.stretch.nodes.items l.kept.book.value l.held l.ahead l.place
    × (0 < length l.ahead) × (l.place + length l.ahead ≡ length l.stretch.nodes.items)
    × All (λ a. a.foreseen.instance.now ≡ l.stretch.instance.now) l.ahead
    × OnTrue l.may (l.stretch.instance.now ≡ l.kept.book.value.case.instance) × OnTrue l.may (IsFirstAt l.kept.book.value l.held l.ahead)
    × (l.kept.tally.total ≡ l.initial.kept.tally.total + 2 * l.place) × (l.share.amount ≡ l.initial.share.amount + 2 * l.place)
    × (l.share.parts ≡ l.initial.share.parts)

abbrev pub decreases-loop-ahead : goal.decreases-loop-ahead
decreases-loop-ahead g l = length l.ahead
