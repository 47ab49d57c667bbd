use Rattle.std.proofs.Common.{◌≡◌}
use Rattle.search_worker.specs.Serving.{Serves}
use Rattle.search_worker.proofs.searching.search_slots.Given as goal

abbrev pub invariant-loop : goal.invariant-loop
invariant-loop g l =
    (goal.iterator-loop g).can_next l.iterator' × (goal.iterator-loop g).is_finite l.iterator'
    × Serves l.post l.worker × (l.stretch.instance.now ≡ l.post.search.instance.now)
