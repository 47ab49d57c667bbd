use Rattle.std.proofs.Common.{◌≡◌, ◌<◌, length}
use Rattle.search_worker.specs.Serving.{Serves}
use Rattle.search_worker.proofs.walking.walk.Given as goal

abbrev pub invariant-loop : goal.invariant-loop
invariant-loop g l = Serves l.post l.worker × (l.stretch.instance.now ≡ l.post.search.instance.now) × 0 < length l.stretch.nodes.items
