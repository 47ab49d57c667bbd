-- What ties a worker to its post.
use Rattle.std.specs.Prelude.{◌≡◌, All}
use Rattle.boxcar.specs.Table.{Shows}
use Rattle.search_worker.specs.declared.post.Post.{Post}
use Rattle.search_worker.specs.declared.worker.Worker.{Worker}

-- its seat is of the shared word, and its tokens are of the shared pool
pub record Serves {L W G : Type 0} (post : Post L W G) (worker : Worker L) : Type 0 where
  pub seated : worker.hands.seat.table ≡ post.word.now.table
  pub posted : All (λ token. Shows post.pool.now token) worker.tokens
