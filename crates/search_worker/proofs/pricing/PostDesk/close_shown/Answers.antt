use Rattle.search_worker.proofs.EndLemmas.{ends_anyhow}
use Rattle.search_worker.proofs.pricing.PostDesk.close_shown.Goals as goal

pub returns-clause-ends : goal.returns-clause-ends
returns-clause-ends g c = ends_anyhow c.args.worker.now c.finish_by.new.worker c.finish_by.result
