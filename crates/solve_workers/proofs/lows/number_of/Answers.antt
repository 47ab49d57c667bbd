use Rattle.solve_workers.proofs.ShowingLemmas.{prices_only}
use Rattle.solve_workers.proofs.lows.number_of.Goals as goal

pub returns : goal.returns
returns c = prices_only c.args.book.now c.args.prices.now c.post_prices.result c.post_prices.new.self c.post_prices.ensures
