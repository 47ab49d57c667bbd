use Rattle.cert_text.proofs.PriceLemmas.{too_many}
use Rattle.cert_text.proofs.prices.items_prices.Goals as goal

pub returns-then-list-most : goal.returns-then-list-most
returns-then-list-most c = too_many c.args.most c.args.list.now c.if-list-most.true
