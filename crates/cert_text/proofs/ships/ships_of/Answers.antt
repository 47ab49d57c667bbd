use Rattle.cert_text.proofs.ShipLemmas.{too_many}
use Rattle.cert_text.proofs.ships.ships_of.Goals as goal

pub returns-then-list-gt-MOST : goal.returns-then-list-gt-MOST
returns-then-list-gt-MOST c = too_many c.args.list.now c.if-list-gt-MOST.true
