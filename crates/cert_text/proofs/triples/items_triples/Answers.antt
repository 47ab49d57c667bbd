use Rattle.cert_text.proofs.TripleLemmas.{too_many}
use Rattle.cert_text.proofs.triples.items_triples.Goals as goal

pub returns-then-list-gt-TRIPLES : goal.returns-then-list-gt-TRIPLES
returns-then-list-gt-TRIPLES c = too_many c.args.prices.now c.args.list.now c.if-list-gt-TRIPLES.true
