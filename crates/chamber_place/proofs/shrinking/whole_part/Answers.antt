use Rattle.chamber_place.proofs.PartLemmas.{whole-is}
use Rattle.chamber_place.proofs.shrinking.whole_part.Goals as goal

pub returns : goal.returns
returns c = whole-is c.args.deck.now c.ship_count.result c.all_places.result c.args.refutation c.ship_count.ensures.value c.ship_count.ensures.some c.all_places.ensures c.requires
