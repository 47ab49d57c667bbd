use Rattle.std.proofs.Common.{arith}
use Rattle.std.proofs.lemmas.Int.{ints, to_z-of_z}
use Rattle.price_raise.proofs.RaiseLemmas.{weighed_still}
use Rattle.price_raise.proofs.ascent.Ascent.raise.Goals as goal

pub returns-clause-weighed : goal.returns-clause-weighed
returns-clause-weighed c = grind (arith, ints, to_z-of_z, weighed_still)
