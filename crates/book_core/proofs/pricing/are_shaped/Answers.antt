use Rattle.std.proofs.Common.{ap, length}
use Rattle.book_core.proofs.PostLemmas.{told-shape}
use Rattle.book_core.proofs.pricing.are_shaped.Goals as goal

pub returns : goal.returns
returns c =
    told-shape c.are_of.result c.args.instance.now c.args.prices.now (length c.as_slice.result.now) (ap length c.as_slice.ensures.value) c.are_of.ensures
