use Rattle.std.proofs.Common.{◌∙◌, sym}
use Rattle.cert_text.specs.Plans.{spot_in}
use Rattle.cert_text.proofs.ListLemmas.{counted, miscounted}
use Rattle.cert_text.proofs.spots.spots_items.Goals as goal

pub returns-then-list-count : goal.returns-then-list-count
returns-then-list-count c = miscounted spot_in c.args.list.now c.args.count c.if-list-count.true

pub returns : goal.returns
returns c = c.all_in.ensures ∙ sym (counted spot_in c.args.list.now c.args.count c.if-list-count.false)
