use Rattle.std.proofs.Common.{subst, sym}
use Rattle.picture_page.specs.KnownPassages.{AreKnown}
use Rattle.picture_page.proofs.page.print_picture.Goals as goal

pub page_with-requires-clause-known : goal.page_with-requires-clause-known
page_with-requires-clause-known c =
    subst (AreKnown c.args.instance.now c.args.plan.now) (sym c.as_slice.ensures.value) c.in_ok-passages.ensures.known
