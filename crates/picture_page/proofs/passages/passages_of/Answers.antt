use Rattle.std.proofs.Common.{rules}
use Rattle.picture_page.proofs.PassageLemmas.{known-after}
use Rattle.picture_page.proofs.passages.passages_of.Goals as goal

pub returns-clause-known : goal.returns-clause-known
returns-clause-known c =
    known-after c.args.instance.now c.args.plan.now c.requires.legal c.args.day.now _ c.put_passages.new.passages.items 1 c.args.day.now
    (search rules) c.in_ok-put_passages.ensures c.requires.known
