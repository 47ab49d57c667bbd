use Rattle.search_book.proofs.GoingLemmas.{held-own, own-held}
use Rattle.search_book.proofs.going.is_at.Goals as goal

pub returns-in-Some : goal.returns-in-Some
returns-in-Some c =
    let b = c.args.book.now in
    let own = c.in-Some.own.now in
    let node = c.args.node.now in
    (λ t. held-own b c.args.id own node c.in-Some.ensures.held c.in-Some.ensures.some (c.equals.ensures.0 t), λ held. c.equals.ensures.1 (own-held b c.args.id own node c.in-Some.ensures.some held))
