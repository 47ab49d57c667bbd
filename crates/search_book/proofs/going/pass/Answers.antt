use Rattle.std.proofs.Common.{rules, ◌≡◌, Some, subst}
use Rattle.book_core.specs.Replies.{Grants, HasNode, grant_told, told}
use Rattle.search_book.specs.Granting.{IsAstray, IsFirstAt}
use Rattle.search_book.proofs.GoingLemmas.{passes, stops}
use Rattle.search_book.proofs.going.pass.Goals as goal

pub returns-in-Some-clause-on : goal.returns-in-Some-clause-on
returns-in-Some-clause-on g c =
    let between = c.apply-reply.new.kept.book.value in
    let new = c.take_slot-grant.new.kept.book.value in
    passes c.args.kept.now.book.value c.args.ending c.apply-reply.result between c.apply-reply.ensures.step (search rules)
    c.args.worker c.in-Some.id c.args.rest.now new (subst (λ t. Grants between c.args.worker t new) c.in-Some.ensures.some.0 c.take_slot-grant.ensures.step)
    (subst (λ b. IsFirstAt b c.in-Some.id c.args.rest.now) c.deref.ensures c.in-Some.ensures.some.1)

pub returns-in-None-clause-off : goal.returns-in-None-clause-off
returns-in-None-clause-off g c =
    let grant = c.take_slot-grant.result in
    let reply = c.grant_reply.result in
    stops c.args.kept.now.book.value c.args.ending c.apply-reply.result c.apply-reply.new.kept.book.value c.apply-reply.ensures.step (search rules)
    c.args.worker grant c.args.rest.now c.take_slot-grant.new.kept.book.value c.take_slot-grant.ensures.step c.take_slot-grant.ensures.held
    (subst (λ b. IsAstray b grant c.args.rest.now) c.deref.ensures c.in-None.ensures.none)
    reply (subst (λ b. told reply ≡ Some (grant_told b grant)) c.deref-in-None.ensures c.grant_reply.ensures.told) (subst (λ b. HasNode b.case.instance reply) c.deref-in-None.ensures c.grant_reply.ensures.node)
