use Rattle.std.proofs.Common.{rules}
use Rattle.solve_workers.proofs.GrowLemmas.{post_granted}
use Rattle.solve_workers.proofs.opening.post_copy.Goals as goal

pub posted-requires : goal.posted-requires
posted-requires c =
    let copy = c.in_ok-copy_cut.field-0 in
    post_granted c.args.book.now copy c.post-reply.result c.post-reply.new.self (search rules) c.post-reply.ensures
