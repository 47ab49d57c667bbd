use Rattle.price_bound.proofs.kept_groups.KeptGroups.taken.Goals as goal

pub returns-clause-right : goal.returns-clause-right
returns-clause-right c = c.in_ok-update.ensures.right c.args.self.now.ceilings c.in_ok-own.ensures.right
