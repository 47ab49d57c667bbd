use Rattle.price_bound.proofs.kept_groups.KeptGroups.least.Goals as goal

pub least_by-requires-clause-keeps : goal.least_by-requires-clause-keeps
least_by-requires-clause-keeps c =
    let case = c.args.case.now in
    c.rise_to.ensures.keeps case.instance.now case.depth case.cuts.now c.requires
