use Rattle.price_bound.proofs.kept_groups.KeptGroups.least_by.Goals as goal

pub returns-clause-keeps : goal.returns-clause-keeps
returns-clause-keeps c =
    let case = c.args.case.now in
    c.put_back.ensures.keeps case.instance.now case.depth case.cuts.now c.in_ok-own.ensures.keeps c.least_of-found.ensures.right
