use Rattle.std.proofs.Common.{rules, ◌≡◌, sym, arith}
use Rattle.solve_workers.proofs.CrewLemmas.{one_longer, sum_with}
use Rattle.solve_workers.proofs.crew.hands_from.Goals as goal

pub returns-clause-count : goal.returns-clause-count
returns-clause-count g c = sym (one_longer c.pop.new.self c.args.shares.now c.in-Some.share c.in-Some.ensures.items)

pub returns-clause-rest : goal.returns-clause-rest
returns-clause-rest g c =
    let all = sum_with c.pop.new.self c.args.shares.now c.in-Some.share c.in-Some.ensures.items (λ s. s.parts) in
    let one : c.in-Some.share.parts ≡ 1 = search rules in
    omega (arith, all, one)
