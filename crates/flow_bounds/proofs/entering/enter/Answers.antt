use Rattle.std.proofs.Common.{◌≡◌, arith, ap, subst, slice_set, drop}
use Rattle.std.specs.List.{insert}
use Rattle.lock_model.specs.Fleet.{ship_at}
use Rattle.lock_rules.specs.Node.{line_at}
use Rattle.lock_rules.specs.Children.{with_ship, single}
use Rattle.lock_rules.specs.Bound.{line_flow, node_flow}
use Rattle.master_branch.specs.declared.step.Step.TheVariants.{Join, Open}
use Rattle.master_branch.specs.Steps.{group_in, lines_after, IsStep}
use Rattle.flow_bounds.specs.Walk.{serve_all, chamber_of}
use Rattle.flow_bounds.proofs.ProbeLemmas.{flow-set}
use Rattle.flow_bounds.proofs.entering.enter.Goals as goal

pub returns-in-Join-clause-flow : goal.returns-in-Join-clause-flow
returns-in-Join-clause-flow c =
    let I = c.args.instance.now in
    let lines = c.args.node.now.lines in
    let s = c.args.ship in
    let ch = c.in-Join.chamber in
    let p = c.in-Join.place in
    let same : c.line-line.result.now ≡ line_at lines ch = c.line-line.ensures.value in
    let step : IsStep I s lines (Join ch p) = subst (IsStep I s lines) c.in-Join.is c.requires.step in
    let after = ap (λ x. node_flow I (lines_after I s lines x)) c.in-Join.is in
    let new = ap (λ line. line_flow I ch (slice_set line p (with_ship s (group_in line p)))) same in
    let walked = ap (λ x. (serve_all I (chamber_of x) c.joined.result.walk (drop c.joined.result.from (line_at lines (chamber_of x)))).flow) c.in-Join.is in
    let walked_on = ap (λ line. (serve_all I ch c.joined.result.walk (drop c.joined.result.from line)).flow) same in
    let old = ap (λ x. line_flow I (chamber_of x) (line_at lines (chamber_of x))) c.in-Join.is in
    omega (
      arith,
      after,
      new,
      walked,
      walked_on,
      old,
      c.joined.ensures.flow,
      flow-set I lines ch (slice_set (line_at lines ch) p (with_ship s (group_in (line_at lines ch) p))) step.0 (omega (arith, step.0, c.requires.node.four, I.limits.chamber_count.1)),
    )

pub returns-in-Open-clause-flow : goal.returns-in-Open-clause-flow
returns-in-Open-clause-flow c =
    let I = c.args.instance.now in
    let lines = c.args.node.now.lines in
    let s = c.args.ship in
    let ch = c.in-Open.chamber in
    let p = c.in-Open.place in
    let same : c.line-line-in-Open.result.now ≡ line_at lines ch = c.line-line-in-Open.ensures.value in
    let step : IsStep I s lines (Open ch p) = subst (IsStep I s lines) c.in-Open.is c.requires.step in
    let after = ap (λ x. node_flow I (lines_after I s lines x)) c.in-Open.is in
    let new = ap (λ line. line_flow I ch (insert line p (single (ship_at I s).way s))) same in
    let walked = ap (λ x. (serve_all I (chamber_of x) c.opened.result.walk (drop c.opened.result.from (line_at lines (chamber_of x)))).flow) c.in-Open.is in
    let walked_on = ap (λ line. (serve_all I ch c.opened.result.walk (drop c.opened.result.from line)).flow) same in
    let old = ap (λ x. line_flow I (chamber_of x) (line_at lines (chamber_of x))) c.in-Open.is in
    omega (
      arith,
      after,
      new,
      walked,
      walked_on,
      old,
      c.opened.ensures.flow,
      flow-set I lines ch (insert (line_at lines ch) p (single (ship_at I s).way s)) step.0 (omega (arith, step.0, c.requires.node.four, I.limits.chamber_count.1)),
    )
