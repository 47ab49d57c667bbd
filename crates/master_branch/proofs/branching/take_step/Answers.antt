use Rattle.std.proofs.Common.{◌≡◌, ◌+◌, ◌<◌, sym, ap, ◌∙◌, subst}
use Rattle.lock_model.specs.declared.limits.TheConstants.{SHIPS}
use Rattle.lock_rules.specs.Node.{line_at, times_on, IsNode}
use Rattle.lock_rules.proofs.SizeLemmas.{node-kept}
use Rattle.master_branch.specs.Row.{groups_held}
use Rattle.master_branch.specs.Steps.{lines_after, IsStep}
use Rattle.master_branch.proofs.ChildSteps.{may-step}
use Rattle.master_branch.proofs.branching.take_step.Goals as goal

pub enter-requires-clause-known : goal.enter-requires-clause-known
enter-requires-clause-known c =
    (may-step c.args.instance.now c.args.node.now.depth c.args.ship c.args.node.now.lines c.args.step c.requires.node c.requires.lacks c.requires.next c.requires.step).known

pub enter-requires-clause-step : goal.enter-requires-clause-step
enter-requires-clause-step c =
    let may = may-step c.args.instance.now c.args.node.now.depth c.args.ship c.args.node.now.lines c.args.step c.requires.node c.requires.lacks c.requires.next c.requires.step in
    subst (λ lines. IsStep c.args.instance.now c.args.ship lines c.args.step) (sym (ap (λ n. n.lines) c.node.view_is)) may.allowed

pub enter-requires-clause-absent : goal.enter-requires-clause-absent
enter-requires-clause-absent c =
    let may = may-step c.args.instance.now c.args.node.now.depth c.args.ship c.args.node.now.lines c.args.step c.requires.node c.requires.lacks c.requires.next c.requires.step in
    λ d. ap (λ n. times_on c.args.ship (line_at n.lines d)) c.node.view_is ∙ may.absent d

pub enter-requires-clause-room : goal.enter-requires-clause-room
enter-requires-clause-room c =
    let may = may-step c.args.instance.now c.args.node.now.depth c.args.ship c.args.node.now.lines c.args.step c.requires.node c.requires.lacks c.requires.next c.requires.step in
    subst (λ lines. groups_held lines < SHIPS) (sym (ap (λ n. n.lines) c.node.view_is)) may.room

pub returns-clause-node : goal.returns-clause-node
returns-clause-node c =
    let may = may-step c.args.instance.now c.args.node.now.depth c.args.ship c.args.node.now.lines c.args.step c.requires.node c.requires.lacks c.requires.next c.requires.step in
    let lines : lines_after c.args.instance.now c.args.ship c.args.node.now.lines c.args.step ≡ c.enter.new.lines =
    sym (c.enter.ensures ∙ ap (λ n. lines_after c.args.instance.now c.args.ship n.lines c.args.step) c.node.view_is) in
    let depth : c.args.node.now.depth + 1 ≡ c.node.inside.depth + 1 = sym (ap (λ n. n.depth + 1) c.node.view_is) in
    subst (λ n. IsNode c.args.instance.now n c.enter.new.lines) depth (subst (IsNode c.args.instance.now (c.args.node.now.depth + 1)) lines may.node)

pub invariant_of-node : goal.invariant_of-node
invariant_of-node c = node-kept c.args.instance.now (c.node.inside.depth + 1) c.enter.new.lines (returns-clause-node c)
