use Rattle.std.proofs.Common.{◌≡◌, ◌∙◌, ◌≤◌, length, rules, arith}
use Rattle.lock_rules.specs.Arrival.{order_of}
use Rattle.search_worker.proofs.OwnLemmas.{node_from, deep_from, own_from}
use Rattle.search_worker.proofs.trusting.is_node_of.Goals as goal

pub returns-then-depth-order : goal.returns-then-depth-order
returns-then-depth-order c =
    let I = c.args.instance.now in
    let node = c.args.node.now in
    let order = c.as_slice-order.result.now in
    let by_arrival : order ≡ order_of I = c.as_slice-order.ensures.value ∙ c.requires in (
      λ own. node_from I node.depth c.depth-depth.result order node.lines by_arrival c.depth-depth.ensures.value c.depth-depth.ensures.kept c.if-depth-order.true (c.are_own_lines.ensures.0 own),
      λ is. c.are_own_lines.ensures.1 (own_from I node.depth c.depth-depth.result order node.lines by_arrival c.depth-depth.ensures.value is),
    )

pub returns-else-depth-order : goal.returns-else-depth-order
returns-else-depth-order c =
    let I = c.args.instance.now in
    let node = c.args.node.now in
    let order = c.as_slice-order.result.now in
    let by_arrival : order ≡ order_of I = c.as_slice-order.ensures.value ∙ c.requires in (
      λ is.
          let deep : c.depth-depth.result ≤ length order = search rules in
          absurd (omega (arith, deep, c.if-depth-order.false)),
      λ is.
          let deep : c.depth-depth.result ≤ length order = deep_from I node.depth c.depth-depth.result order node.lines by_arrival c.depth-depth.ensures.value is in
          search rules,
    )
