use Rattle.std.proofs.Common.{ℕ, List, ◌≡◌, ◌<◌, ◌++◌, ◌∙◌, length, All, ap, sym, subst, arith}
use Rattle.std.specs.List.{flat_map}
use Rattle.std.proofs.lemmas.List.{length-append}
use Rattle.lock_model.specs.declared.group.Group.{Group}
use Rattle.lock_model.specs.declared.plan.Lockage.{Lockage}
use Rattle.lock_rules.specs.Arrival.{numbers_from}
use Rattle.lock_rules.specs.Bound.{bound_of}
use Rattle.lock_rules.specs.Leaf.{lockages_on, plan_of}
use Rattle.lock_rules.specs.Node.{line_at}
use Rattle.lock_rules.specs.Plan.{IsLegal, cost_of}
use Rattle.lock_rules.proofs.NodeLemmas.{line-known}
use Rattle.node_work.specs.Moorings.{spots_by}
use Rattle.node_work.proofs.LeafLemmas.{chambers_step, sizes_step, room_for, line_length}
use Rattle.node_work.proofs.WholeLemmas.{whole_legal, whole_cost}
use Rattle.node_work.proofs.leaf.leaf_plan.Goals as goal

pub append_line-requires-clause-ships_in : goal.append_line-requires-clause-ships_in
append_line-requires-clause-ships_in c =
    let I = c.args.instance.now in
    let n = c.args.node.now in
    subst (All (λ (g : Group). All (λ s. s < length I.ships) g.ships)) (sym c.line.ensures.value) (line-known I n.depth n.lines c.requires.node c.loop-chamber.chamber)

pub append_line-requires-clause-room : goal.append_line-requires-clause-room
append_line-requires-clause-room c =
    let I = c.args.instance.now in
    let n = c.args.node.now in
    let here : c.loop-chamber.chamber < length I.chambers = omega (arith, c.loop-chamber-test.true, ap length c.as_slice.ensures.value) in
    omega (arith, c.loop-chamber.invariant.1, room_for I n.depth n.lines c.requires.node c.loop-chamber.chamber here, c.requires.whole, I.limits.ship_count.1, ap length c.line.ensures.value)

pub loop-chamber-preserved : goal.loop-chamber-preserved
loop-chamber-preserved c =
    let I = c.args.instance.now in
    let n = c.args.node.now in
    let at = c.loop-chamber.chamber in
    let f : ℕ → List Lockage = λ c'. lockages_on I c' (spots_by c.args.moorings.now c') (line_at n.lines c') in
    let line = ap (lockages_on I at (spots_by c.args.moorings.now at)) c.line.ensures.value in
    let grown : c.append_line.new.lockages ≡ c.loop-chamber.lockages ++ f at = c.append_line.ensures.value ∙ ap (λ ls. c.loop-chamber.lockages ++ ls) line in (
      grown ∙ ap (λ ls. ls ++ f at) c.loop-chamber.invariant.0 ∙ sym (chambers_step f at),
      omega (arith, ap length grown, length-append c.loop-chamber.lockages (f at), line_length I at (spots_by c.args.moorings.now at) (line_at n.lines at), c.loop-chamber.invariant.1, sizes_step n.lines at),
    )

pub returns-clause-legal : goal.returns-clause-legal
returns-clause-legal c =
    let I = c.args.instance.now in
    let n = c.args.node.now in
    let all : c.loop-chamber.chamber ≡ length I.chambers = omega (arith, ap length c.as_slice.ensures.value, c.loop-chamber-test.false, c.loop-chamber.auto.chamber-end) in
    let same : plan_of I (spots_by c.args.moorings.now) n.lines ≡ record { lockages = c.loop-chamber.lockages } = ap (λ ls. record { lockages = ls }) (sym (c.loop-chamber.invariant.0 ∙ ap (λ m. flat_map (λ c'. lockages_on I c' (spots_by c.args.moorings.now c') (line_at n.lines c')) (numbers_from 0 m)) all)) in
    subst (IsLegal I) same (whole_legal I n.depth n.lines c.args.moorings.now c.requires.node c.requires.whole c.requires.moored)

pub returns-clause-cost : goal.returns-clause-cost
returns-clause-cost c =
    let I = c.args.instance.now in
    let n = c.args.node.now in
    let all : c.loop-chamber.chamber ≡ length I.chambers = omega (arith, ap length c.as_slice.ensures.value, c.loop-chamber-test.false, c.loop-chamber.auto.chamber-end) in
    let same : plan_of I (spots_by c.args.moorings.now) n.lines ≡ record { lockages = c.loop-chamber.lockages } = ap (λ ls. record { lockages = ls }) (sym (c.loop-chamber.invariant.0 ∙ ap (λ m. flat_map (λ c'. lockages_on I c' (spots_by c.args.moorings.now c') (line_at n.lines c')) (numbers_from 0 m)) all)) in
    subst (λ P. cost_of I P ≡ bound_of I n.depth n.lines) same (whole_cost I n.depth n.lines c.args.moorings.now c.requires.node c.requires.whole c.requires.moored)
