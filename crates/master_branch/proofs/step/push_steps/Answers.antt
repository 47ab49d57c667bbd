use Rattle.std.proofs.Common.{◌++◌, ◌+◌, length, arith, ap, ◌∙◌, append_assoc}
use Rattle.std.proofs.lemmas.List.{length-append}
use Rattle.lock_model.specs.Fleet.{no_ship, no_chamber}
use Rattle.master_branch.specs.declared.step.Step.{Step}
use Rattle.master_branch.specs.Steps.{opens_at}
use Rattle.master_branch.proofs.StepLemmas.{read_as, steps_at-is, steps_at-parts}
use Rattle.master_branch.proofs.step.push_steps.Goals as goal

pub push_joins-requires-clause-room : goal.push_joins-requires-clause-room
push_joins-requires-clause-room c =
    let most = ap (λ ch. ch.most) (read_as c.as_slice-2.result.now c.args.instance.now.chambers c.args.chamber c.index-as_slice-chamber.result no_chamber c.as_slice-2.ensures.value c.requires.chamber_in) in
    let way = ap (λ sh. sh.way) (read_as c.as_slice.result.now c.args.instance.now.ships c.args.ship c.index-as_slice-ship.result no_ship c.as_slice.ensures.value c.requires.ship_in) in
    let line = c.line-line.ensures.value in
    omega (arith, steps_at-parts c.args.instance.now c.args.ship c.args.node.now.lines c.args.chamber _ _ _ most way line)

pub push_opens-requires : goal.push_opens-requires
push_opens-requires c =
    let most = ap (λ ch. ch.most) (read_as c.as_slice-2.result.now c.args.instance.now.chambers c.args.chamber c.index-as_slice-chamber.result no_chamber c.as_slice-2.ensures.value c.requires.chamber_in) in
    let way = ap (λ sh. sh.way) (read_as c.as_slice.result.now c.args.instance.now.ships c.args.ship c.index-as_slice-ship.result no_ship c.as_slice.ensures.value c.requires.ship_in) in
    let line = c.line-line.ensures.value in
    omega (arith, steps_at-parts c.args.instance.now c.args.ship c.args.node.now.lines c.args.chamber _ _ _ most way line, ap length c.push_joins.ensures, length-append {A = Step})

pub returns : goal.returns
returns c =
    let most = ap (λ ch. ch.most) (read_as c.as_slice-2.result.now c.args.instance.now.chambers c.args.chamber c.index-as_slice-chamber.result no_chamber c.as_slice-2.ensures.value c.requires.chamber_in) in
    let way = ap (λ sh. sh.way) (read_as c.as_slice.result.now c.args.instance.now.ships c.args.ship c.index-as_slice-ship.result no_ship c.as_slice.ensures.value c.requires.ship_in) in
    let line = c.line-line.ensures.value in
    let is = steps_at-is c.args.instance.now c.args.ship c.args.node.now.lines c.args.chamber _ _ _ most way line in
    c.push_opens.ensures ∙ ap (λ xs. xs ++ opens_at c.args.chamber (length c.line-line.result.now + 1)) c.push_joins.ensures ∙ append_assoc c.args.steps.now _ _ ∙ ap (λ xs. c.args.steps.now ++ xs) is
