use Rattle.std.proofs.Common.{◌≡◌, ◌+◌, refl, arith, sym, subst}
use Rattle.lock_rules.specs.Children.{with_ship}
use Rattle.master_branch.specs.Steps.{group_in}
use Rattle.flow_bounds.specs.Walk.{serve, walk_at}
use Rattle.flow_bounds.specs.Load.{load_at}
use Rattle.flow_bounds.specs.Entering.{IsBehind}
use Rattle.flow_bounds.proofs.LoadLemmas.{load-joined}
use Rattle.flow_bounds.proofs.EnterLemmas.{walk-step, behind-joined}
use Rattle.flow_bounds.proofs.ProbeLemmas.{join-flow}
use Rattle.flow_bounds.proofs.entering.joined.Goals as goal
use Rattle.flow_bounds.proofs.entering.joined.Goals.{After-serve}

-- the group with the ship is served
served : (c : After-serve) → c.serve.result ≡ serve c.args.instance.now c.args.chamber (walk_at c.args.along.now.walks c.args.place) (with_ship c.args.ship (group_in c.args.line.now c.args.place))
served c =
    let I = c.args.instance.now in
    let p = c.args.place in
    let g = group_in c.args.line.now p in
    c.serve.ensures.value (with_ship c.args.ship g) (load-joined I g (load_at c.args.along.now.loads p) c.with_one-load.result c.args.ship (c.requires.along.loads.each p c.requires.place) c.with_one-load.ensures.value)

pub returns-clause-entered : goal.returns-clause-entered
returns-clause-entered c =
    let I = c.args.instance.now in
    let ch = c.args.chamber in
    let line = c.args.line.now in
    let ws = c.args.along.now.walks in
    let p = c.args.place in
    let walks = c.requires.along.walks in
    let g = group_in line p in
    let behind = behind-joined I ch c.requires.chamber_in (walk_at ws p) c.args.ship g in
    record {
      within = omega (arith, c.requires.place);
      behind = subst (λ w. IsBehind I ch w (walk_at ws (p + 1))) (sym (served c)) (subst (IsBehind I ch (serve I ch (walk_at ws p) (with_ship c.args.ship g))) (sym (walk-step I ch line ws walks p c.requires.place g refl)) behind);
      done = omega (arith, c.serve.ensures.done, walks.done p (omega (arith, c.requires.place)));
      flow = omega (arith, c.serve.ensures.done, c.serve.ensures.flow, c.requires.few, c.requires.place, walks.done p (omega (arith, c.requires.place)), walks.flow p (omega (arith, c.requires.place)));
    }

pub returns-clause-flow : goal.returns-clause-flow
returns-clause-flow c =
    let I = c.args.instance.now in
    let line = c.args.line.now in
    let p = c.args.place in
    join-flow I c.args.chamber line c.args.along.now.walks c.requires.along.walks p c.requires.place (with_ship c.args.ship (group_in line p)) c.serve.result _ (served c) refl
