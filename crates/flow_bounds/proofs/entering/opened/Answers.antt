use Rattle.std.proofs.Common.{◌≡◌, refl, arith, sym, subst}
use Rattle.lock_model.specs.Fleet.{ship_at}
use Rattle.lock_rules.specs.Children.{single}
use Rattle.flow_bounds.specs.Walk.{serve, walk_at}
use Rattle.flow_bounds.specs.Entering.{IsBehind}
use Rattle.flow_bounds.proofs.EnterLemmas.{behind-opened}
use Rattle.flow_bounds.proofs.ProbeLemmas.{open-flow}
use Rattle.flow_bounds.proofs.entering.opened.Goals as goal
use Rattle.flow_bounds.proofs.entering.opened.Goals.{After-serve}

-- the ship is served alone
served : (c : After-serve) → c.serve.result ≡ serve c.args.instance.now c.args.chamber (walk_at c.args.along.now.walks c.args.place) (single (ship_at c.args.instance.now c.args.ship).way c.args.ship)
served c = c.serve.ensures.value (single (ship_at c.args.instance.now c.args.ship).way c.args.ship) c.load_alone-load.ensures.value

pub returns-clause-entered : goal.returns-clause-entered
returns-clause-entered c =
    let I = c.args.instance.now in
    let ch = c.args.chamber in
    let ws = c.args.along.now.walks in
    let p = c.args.place in
    let walks = c.requires.along.walks in
    record {
      within = c.requires.place;
      behind = subst (λ w. IsBehind I ch w (walk_at ws p)) (sym (served c)) (behind-opened I ch c.requires.chamber_in (walk_at ws p) (single (ship_at I c.args.ship).way c.args.ship));
      done = omega (arith, c.serve.ensures.done, walks.done p c.requires.place);
      flow = omega (arith, c.serve.ensures.done, c.serve.ensures.flow, c.requires.few, c.requires.place, walks.done p c.requires.place, walks.flow p c.requires.place);
    }

pub returns-clause-flow : goal.returns-clause-flow
returns-clause-flow c =
    let I = c.args.instance.now in
    open-flow I c.args.chamber c.args.line.now c.args.along.now.walks c.requires.along.walks c.args.place c.requires.place (single (ship_at I c.args.ship).way c.args.ship) c.serve.result _ (served c) refl
