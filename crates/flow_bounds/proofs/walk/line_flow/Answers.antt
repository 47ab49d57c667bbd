use Rattle.std.proofs.Common.{◌≡◌, ◌<◌, [], length, arith, ap, ◌∙◌}
use Rattle.std.proofs.lemmas.Grind.{common_steps}
use Rattle.std.proofs.lemmas.List.{get_or_default}
use Rattle.lock_model.specs.declared.way.Way.TheVariants.{Up}
use Rattle.flow_bounds.specs.Walk.{walk_start, serve_all}
use Rattle.flow_bounds.proofs.WalkLemmas.{serve_all-line, serve_all-next}
use Rattle.flow_bounds.proofs.walk.line_flow.Goals as goal

pub loop-group-preserved : goal.loop-group-preserved
loop-group-preserved c =
    let I = c.args.instance.now in
    let i = c.loop-group.group-index in
    let line = c.args.line.now in
    let g = c.group-item.result in
    let less : i < length line = omega arith in
    let own = c.group-item.is ∙ get_or_default line i g (record { way = Up; ships = [] }) less in
    record {
      rest = serve_all-next I c.args.chamber line i g less own c.loop-group.walk c.serve-walk.result (c.serve-walk.ensures.value g c.load_of.ensures.value) ∙ c.loop-group.invariant.rest;
      done = omega arith;
      flow = omega arith;
    }

pub returns-clause-value : goal.returns-clause-value
returns-clause-value c =
    let I = c.args.instance.now in
    let all : c.loop-group.walk ≡ serve_all I c.args.chamber (walk_start I c.args.chamber) c.args.line.now = grind (arith, common_steps) in
    ap (λ w. w.flow) all ∙ serve_all-line I c.args.chamber c.args.line.now
