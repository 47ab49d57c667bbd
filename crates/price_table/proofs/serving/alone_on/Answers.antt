use Rattle.std.proofs.Common.{◌≡◌, ◌+◌, ◌-◌, ◌<◌, [], length, drop, sum_by, sym, ap, ◌∙◌, arith}
use Rattle.std.proofs.Math.Seq.{drop-length}
use Rattle.lock_model.specs.declared.limits.TheConstants.{SHIPS}
use Rattle.lock_model.specs.Fleet.{ship_at}
use Rattle.lock_rules.specs.Bound.{flow_of}
use Rattle.lock_rules.specs.Timetable.{timetable_from}
use Rattle.price_rules.specs.Prices.{charged_in}
use Rattle.price_groups.specs.Worth.{end_after}
use Rattle.price_table.proofs.ServingLemmas.{ships-within, kept-worth, charged-next, flow-next}
use Rattle.price_table.proofs.serving.alone_on.Goals as goal

pub charged-requires : goal.charged-requires
charged-requires c = ships-within c.args.case.now.instance.now c.args.line.now c.loop-group.group-index c.group-item.result c.loop-group-test.true c.group-item.is c.requires.ships_in

pub loop-group-preserved : goal.loop-group-preserved
loop-group-preserved c =
    let I = c.args.case.now.instance.now in
    let g = c.group-item.result in
    let i = c.loop-group.group-index in
    let line = c.args.line.now in
    let old = c.loop-group.invariant in
    let n = c.args.case.now.index in
    let end : c.group_times-end.result.1 ≡ end_after I n c.loop-group.stand c.loop-group.minute g = omega (arith, c.group_times-end.ensures.start, c.group_times-end.ensures.end) in
    let flow : c.flow_until-flow.result ≡ sum_by (λ s. c.group_times-end.result.1 - (ship_at I s).arrival) g.ships = c.flow_until-flow.ensures.value in
    let next = flow-next I n c.args.case.now.depth c.args.case.now.prices.now c.loop-group.stand c.loop-group.minute line i g c.group_times-end.result.1 c.flow_until-flow.result _ c.loop-group.flow c.loop-group-test.true c.group-item.is end flow old.sum in
    let few : i < SHIPS = omega (arith, c.loop-group-test.true, c.requires.few) in
    record {
      sum = next ∙ (λ j. (c.loop-group.flow + c.flow_until-flow.result) + flow_of I (drop (i + 1) line) (timetable_from I n (sym c.stand_after-stand.ensures j) c.group_times-end.result.1 (drop (i + 1) line)));
      charged = charged-next c.args.case.now.prices.now line i g c.charged.result _ c.loop-group.charges c.loop-group-test.true c.group-item.is c.charged.ensures.value old.charged;
      minutes = omega (arith, old.minutes, c.group_times-end.ensures.small);
      small = omega (arith, old.small, old.minutes, c.group_times-end.ensures.small, c.flow_until-flow.ensures.small, few);
      light = omega (arith, old.light, c.charged.ensures.small);
    }

pub returns-clause-value : goal.returns-clause-value
returns-clause-value c =
    let I = c.args.case.now.instance.now in
    let line = c.args.line.now in
    let n = c.args.case.now.index in
    let i = c.loop-group.group-index in
    let all : i ≡ length line = omega (arith, c.loop-group-test.false, c.loop-group.auto.group-index-end) in
    let rest : drop i line ≡ [] = ap (λ i. drop i line) all ∙ drop-length line in
    let none : flow_of I (drop i line) (timetable_from I n c.loop-group.stand c.loop-group.minute (drop i line)) ≡ 0 = ap (λ gs. flow_of I gs (timetable_from I n c.loop-group.stand c.loop-group.minute gs)) rest in
    let prices = c.args.case.now.prices.now in
    let free : charged_in prices (drop i line) ≡ 0 = ap (charged_in prices) rest in
    kept-worth I n c.args.case.now.depth prices c.args.state.now.stand c.args.state.now.minute line c.loop-group.flow c.loop-group.charges c.requires.kept (omega (arith, c.loop-group.invariant.sum, none)) (omega (arith, c.loop-group.invariant.charged, free))
    (omega (arith, c.loop-group.invariant.small, all, c.requires.few)) (omega (arith, c.loop-group.invariant.light, all, c.requires.few))
