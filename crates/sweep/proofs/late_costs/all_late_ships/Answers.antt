use Rattle.std.proofs.Common.{length, ap, arith}
use Rattle.std.proofs.lemmas.Grind.{common_steps}
use Rattle.sweep.specs.Bounds.{cuts_of}
use Rattle.sweep.proofs.BoundLemmas.{same_none, same_more, lanes_on}
use Rattle.sweep.proofs.JudgeLemmas.{no_value}
use Rattle.sweep.proofs.late_costs.all_late_ships.Goals as goal

pub loop-most-init : goal.loop-most-init
loop-most-init c = record {
  same = same_none c.low_of.new.lanes;
  few = let none = ap length c.new-all.ensures.items in omega (arith, none);
}

pub low_of_last-requires : goal.low_of_last-requires
low_of_last-requires c =
    let case = c.args.case.now in
    let I = case.instance.now in
    let same = same_more c.args.lanes.now c.low_of.new.lanes c.loop-most.lanes c.in_ok-mean.ensures.same c.loop-most.invariant.same in
    record { lanes = lanes_on I (cuts_of case) case.prices.now 0 (length I.chambers) c.args.lanes.now c.loop-most.lanes c.requires.lanes same }

pub loop-most-preserved : goal.loop-most-preserved
loop-most-preserved c = record {
  same = same_more c.low_of.new.lanes c.loop-most.lanes c.low_of_last.new.lanes c.loop-most.invariant.same c.in_ok-low.ensures.same;
  few = grind (arith, common_steps);
}

pub returns : goal.returns
returns c = record { same = same_more c.args.lanes.now c.low_of.new.lanes c.loop-most.lanes c.in_ok-mean.ensures.same c.loop-most.invariant.same }

pub returns-in_err-mean : goal.returns-in_err-mean
returns-in_err-mean c = record { same = no_value _ c.from_residual.result c.from_residual.ensures.0 }

pub returns-in_err-low : goal.returns-in_err-low
returns-in_err-low c = record { same = no_value _ c.from_residual-in_err-low.result c.from_residual-in_err-low.ensures.0 }

pub returns-in_err-late_ships : goal.returns-in_err-late_ships
returns-in_err-late_ships c = record { same = no_value _ c.from_residual-in_err-late_ships.result c.from_residual-in_err-late_ships.ensures.0 }

pub returns-in_err-append : goal.returns-in_err-append
returns-in_err-append c = record { same = no_value _ c.from_residual-in_err-append.result c.from_residual-in_err-append.ensures.0 }
