use Rattle.std.proofs.Common.{arith, subst, length}
use Rattle.diff_system.specs.Rounds.{IsUnderway}
use Rattle.diff_system.proofs.RoundLemmas.{ready-begin, ready-more, still-longest, last-longest}
use Rattle.diff_system.proofs.rounds.settle.Goals as goal

pub loop-round-init : goal.loop-round-init
loop-round-init c = record {
  is_tree = c.requires.tree;
  known = c.requires.known;
  ready = ready-begin c.args.edges.now c.args.vars c.requires.system c.args.paths.now c.requires.tree c.args.known c.requires.obeyed;
}

pub returns-then-not-branch-clause-longest : goal.returns-then-not-branch-clause-longest
returns-then-not-branch-clause-longest c =
    let edges = c.args.edges.now in
    let round : IsUnderway edges c.args.vars c.loop-round.paths c.round.new.paths c.loop-round.first (length edges) c.in_ok-round.field-0 = c.in_ok-round.ensures in
    still-longest edges c.args.vars c.requires.system c.loop-round.paths c.round.new.paths c.loop-round.first c.loop-round._round c.loop-round.invariant.ready (subst (IsUnderway edges c.args.vars c.loop-round.paths c.round.new.paths c.loop-round.first (length edges)) c.if-not-branch.true round)

pub loop-round-preserved : goal.loop-round-preserved
loop-round-preserved c =
    let edges = c.args.edges.now in
    let round : IsUnderway edges c.args.vars c.loop-round.paths c.round.new.paths c.loop-round.first (length edges) c.in_ok-round.field-0 = c.in_ok-round.ensures in
    record {
      is_tree = round.is_tree;
      known = omega arith;
      ready = ready-more edges c.args.vars c.requires.system c.loop-round.paths c.round.new.paths c.loop-round.first c.loop-round._round c.in_ok-round.field-0 c.loop-round.invariant.ready round;
    }

pub returns-clause-longest : goal.returns-clause-longest
returns-clause-longest c =
    let past = c.loop-round-test.false in
    last-longest c.args.edges.now c.args.vars c.requires.system c.loop-round.paths c.loop-round.invariant.is_tree c.loop-round.first c.loop-round._round (omega (arith, past)) c.loop-round.invariant.ready
