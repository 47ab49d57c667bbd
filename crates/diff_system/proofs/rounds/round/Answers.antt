use Rattle.std.proofs.Common.{◌≡◌, true, false, arith, length, ap}
use Rattle.diff_system.proofs.RoundLemmas.{underway-relaxed}
use Rattle.diff_system.proofs.rounds.round.Goals as goal
use Rattle.diff_system.proofs.rounds.round.Goals.{then-branch, else-branch}

pub loop-number-preserved : goal.loop-number-preserved
loop-number-preserved c =
    let long = ap length c.as_slice-number-end.ensures.value in
    let test = c.loop-number-test.true in
    let rose : c.in_ok-relax.field-0 ≡ true → c.if-branch.raised ≡ true = elim c.if-branch.branch [ then-branch w ↦ (λ e. w.raised-is) | else-branch w ↦ (λ e. let f = w.if-branch.false in cc) ] in
    let stayed : c.in_ok-relax.field-0 ≡ false → c.if-branch.raised ≡ c.loop-number.raised = elim c.if-branch.branch [ then-branch w ↦ (λ e. let t = w.if-branch.true in cc) | else-branch w ↦ (λ e. w.raised-is) ] in
    underway-relaxed c.args.edges.now c.args.vars c.requires.system c.args.paths.now c.loop-number.paths c.relax.new.paths c.args.first c.loop-number.number c.loop-number.raised c.in_ok-relax.field-0 (omega (arith, long, test)) c.loop-number.invariant c.in_ok-relax.ensures c.if-branch.raised rose stayed
