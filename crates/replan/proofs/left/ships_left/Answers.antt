use Rattle.std.proofs.Common.{◌++◌, [], ◌∷◌, nat_eq, length, sym, ap, ◌∙◌, arith}
use Rattle.std.proofs.lemmas.Bool.{eq-eqb, ne_eqb}
use Rattle.lock_rules.specs.Plan.{served_in}
use Rattle.replan.proofs.ListLemmas.{numbers_few, numbers_hit, numbers_miss}
use Rattle.replan.proofs.left.ships_left.Goals as goal
use Rattle.replan.proofs.left.ships_left.Goals.{then-served_in-eq0, else-served_in-eq0}

pub push-requires : goal.push-requires
push-requires c = omega (arith, ap length c.loop-ship.invariant, numbers_few (λ s. nat_eq (served_in c.args.part.now.lockages s) 0) c.loop-ship.ship, c.loop-ship-test.true)

pub loop-ship-preserved : goal.loop-ship-preserved
loop-ship-preserved c =
    let ls = c.args.part.now.lockages in
    let s = c.loop-ship.ship in
    elim c.if-served_in-eq0.branch [
      | then-served_in-eq0 w ↦
          let more = numbers_hit (λ s. nat_eq (served_in ls s) 0) s (eq-eqb (served_in ls s) 0 (sym c.served_in.ensures ∙ w.if-served_in-eq0.true)) in
          let before = ap (λ xs. xs ++ s ∷ []) c.loop-ship.invariant in
          cc (more, before, w.numbers-is, w.push.ensures)
      | else-served_in-eq0 w ↦
          let more = numbers_miss (λ s. nat_eq (served_in ls s) 0) s (ne_eqb (served_in ls s) 0 (λ h. w.if-served_in-eq0.false (c.served_in.ensures ∙ h))) in
          cc (more, w.numbers-is, c.loop-ship.invariant)
    ]
