use Rattle.std.proofs.Common.{ℕ, zero, suc, ◌+◌, ◌<◌, All, List, [], ◌∷◌, ◌++◌, sym, ◌∙◌, subst, arith}
use Rattle.sweep.proofs.plan.ships_of.Goals.{then-has+then-not-has+then-len-lt-MOST, else-has}
use Rattle.sweep.proofs.plan.ships_of.Goals as goal

-- what is below a number is below the next one, and so is that number
same : (xs : List ℕ) (n : ℕ) → All (λ x. x < n) xs → All (λ x. x < n + 1) xs
same xs n all = λ k d within. omega (arith, all k d within)

more : (xs : List ℕ) (n : ℕ) → All (λ x. x < n) xs → All (λ x. x < n + 1) (xs ++ n ∷ [])
more [] n all zero d within = omega arith
more [] n all (suc k) d within = absurd (omega (arith, within))
more (x ∷ xs) n all zero d within = omega (arith, all zero d (omega arith))
more (x ∷ xs) n all (suc k) d within = more xs n (λ k d within. all (suc k) d (omega (arith, within))) k d (omega (arith, within))

pub push-requires-clause-rising : goal.push-requires-clause-rising
push-requires-clause-rising c = c.loop-ship.invariant

pub push-requires-clause-room : goal.push-requires-clause-room
push-requires-clause-room c = omega (arith, c.if-len-lt-MOST.true, c.len.ensures.value)

pub loop-ship-preserved : goal.loop-ship-preserved
loop-ship-preserved c =
    let n = c.loop-ship.ship in
    elim c.if-has.branch [
      | then-has+then-not-has+then-len-lt-MOST w ↦ subst (All (λ x. x < n + 1)) (sym (w.ships-is ∙ w.push.ensures)) (more c.loop-ship.ships n c.loop-ship.invariant)
      | else-has w ↦ subst (All (λ x. x < n + 1)) (sym w.ships-is) (same c.loop-ship.ships n c.loop-ship.invariant)
    ]
