use Rattle.std.proofs.Common.{◌≡◌, ◌++◌, [], ◌∷◌, length, ap, arith}
use Rattle.lock_rules.specs.Lines.{lockage_at}
use Rattle.replan.specs.Kept.{starts_before}
use Rattle.replan.proofs.KeptLemmas.{starts_hit, starts_miss}
use Rattle.replan.proofs.ListLemmas.{numbers_few, numbers_hit, numbers_miss}
use Rattle.replan.proofs.keeping.kept_places.Goals as goal
use Rattle.replan.proofs.keeping.kept_places.Goals.{then-lockages-p, else-lockages-p}

pub push-requires : goal.push-requires
push-requires c = omega (arith, ap length c.loop-p.invariant, numbers_few (λ p. starts_before c.args.from (lockage_at c.args.plan.now p)) c.loop-p.p, c.as_slice-lockages.ensures.fits, c.loop-p-test.true)

pub loop-p-preserved : goal.loop-p-preserved
loop-p-preserved c =
    let P = c.args.plan.now in
    let p = c.loop-p.p in
    let l = c.index-lockages-p.result in
    let ls = c.as_slice-lockages.result.now in
    let same : ls ≡ P.lockages = c.as_slice-lockages.ensures.value in
    elim c.if-lockages-p.branch [
      | then-lockages-p w ↦
          let more = numbers_hit (λ p. starts_before c.args.from (lockage_at P p)) p (starts_hit P p l ls same c.loop-p-test.true c.index-lockages-p.is c.args.from w.if-lockages-p.true) in
          let before = ap (λ xs. xs ++ p ∷ []) c.loop-p.invariant in
          cc (more, before, w.places-is, w.push.ensures.items)
      | else-lockages-p w ↦
          let more = numbers_miss (λ p. starts_before c.args.from (lockage_at P p)) p (starts_miss P p l ls same c.loop-p-test.true c.index-lockages-p.is c.args.from w.if-lockages-p.false) in
          cc (more, w.places-is, c.loop-p.invariant)
    ]
