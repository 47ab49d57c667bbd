use Rattle.std.proofs.Common.{◌≡◌, ◌∙◌, arith}
use Rattle.solve_workers.proofs.CrewLemmas.{all_with}
use Rattle.solve_workers.proofs.crew.deal.Goals as goal

pub loop-worker-preserved : goal.loop-worker-preserved
loop-worker-preserved g c =
    let l = c.loop-worker in
    let dealt = c.hands_from.ensures in
    let pushed = c.push_reserved.ensures in (
      dealt.shares,
      let count = dealt.count in let before = l.invariant.1 in omega (arith, count, before),
      let rest = dealt.rest in let before = l.invariant.2 in omega (arith, rest, before),
      dealt.table ∙ l.invariant.3,
      let parts = dealt.parts in let before = l.invariant.4 in omega (arith, parts, before),
      let long = pushed.len in let before = l.invariant.5 in omega (arith, long, before),
      let room = pushed.capacity in let before = l.invariant.6 in omega (arith, room, before),
      all_with l.crew.items c.push_reserved.new.self.items c.hands_from.result pushed.items (λ h. h.seat.table ≡ c.args.word.now.table) l.invariant.7 dealt.hands,
    )
