use Rattle.std.proofs.Common.{arith, ◌≡◌, ◌≤◌, ◌+◌, ◌*◌, ◌++◌, ◌∷◌, ◌∙◌, [], subst, sym, ap, slice_index_or, slice_set, refl}
use Rattle.lock_rules.specs.Lawful.{stand_after}
use Rattle.lock_rules.specs.Singles.{Standing, single_lockage, first_standings, next_start, standing_at}
use Rattle.lock_model.specs.Fleet.{ship_at}
use Rattle.first_plan.proofs.AppendLemmas.{Appends, appends_none, appends_more, after}
use Rattle.first_plan.proofs.singles.singles_in.Goals as goal

pub loop-ship-init : goal.loop-ship-init
loop-ship-init c =
    let I = c.args.instance.now in
    subst (λ z. Appends I c.args.order.now 0 z c.new-lockages.result) (sym c.first-standings.ensures)
    (subst (λ z. Appends I c.args.order.now 0 (first_standings I) z) (sym c.new-lockages.ensures) (appends_none I c.args.order.now))

pub loop-ship-preserved : goal.loop-ship-preserved
loop-ship-preserved c =
    let I = c.args.instance.now in
    let order = c.args.order.now in
    let n = c.loop-ship.ship-index in
    let s = slice_index_or order n 0 in
    let at = c.chamber_for-chamber.result in
    let st : Standing = c.get-standing.result in
    let stands : st ≡ standing_at c.loop-ship.standings at = c.get-standing.ensures in
    let each = c.loop-ship.invariant.each in
    let there = c.loop-ship.invariant.early at (standing_at [] at) (omega (arith, each)) in
    let free : st.from ≡ (standing_at c.loop-ship.standings at).from = ap (λ (z : Standing). z.from) stands in
    let before : st.from ≤ 1000000 + 12000000 * n = omega (arith, there, free) in
    let step = appends_more I order n s 0 at st c.loop-ship.standings c.loop-ship.lockages c.loop-ship.invariant (omega arith) refl c.chamber_for-chamber.ensures.value stands (omega (arith, c.next_times-start.ensures.end, c.next_times-start.ensures.small)) before in
    let left : c.left_by.result ≡ after I s at st = c.left_by.ensures ∙ (λ i. record { stand = stand_after (ship_at I s).way; from = c.next_times-start.ensures.end i }) in
    let stood : c.set.new.self ≡ slice_set c.loop-ship.standings at (after I s at st) = c.set.ensures ∙ ap (slice_set c.loop-ship.standings at) left in
    let mine : c.single_lockage.result ≡ single_lockage I s at (next_start I s at st) = c.single_lockage.ensures ∙ ap (single_lockage I s at) c.next_times-start.ensures.start in
    let pushed : c.push.new.self ≡ c.loop-ship.lockages ++ single_lockage I s at (next_start I s at st) ∷ [] = c.push.ensures ∙ (λ i. c.loop-ship.lockages ++ mine i ∷ []) in
    subst (λ z. Appends I order (n + 1) z c.push.new.self) (sym stood) (subst (λ z. Appends I order (n + 1) (slice_set c.loop-ship.standings at (after I s at st)) z) (sym pushed) step)
