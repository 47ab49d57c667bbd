use Rattle.std.proofs.Common.{Contains, below_more, rules, arith, slice_index_or}
use Rattle.std.proofs.lemmas.List.Elements.{All-from_get_or}
use Rattle.price_groups.proofs.forbidden.are_in.Goals as goal

pub returns-then-not-is_in : goal.returns-then-not-is_in
returns-then-not-is_in c =
    let apart : Contains c.args.ships.now (slice_index_or c.args.set.now c.loop-ship.ship-index 0) → ⊥ = search rules in
    (λ h. absurd cc, λ h. absurd (apart (h.among c.loop-ship.ship-index 0 c.loop-ship-test.true)))

pub loop-ship-preserved : goal.loop-ship-preserved
loop-ship-preserved c =
    let here : Contains c.args.ships.now (slice_index_or c.args.set.now c.loop-ship.ship-index 0) = search rules in
    below_more _ _ c.loop-ship.invariant here

pub returns : goal.returns
returns c = (
  λ h. record { among = All-from_get_or (Contains c.args.ships.now) c.args.set.now 0 (λ i known. c.loop-ship.invariant i (omega (arith, known, c.loop-ship-test.false))) },
  λ h. search rules,
)
