use Rattle.std.proofs.Common.{◌≡◌, ◌+◌, ◌*◌, ◌^◌, ◌%◌, bit_or, suc, take, sym, subst, arith, slice_index_or}
use Rattle.std.proofs.Math.Seq.{take-suc}
use Rattle.price_groups.specs.Masks.{IsMask}
use Rattle.price_groups.proofs.MaskLemmas.{mask-next}
use Rattle.price_groups.proofs.masks.mask_of.Goals as goal

pub loop-ship-preserved : goal.loop-ship-preserved
loop-ship-preserved c =
    let ships = c.args.ships.now in
    let i = c.loop-ship.ship-index in
    let up : suc i ≡ i + 1 = omega arith in
    let more = bit_or c.loop-ship.mask (1 * 2 ^ slice_index_or ships i 0 % 2 ^ 128) in
    subst (λ n. IsMask more (take n ships)) up (subst (IsMask more) (sym (take-suc ships i 0 c.loop-ship-test.true)) (mask-next c.loop-ship.mask (slice_index_or ships i 0) (take i ships) (omega (arith, c.requires i 0 c.loop-ship-test.true)) c.loop-ship.invariant))
