use Rattle.std.proofs.Common.{◌≡◌, ◌<◌, ◌≤◌, length, refl, All, ap, arith, rules}
use Rattle.std.specs.Prelude.{bit_and}
use Rattle.lock_model.specs.declared.limits.TheConstants.{SHIPS}
use Rattle.lock_rules.specs.Children.{insert_number}
use Rattle.lock_rules.proofs.NodeLemmas.{All-insert_number}
use Rattle.price_groups.specs.Masks.{IsMask}
use Rattle.price_groups.proofs.MaskLemmas.{completable-missed, missed-completable}
use Rattle.price_groups.proofs.growing.joined.Goals as goal

pub with_bit-requires : goal.with_bit-requires
with_bit-requires c = omega (arith, c.requires.known, c.args.extension.now.case.now.instance.now.limits.ship_count.1)

pub with_more-requires-clause-known : goal.with_more-requires-clause-known
with_more-requires-clause-known c = omega (arith, c.requires.known, c.args.extension.now.case.now.instance.now.limits.ship_count.1)

pub returns-then-misses_all_of-clause-some : goal.returns-then-misses_all_of-clause-some
returns-then-misses_all_of-clause-some c =
    let I = c.args.extension.now.case.now.instance.now in
    let ship = c.args.ship in
    let old = c.args.group.now.ships in
    let known = All-insert_number (λ s. s < length I.ships) ship old c.requires.known c.requires.ships_in in
    let few : length I.ships ≤ SHIPS = I.limits.ship_count.1 in
    let is : IsMask c.with_bit.result (insert_number ship old) = c.with_bit.ensures old c.requires.mask in
    let apart : All (λ m. ¬ (bit_and m c.with_bit.result ≡ m)) c.args.completable.now = c.if-misses_all_of.ensures.0 refl in
    let most = ap (λ l. l.most) c.args.extension.now.case.now.is in
    (record { room = omega (arith, c.if-len-extension.false, c.len.ensures.value, most); missed = completable-missed I c.args.extension.now.case.now.depth c.args.extension.now.sets.now ship c.args.completable.now c.requires.completable old c.with_bit.result is known few c.requires.allowed c.requires.spared.missed apart }, c.with_more.ensures)

pub returns-else-misses_all_of-clause-none : goal.returns-else-misses_all_of-clause-none
returns-else-misses_all_of-clause-none c = λ may.
    let I = c.args.extension.now.case.now.instance.now in
    let ship = c.args.ship in
    let old = c.args.group.now.ships in
    let known = All-insert_number (λ s. s < length I.ships) ship old c.requires.known c.requires.ships_in in
    let few : length I.ships ≤ SHIPS = I.limits.ship_count.1 in
    let is : IsMask c.with_bit.result (insert_number ship old) = c.with_bit.ensures old c.requires.mask in
    let hit : ¬ All (λ m. ¬ (bit_and m c.with_bit.result ≡ m)) c.args.completable.now = search rules in
    hit (missed-completable I c.args.extension.now.case.now.depth c.args.extension.now.sets.now ship c.args.completable.now c.requires.completable old c.with_bit.result is known few may.missed)
