use Rattle.std.proofs.Common.{◌≡◌, ◌-◌, ◌<◌, length, take, drop, arith, rules}
use Rattle.std.proofs.lemmas.List.{length-take-le, length-drop}
use Rattle.std.proofs.lemmas.List.Elements.{All-take, All-drop}
use Rattle.picture_page.proofs.cards.+put_rows_from.Goals as goal

pub put_list_row-requires-clause-within : goal.put_list_row-requires-clause-within
put_list_row-requires-clause-within t c = c.requires.within 0 0 c.in-len1-up.len_at_least

pub put_rows_from-requires : goal.put_rows_from-requires
put_rows_from-requires t c =
    let places = c.args.places.now in
    let some = c.in-len1-up.len_at_least in
    let dropped = length-drop 1 places in
    let fewer : length (take (length places - 1) (drop 1 places)) ≡ length places - 1 = length-take-le (length places - 1) (drop 1 places) (omega (arith, dropped)) in
    let within = All-take (λ k. k < length c.args.lockage.now.ships) (length places - 1) (drop 1 places) (All-drop (λ k. k < length c.args.lockage.now.ships) 1 places c.requires.within) in
    (omega (arith, fewer, some), (c.requires.known, (within, omega (arith, fewer, some, c.requires.few))))
