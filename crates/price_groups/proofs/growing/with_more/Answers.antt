use Rattle.std.proofs.Common.{◌≡◌, ◌<◌, ◌++◌, [], ◌∷◌, All, sym, ap, ◌∙◌}
use Rattle.lock_rules.specs.Children.{insert_number}
use Rattle.price_groups.proofs.GrowLemmas.{insert-last}
use Rattle.price_groups.proofs.growing.with_more.Goals as goal

pub returns : goal.returns
returns c =
    let g = c.args.group.now in
    let ship = c.args.ship in
    let before : All (λ s. s < ship) g.ships = c.are_before.ensures g.ships c.requires.mask c.if-not-are_before.false in
    let last : c.push.new.self ≡ insert_number ship g.ships = c.push.ensures ∙ ap (λ ships. ships ++ ship ∷ []) c.copy-ships.ensures ∙ sym (insert-last ship g.ships before) in
    λ i. record { way = g.way; ships = last i }
