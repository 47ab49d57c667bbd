use Rattle.std.proofs.Common.{◌≡◌, ◌++◌, take}
use Rattle.std.specs.List.{flat_map}
use Rattle.picture_page.specs.Cards.{card_of}
use Rattle.picture_page.proofs.cards.put_cards.Given as goal

abbrev pub invariant-loop-passage : goal.invariant-loop-passage
invariant-loop-passage l = l.out.items ≡ l.initial.out.items ++ flat_map (card_of l.instance l.plan l.clock) (take l.passage-index l.passages)
