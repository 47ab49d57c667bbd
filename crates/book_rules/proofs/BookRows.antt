-- The book machine on worked rows, by computation.
use Rattle.std.proofs.Common.{◌≡◌, ℕ, List, [], ◌∷◌, ◌++◌, refl, Some, None}
use Rattle.std.specs.declared.option.Option.{Option}
use Rattle.lock_model.specs.Instance.{IsInstance}
use Rattle.lock_model.specs.Deck.{Deck}
use Rattle.lock_model.specs.declared.instance.Instance.{Instance}
use Rattle.lock_model.specs.declared.plan.Plan.{Plan}
use Rattle.lock_model.specs.declared.plan.Lockage.{Lockage}
use Rattle.lock_model.specs.declared.verdict.Verdict.TheVariants as verdict
use Rattle.lock_model.specs.declared.way.Way.TheVariants.{Up, Down}
use Rattle.lock_rules.specs.Children.{single}
use Rattle.lock_rules.proofs.RowInstances.{chambers-narrow, ships-narrow, narrow, chambers-side_by_side, ships-side_by_side, side_by_side, chambers-four, ships-four, four, chambers-thr1, ships-thr1, thr1}
use Rattle.price_rules.specs.Prices.{PriceList}
use Rattle.refute_rules.specs.Cuts.{Cut}
use Rattle.refute_rules.specs.declared.refutation.Refutation.TheVariants as refutation
use Rattle.refute_rules.specs.declared.refutation.Quick.TheVariants as quick
use Rattle.book_rules.specs.declared.book.SlotState.TheVariants as slot
use Rattle.book_rules.specs.declared.book.Entry.TheVariants as entry
use Rattle.book_rules.specs.Book.{Book, slot_at, opening_book}
use Rattle.lock_rules.specs.Node.{Node as TreeNode, root}
use Rattle.book_rules.specs.Verdict.{verdict_of}
use Rattle.book_rules.specs.Events.{Event, take, split, close, park, release}
use Rattle.book_rules.specs.Events.{Reply, Node, Made, Closed, Parked, Released, Ended, Holds, Idle, Done, NotHeld, Cheaper, NoHit, OtherDeck, Absent}
use Rattle.book_rules.specs.Events.{post, post_prices, close_price, close_swept, show_low, replace, NodesSpent, Whole, LowShown, Posted, Priced, Replaced, NotCheaper, OtherPrices, NoPrices, NotShown, NotRoot, NotSwept, Lower}
use Rattle.book_rules.specs.Shown.{Shown, Swept}
use Rattle.book_rules.specs.Step.{step}
use Rattle.book_rules.specs.Replay.{replay}
use Rattle.closing_rules.specs.ListedPrices.{ship_prices}
use Rattle.closing_rules.specs.declared.grounds.Ground.TheVariants as by

-- no plan is broken
abbrev unbroken : Instance → Plan → Option ℕ
unbroken I P = None

-- the replies of events, one after the other
abbrev replies : Book → List Event → List (Reply ℕ)
replies b [] = []
replies b (e ∷ es) = (step unbroken b e).1 ∷ replies (step unbroken b e).0 es

-- the book after events
abbrev after : Book → List Event → Book
after b [] = b
after b (e ∷ es) = after (step unbroken b e).0 es

-- one ship after the other
abbrev alone : ℕ → ℕ → Lockage
alone s start = record { chamber = 0; way = Up; ships = s ∷ []; start = start; spots = [] }

abbrev singles : Plan
singles = record { lockages = alone 0 0 ∷ alone 1 50 ∷ [] }

abbrev first_alone : TreeNode
first_alone = record { depth = 1; lines = (single Up 0 ∷ []) ∷ [] ∷ [] ∷ [] ∷ [] }

abbrev both : TreeNode
both = record { depth = 2; lines = (record { way = Up; ships = 0 ∷ 1 ∷ [] } ∷ []) ∷ [] ∷ [] ∷ [] ∷ [] }

abbrev three_nodes : IsInstance chambers-narrow ships-narrow → Book
three_nodes ok = opening_book (record { instance = narrow ok; nodes = 3; turns = 20000 }) singles

-- the event table
row-events : (ok : IsInstance chambers-narrow ships-narrow) →
    replies (three_nodes ok) (take 0 ∷ take 0 ∷ take 1 ∷ close 0 by.Bound ∷ close 0 (by.Cut 0) ∷ split 0 ∷ split 0 ∷ release 0 ∷ take 0 ∷ [])
    ≡ Node 0 root ∷ Holds 0 ∷ Idle ∷ Cheaper 70 120 ∷ NoHit 0 ∷ Made 1 ∷ NotHeld 0 ∷ Released 0 ∷ Ended 0 ∷ []
row-events ok = refl

-- and its history is played again
row-replay : (ok : IsInstance chambers-narrow ships-narrow) →
    let b = after (three_nodes ok) (take 0 ∷ take 0 ∷ take 1 ∷ close 0 by.Bound ∷ close 0 (by.Cut 0) ∷ split 0 ∷ split 0 ∷ release 0 ∷ take 0 ∷ []) in
    replay unbroken b.case b.opening b.history b.cuts b.plans b.prices ≡ b
row-replay ok = refl

-- closing by throughput and probe
row-closing : (ok : IsInstance chambers-narrow ships-narrow) →
    replies (three_nodes ok) (take 0 ∷ close 0 by.Throughput ∷ close 0 (by.Probe 2) ∷ close 0 (by.Probe 0) ∷ close 1 (by.Probe 0) ∷ split 0 ∷ take 0 ∷ close 1 (by.Probe 0) ∷ close 1 (by.Probe 1) ∷ [])
    ≡ Node 0 root ∷ Cheaper 70 120 ∷ Absent 2 ∷ Cheaper 70 120 ∷ NotHeld 1 ∷ Made 1 ∷ Node 1 first_alone ∷ Absent 0 ∷ Cheaper 80 120 ∷ []
row-closing ok = refl

-- parking; h is the value of the deck with both ships and of one turn
abbrev base_deck : Deck
base_deck = record { length = 2000; width = 240; end = 10; gap = 20; side = 5; ships = record { length = 1100; width = 114; cargo = 0 } ∷ record { length = 1100; width = 114; cargo = 0 } ∷ [] }

abbrev one_turn : IsInstance chambers-side_by_side ships-side_by_side → Book
one_turn ok = opening_book (record { instance = side_by_side ok; nodes = 100; turns = 1 }) singles

abbrev parking : List Event
parking = take 0 ∷ split 0 ∷ take 0 ∷ park 1 0 0 base_deck 1 ∷ split 1 ∷ take 0 ∷ park 2 0 1 base_deck 1 ∷ park 2 0 0 base_deck 1 ∷ take 0 ∷ close 2 by.Bound ∷ []

row-parking : (ok : IsInstance chambers-side_by_side ships-side_by_side) →
    replies (one_turn ok) parking
    ≡ Node 0 root ∷ Made 1 ∷ Node 1 first_alone ∷ OtherDeck ∷ Made 3 ∷ Node 2 both ∷ OtherDeck ∷ Parked ∷ Done ∷ Cheaper 80 120 ∷ []
row-parking ok = refl

row-parked : (ok : IsInstance chambers-side_by_side ships-side_by_side) →
    verdict_of (after (one_turn ok) parking) ≡ verdict.OpenTurns 0 (0 ∷ 1 ∷ []) 1 80
row-parked ok = refl

-- the throughput closes the root
row-throughput : (ok : IsInstance chambers-thr1 ships-thr1) →
    let b = opening_book (record { instance = thr1 ok; nodes = 100; turns = 1 }) (record { lockages = alone 0 0 ∷ record { chamber = 0; way = Down; ships = 1 ∷ []; start = 30; spots = [] } ∷ [] }) in
    (replies b (take 0 ∷ close 0 by.Throughput ∷ []) ≡ Node 0 root ∷ Closed ∷ [])
    × ((slot_at (after b (take 0 ∷ close 0 by.Throughput ∷ [])) 0).state ≡ slot.Closed by.Throughput)
    × (verdict_of (after b (take 0 ∷ close 0 by.Throughput ∷ [])) ≡ verdict.Optimal)
row-throughput ok = (refl, refl, refl)

-- a returned slot is given first, a cut that is posted closes it, and nothing is left
abbrev narrow_cut : Cut
narrow_cut = record {
  chamber = 0;
  ships = 0 ∷ 1 ∷ [];
  deck = record { length = 2000; width = 232; end = 10; gap = 20; side = 5; ships = record { length = 1100; width = 114; cargo = 0 } ∷ record { length = 1100; width = 114; cargo = 0 } ∷ [] };
  refutation = refutation.Quick (quick.Row (0 ∷ 1 ∷ []));
}

row-cut : (ok : IsInstance chambers-narrow ships-narrow) →
    replies (three_nodes ok) (take 0 ∷ split 0 ∷ take 0 ∷ split 1 ∷ take 0 ∷ split 2 ∷ release 0 ∷ take 1 ∷ close 2 (by.Cut 0) ∷ post narrow_cut ∷ close 2 (by.Cut 0) ∷ take 1 ∷ [])
    ≡ Node 0 root ∷ Made 1 ∷ Node 1 first_alone ∷ Made 3 ∷ Node 2 both ∷ Whole 2 ∷ Released 1 ∷ Node 2 both ∷ NoHit 0 ∷ Posted 0 ∷ Closed ∷ Done ∷ []
row-cut ok = refl

row-optimal : (ok : IsInstance chambers-narrow ships-narrow) →
    verdict_of (after (three_nodes ok) (take 0 ∷ split 0 ∷ take 0 ∷ split 1 ∷ take 0 ∷ post narrow_cut ∷ close 2 (by.Cut 0) ∷ [])) ≡ verdict.Optimal
row-optimal ok = refl

-- with two nodes the third take is refused, and the verdict is open
row-spent : (ok : IsInstance chambers-narrow ships-narrow) →
    let b = opening_book (record { instance = narrow ok; nodes = 2; turns = 20000 }) singles in
    (replies b (take 0 ∷ split 0 ∷ take 0 ∷ split 1 ∷ take 0 ∷ []) ≡ Node 0 root ∷ Made 1 ∷ Node 1 first_alone ∷ Made 3 ∷ NodesSpent 2 ∷ [])
    × (verdict_of (after b (take 0 ∷ split 0 ∷ take 0 ∷ split 1 ∷ take 0 ∷ [])) ≡ verdict.OpenNodes 2 80)
row-spent ok = (refl, refl)

-- a cheaper plan is put in its place once, and closes what it outdoes
abbrev together : Plan
together = record { lockages = record { chamber = 0; way = Up; ships = 0 ∷ 1 ∷ []; start = 0; spots = [] } ∷ [] }

row-replace : (ok : IsInstance chambers-side_by_side ships-side_by_side) →
    replies (one_turn ok) (take 0 ∷ split 0 ∷ take 0 ∷ split 1 ∷ replace together ∷ replace together ∷ take 0 ∷ []) ≡ Node 0 root ∷ Made 1 ∷ Node 1 first_alone ∷ Made 3 ∷ Replaced 80 ∷ NotCheaper 80 80 ∷ Done ∷ []
row-replace ok = refl

-- closing the root by prices and the cut: what is shown is compared, and nothing is worked out
abbrev narrow_shown : IsInstance chambers-narrow ships-narrow → ℕ → ℕ → Shown
narrow_shown ok price cost = record { instance = narrow ok; node = root; prices = ship_prices (price ∷ price ∷ []); cuts = record { chamber = 0; ships = 0 ∷ 1 ∷ [] } ∷ []; cost = cost }

abbrev pricing : IsInstance chambers-narrow ships-narrow → List Event
pricing ok =
    post_prices (ship_prices (8500 ∷ [])) ∷ post_prices (ship_prices (8500 ∷ 8500 ∷ [])) ∷ close_price 0 0 (narrow_shown ok 8500 120) ∷ take 0 ∷ close_price 0 1 (narrow_shown ok 8500 120)
    ∷ close_price 0 0 (narrow_shown ok 8500 120) ∷ post narrow_cut ∷ close_price 0 0 (narrow_shown ok 8400 120) ∷ close_price 0 0 (narrow_shown ok 8500 119)
    ∷ close 0 (by.Price 0) ∷ close_price 0 0 (narrow_shown ok 8500 121) ∷ close 0 (by.Price 0) ∷ take 0 ∷ []

row-pricing : (ok : IsInstance chambers-narrow ships-narrow) →
    replies (three_nodes ok) (pricing ok)
    ≡ OtherPrices ∷ Priced 0 ∷ NotHeld 0 ∷ Node 0 root ∷ NoPrices 1 ∷ NotShown ∷ Posted 0 ∷ NotShown ∷ Cheaper 119 120 ∷ NotShown ∷ Closed ∷ NotHeld 0 ∷ Done ∷ []
row-pricing ok = refl

-- what is shown of an instance that is wider
row-other : (ok : IsInstance chambers-narrow ships-narrow) (wide : IsInstance chambers-side_by_side ships-side_by_side) →
    replies (three_nodes ok) (post_prices (ship_prices (8500 ∷ 8500 ∷ [])) ∷ take 0 ∷ close_price 0 0 (record { instance = side_by_side wide; node = root; prices = ship_prices (8500 ∷ 8500 ∷ []); cuts = []; cost = 120 }) ∷ [])
    ≡ Priced 0 ∷ Node 0 root ∷ NotShown ∷ []
row-other ok wide = refl

-- the slot is closed by them, and the history names it and their number alone
row-priced : (ok : IsInstance chambers-narrow ships-narrow) →
    let b = after (three_nodes ok) (post_prices (ship_prices (8500 ∷ 8500 ∷ [])) ∷ take 0 ∷ post narrow_cut ∷ close_price 0 0 (narrow_shown ok 8500 120) ∷ []) in
    ((slot_at b 0).state ≡ slot.Closed (by.Price 0)) × (b.history ≡ entry.Prices ∷ entry.Take 0 ∷ entry.Post ∷ entry.Close 0 (by.Price 0) ∷ [])
row-priced ok = (refl, refl)

-- prices with a triple are refused where the instance lacks one of its ships, and what was shown without it is by other prices
abbrev with_third : ℕ → PriceList
with_third s = record { ships = 8500 ∷ 8500 ∷ 8500 ∷ 8500 ∷ []; triples = record { first = 0; second = 1; third = s; price = 500 } ∷ [] }

abbrev four_shown : IsInstance chambers-four ships-four → PriceList → Shown
four_shown ok prices = record { instance = four ok; node = root; prices = prices; cuts = []; cost = 900 }

row-triples : (ok : IsInstance chambers-four ships-four) →
    let b = opening_book (record { instance = four ok; nodes = 3; turns = 1 }) (record { lockages = alone 0 0 ∷ alone 1 800 ∷ [] }) in
    replies b
    (post_prices (with_third 4) ∷ post_prices (with_third 3) ∷ take 0 ∷ close_price 0 0 (four_shown ok (ship_prices (with_third 3).ships))
    ∷ close_price 0 0 (four_shown ok (with_third 2)) ∷ close_price 0 0 (four_shown ok (with_third 3)) ∷ [])
    ≡ OtherPrices ∷ Priced 0 ∷ Node 0 root ∷ NotShown ∷ NotShown ∷ Closed ∷ []
row-triples ok = refl

-- closing the root by a sweep that the cut allows: what was swept is compared, and nothing is worked out
abbrev narrow_swept : IsInstance chambers-narrow ships-narrow → ℕ → Swept
narrow_swept ok cost = record { instance = narrow ok; cuts = record { chamber = 0; ships = 0 ∷ 1 ∷ [] } ∷ []; cost = cost }

abbrev sweeping : IsInstance chambers-narrow ships-narrow → List Event
sweeping ok =
    close_swept 0 0 (narrow_swept ok 120) ∷ take 0 ∷ close_swept 0 0 (narrow_swept ok 120) ∷ post_prices (ship_prices (8500 ∷ 8500 ∷ [])) ∷ close_swept 0 0 (narrow_swept ok 119)
    ∷ post narrow_cut ∷ close_swept 0 0 (narrow_swept ok 119) ∷ close 0 (by.Swept 0) ∷ close_swept 0 0 (narrow_swept ok 121) ∷ close 0 (by.Swept 0) ∷ take 0 ∷ []

row-sweeping : (ok : IsInstance chambers-narrow ships-narrow) →
    replies (three_nodes ok) (sweeping ok)
    ≡ NotHeld 0 ∷ Node 0 root ∷ NoPrices 0 ∷ Priced 0 ∷ NotSwept ∷ Posted 0 ∷ Cheaper 119 120 ∷ NotSwept ∷ Closed ∷ NotHeld 0 ∷ Done ∷ []
row-sweeping ok = refl

-- a node below the root isn't closed so, and neither is the root of an instance that is wider
row-below : (ok : IsInstance chambers-narrow ships-narrow) →
    replies (three_nodes ok) (take 0 ∷ split 0 ∷ take 0 ∷ close_swept 1 0 (narrow_swept ok 120) ∷ []) ≡ Node 0 root ∷ Made 1 ∷ Node 1 first_alone ∷ NotRoot ∷ []
row-below ok = refl

row-wider : (ok : IsInstance chambers-narrow ships-narrow) (wide : IsInstance chambers-side_by_side ships-side_by_side) →
    replies (three_nodes ok) (post_prices (ship_prices (8500 ∷ 8500 ∷ [])) ∷ take 0 ∷ close_swept 0 0 (record { instance = side_by_side wide; cuts = []; cost = 120 }) ∷ [])
    ≡ Priced 0 ∷ Node 0 root ∷ NotSwept ∷ []
row-wider ok wide = refl

-- the slot is closed by it, the history names the number of the prices alone, and it is played again
row-swept : (ok : IsInstance chambers-narrow ships-narrow) →
    let b = after (three_nodes ok) (post_prices (ship_prices (8500 ∷ 8500 ∷ [])) ∷ take 0 ∷ post narrow_cut ∷ close_swept 0 0 (narrow_swept ok 121) ∷ []) in
    ((slot_at b 0).state ≡ slot.Closed (by.Swept 0)) × (b.history ≡ entry.Prices ∷ entry.Take 0 ∷ entry.Post ∷ entry.Close 0 (by.Swept 0) ∷ [])
    × (replay unbroken b.case b.opening b.history b.cuts b.plans b.prices ≡ b) × (verdict_of b ≡ verdict.Optimal)
row-swept ok = (refl, refl, refl, refl)

-- showing costs of the root by prices and the cut: each is compared, and is more than what was known
abbrev showing : IsInstance chambers-narrow ships-narrow → List Event
showing ok =
    show_low 0 0 (narrow_shown ok 8500 100) ∷ post_prices (ship_prices (8500 ∷ 8500 ∷ [])) ∷ show_low 0 0 (narrow_shown ok 8500 100) ∷ post narrow_cut
    ∷ show_low 0 0 (narrow_shown ok 8400 100) ∷ show_low 0 0 (narrow_shown ok 8500 70) ∷ show_low 0 0 (narrow_shown ok 8500 100) ∷ show_low 0 0 (narrow_shown ok 8500 100)
    ∷ take 0 ∷ show_low 0 0 (narrow_shown ok 8500 101) ∷ split 0 ∷ show_low 0 0 (narrow_shown ok 8500 102) ∷ show_low 1 0 (narrow_shown ok 8500 102)
    ∷ show_low 2 0 (narrow_shown ok 8500 102) ∷ []

row-showing : (ok : IsInstance chambers-narrow ships-narrow) →
    replies (three_nodes ok) (showing ok)
    ≡ NoPrices 0 ∷ Priced 0 ∷ NotShown ∷ Posted 0 ∷ NotShown ∷ Lower 70 70 ∷ LowShown ∷ Lower 100 100 ∷ Node 0 root ∷ LowShown ∷ Made 1 ∷ NotHeld 0 ∷ NotShown ∷ NotHeld 2 ∷ []
row-showing ok = refl

-- nothing is shown of a slot that is closed, and nothing of an instance that is wider
row-shut : (ok : IsInstance chambers-narrow ships-narrow) (wide : IsInstance chambers-side_by_side ships-side_by_side) →
    replies (three_nodes ok)
    (post_prices (ship_prices (8500 ∷ 8500 ∷ [])) ∷ post narrow_cut ∷ show_low 0 0 (record { instance = side_by_side wide; node = root; prices = ship_prices (8500 ∷ 8500 ∷ []); cuts = []; cost = 100 })
    ∷ take 0 ∷ close_price 0 0 (narrow_shown ok 8500 120) ∷ show_low 0 0 (narrow_shown ok 8500 121) ∷ [])
    ≡ Priced 0 ∷ Posted 0 ∷ NotShown ∷ Node 0 root ∷ Closed ∷ NotHeld 0 ∷ []
row-shut ok wide = refl

-- the slot keeps what was shown last, its child has nothing shown, and the history names slot, prices and cost
row-low : (ok : IsInstance chambers-narrow ships-narrow) →
    let b = after (three_nodes ok) (showing ok) in
    ((slot_at b 0).shown ≡ Some (record { prices = 0; cost = 101 })) × ((slot_at b 1).shown ≡ None)
    × (b.history ≡ entry.Prices ∷ entry.Post ∷ entry.ShowLow 0 (record { prices = 0; cost = 100 }) ∷ entry.Take 0 ∷ entry.ShowLow 0 (record { prices = 0; cost = 101 }) ∷ entry.Split 0 ∷ [])
row-low ok = (refl, refl, refl)

-- and is played again
row-low_again : (ok : IsInstance chambers-narrow ships-narrow) →
    let b = after (three_nodes ok) (post_prices (ship_prices (8500 ∷ 8500 ∷ [])) ∷ post narrow_cut ∷ show_low 0 0 (narrow_shown ok 8500 100) ∷ take 0 ∷ []) in
    replay unbroken b.case b.opening b.history b.cuts b.plans b.prices ≡ b
row-low_again ok = refl

-- An open verdict's low is what was shown of the one live slot, and at most the best cost less one; of several it is the least.
abbrev later : Plan
later = record { lockages = alone 0 0 ∷ alone 1 60 ∷ [] }

abbrev spent_by : IsInstance chambers-narrow ships-narrow → Plan → ℕ → Book
spent_by ok plan cost =
    after (opening_book (record { instance = narrow ok; nodes = 2; turns = 20000 }) plan)
    (take 0 ∷ split 0 ∷ take 0 ∷ split 1 ∷ post_prices (ship_prices (8500 ∷ 8500 ∷ [])) ∷ post narrow_cut
    ∷ show_low 2 0 (record { instance = narrow ok; node = both; prices = ship_prices (8500 ∷ 8500 ∷ []); cuts = record { chamber = 0; ships = 0 ∷ 1 ∷ [] } ∷ []; cost = cost }) ∷ [])

row-open_low : (ok : IsInstance chambers-narrow ships-narrow) →
    (verdict_of (spent_by ok singles 80) ≡ verdict.OpenNodes 2 80) × (verdict_of (spent_by ok singles 100) ≡ verdict.OpenNodes 2 100)
    × (verdict_of (spent_by ok singles 500) ≡ verdict.OpenNodes 2 119)
row-open_low ok = (refl, refl, refl)

row-least : (ok : IsInstance chambers-narrow ships-narrow) →
    (verdict_of (spent_by ok later 119) ≡ verdict.OpenNodes 2 119) × (verdict_of (spent_by ok later 125) ≡ verdict.OpenNodes 2 120)
row-least ok = (refl, refl)

-- and so it is of a slot that is parked
abbrev both_shown : IsInstance chambers-side_by_side ships-side_by_side → ℕ → Shown
both_shown ok cost = record { instance = side_by_side ok; node = both; prices = ship_prices (8500 ∷ 8500 ∷ []); cuts = []; cost = cost }

row-parked_low : (ok : IsInstance chambers-side_by_side ships-side_by_side) →
    let b = after (one_turn ok) (parking ++ post_prices (ship_prices (8500 ∷ 8500 ∷ [])) ∷ show_low 2 0 (both_shown ok 100) ∷ []) in
    (verdict_of b ≡ verdict.OpenTurns 0 (0 ∷ 1 ∷ []) 1 100) × (verdict_of (after b (show_low 2 0 (both_shown ok 500) ∷ [])) ≡ verdict.OpenTurns 0 (0 ∷ 1 ∷ []) 1 119)
row-parked_low ok = (refl, refl)
