-- The book machine: what each event changes, and what is answered. A refusal changes nothing.
use Rattle.std.specs.Prelude.{ℕ, suc, nat_eq, nat_le, nat_lt, Bool, true, false, not, ◌&&◌, ◌||◌, if◌then◌else◌, Some, None}
use Rattle.std.specs.Prelude.{List, [], ◌∷◌, ◌++◌, length, map, slice_index_or, slice_set, slice_get}
use Rattle.std.specs.declared.option.Option.{Option}
use Rattle.lock_model.specs.Deck.{Deck}
use Rattle.lock_model.specs.Fitting.{deck_of}
use Rattle.lock_model.specs.declared.instance.Instance.{Instance}
use Rattle.lock_model.specs.declared.group.Group.{Group}
use Rattle.lock_model.specs.declared.plan.Plan.{Plan}
use Rattle.lock_rules.specs.Plan.{cost_of}
use Rattle.lock_rules.specs.Children.{children_of}
use Rattle.lock_rules.specs.Arrival.{missing_ships}
use Rattle.lock_rules.specs.Trace.{has_number}
use Rattle.lock_rules.specs.Throughput.{throughput_of}
use Rattle.lock_rules.specs.Bound.{probe_of}
use Rattle.price_rules.specs.Prices.{PriceList}
use Rattle.refute_rules.specs.Cuts.{Cut}
use Rattle.closing_rules.specs.ListedPrices.{same_prices}
use Rattle.closing_rules.specs.declared.grounds.Ground.{Ground}
use Rattle.closing_rules.specs.declared.grounds.Ground.TheVariants as by
use Rattle.book_rules.specs.declared.book.SlotState.{SlotState}
use Rattle.book_rules.specs.declared.book.Entry.{Entry}
use Rattle.book_rules.specs.declared.book.ShownLow.{ShownLow}
use Rattle.book_rules.specs.Same.{same_instance, same_node}
use Rattle.book_rules.specs.Shown.{Shown, Swept, are_first_cuts}
use Rattle.book_rules.specs.Tests.{same_deck, has_clash, is_node_hit, is_own_cut, has_shape}
use Rattle.book_rules.specs.Book.{Slot, Book, slot_at, slot_low, best_cost, new_slot, is_fresh, is_back, is_held, is_held_by, is_parked, is_live, has_slot, first_slot, group_at}
use Rattle.book_rules.specs.Events.{Event, take, split, close, post, post_prices, close_price, close_swept, show_low, park, replace, release}
use Rattle.book_rules.specs.Events.{Reply, Node, Made, Closed, LowShown, Posted, Priced, Parked, Replaced, Released}
use Rattle.book_rules.specs.Events.{Ended, Holds, NodesSpent, Idle, Done, NotHeld, Whole, Cheaper, NoHit, OtherDeck, NotLegal, NotCheaper}
use Rattle.book_rules.specs.Events.{Absent, Clashes, OtherPrices, NoPrices, NotShown, NotRoot, NotSwept, Lower}
use Rattle.book_rules.specs.NextSlot.{next_fresh}
use Rattle.book_rules.specs.declared.book.SlotState.TheVariants as slot
use Rattle.book_rules.specs.declared.book.Entry.TheVariants as entry

-- the book with one more entry
abbrev pub noted : Book → Entry → Book
noted b e = record b { history = b.history ++ e ∷ [] }

-- the book with slot id in this state
abbrev pub with_state : Book → ℕ → SlotState → Book
with_state b id state = record b { slots = slice_set b.slots id (record (slot_at b id) { state = state }) }

-- slot id goes to worker w
abbrev pub given : {Break : Type 0} → Book → ℕ → ℕ → ℕ → Book × Reply Break
given b w id used = (noted (record (with_state b id (slot.Held w)) { used = used }) (entry.Take w), Node id (slot_at b id).node)

-- no slot is Back
abbrev pub take_fresh : {Break : Type 0} → Book → ℕ → Option ℕ → Book × Reply Break
take_fresh b w None = (b, if has_slot b is_held then Idle else Done)
take_fresh b w (Some id) = if nat_eq b.used b.case.nodes then (b, NodesSpent b.used) else given b w id (suc b.used)

-- the smallest Back slot, else a Fresh one
abbrev pub take_slot : {Break : Type 0} → Book → ℕ → Option ℕ → Book × Reply Break
take_slot b w (Some id) = given b w id b.used
take_slot b w None = take_fresh b w (next_fresh b)

abbrev pub take_free : {Break : Type 0} → Book → ℕ → Option ℕ → Book × Reply Break
take_free b w (Some id) = (b, Holds id)
take_free b w None = take_slot b w (first_slot b is_back)

abbrev pub take_step : {Break : Type 0} → Book → ℕ → Book × Reply Break
take_step b w = if slice_index_or b.ended w false then (b, Ended w) else take_free b w (first_slot b (is_held_by w))

-- the slots of a node's children, numbered from `number` on
abbrev pub child_slots : Instance → ℕ → ℕ → ℕ → ℕ → List (List (List Group)) → List Slot
child_slots I cost parent depth number [] = []
child_slots I cost parent depth number (lines ∷ more) =
    new_slot I cost parent number (record { depth = depth; lines = lines }) ∷ child_slots I cost parent depth (suc number) more

abbrev pub children_in : Book → ℕ → List Slot
children_in b id =
    child_slots b.case.instance (best_cost b) id (suc (slot_at b id).node.depth) 0
    (children_of b.case.instance (slot_at b id).node.depth (slot_at b id).node.lines)

-- the slot becomes Split, and its children are appended
abbrev pub with_children : Book → ℕ → Book
with_children b id = record b { slots = (with_state b id (slot.Split (length b.slots))).slots ++ children_in b id }

abbrev pub split_slot : {Break : Type 0} → Book → ℕ → Book × Reply Break
split_slot b id = (noted (with_children b id) (entry.Split id), Made (length (children_in b id)))

abbrev pub split_step : {Break : Type 0} → Book → ℕ → Book × Reply Break
split_step b id =
    if not (is_held (slot_at b id).state) then (b, NotHeld id)
    else if nat_le (length b.case.instance.ships) (slot_at b id).node.depth then (b, Whole id)
    else split_slot b id

-- a slot may be closed where it is held or parked
abbrev pub may_close : Book → ℕ → Bool
may_close b id = is_held (slot_at b id).state || is_parked (slot_at b id).state

abbrev pub hits_in : Book → ℕ → Option Cut → Bool
hits_in b id None = false
hits_in b id (Some cut) = is_node_hit b.case.instance cut (slot_at b id).node.lines

-- the probe of the slot's node and ship s
abbrev pub probe_at : Book → ℕ → ℕ → ℕ
probe_at b id s = probe_of b.case.instance (slot_at b id).node.depth (slot_at b id).node.lines s

-- s is a ship of the instance that the slot's node lacks
abbrev pub lacks_ship : Book → ℕ → ℕ → Bool
lacks_ship b id s = has_number (missing_ships b.case.instance (slot_at b id).node.depth) s

-- a bound that is below the best cost is refused
abbrev pub cheaper_than : {Break : Type 0} → ℕ → ℕ → Option (Reply Break)
cheaper_than best bound = if nat_lt bound best then Some (Cheaper bound best) else None

-- why slot id isn't closed so, where it may be closed; by prices it is closed by what was shown alone (`price_refusal`), and by a
-- sweep by what was swept (`sweep_refusal`)
abbrev pub refusal_of : {Break : Type 0} → Book → ℕ → Ground → Option (Reply Break)
refusal_of b id by.Bound = cheaper_than (best_cost b) (slot_at b id).bound
refusal_of b id by.Throughput = cheaper_than (best_cost b) (throughput_of b.case.instance)
refusal_of b id (by.Probe s) = if not (lacks_ship b id s) then Some (Absent s) else cheaper_than (best_cost b) (probe_at b id s)
refusal_of b id (by.Cut number) = if not (hits_in b id (slice_get b.cuts number)) then Some (NoHit number) else None
refusal_of b id (by.Price number) = Some NotShown
refusal_of b id (by.Swept number) = Some NotSwept

-- what was shown is of the case's instance, of slot id's node, by these prices and by the first cuts of the book
abbrev pub is_shown : Book → ℕ → PriceList → Shown → Bool
is_shown b id prices shown =
    same_instance shown.instance b.case.instance && same_node shown.node (slot_at b id).node && same_prices shown.prices prices
    && are_first_cuts shown.cuts b.cuts

-- why slot id isn't closed by the prices of this number, where it may be closed
abbrev pub price_refusal : {Break : Type 0} → Book → ℕ → ℕ → Shown → Option PriceList → Option (Reply Break)
price_refusal b id number shown None = Some (NoPrices number)
price_refusal b id number shown (Some prices) = if not (is_shown b id prices shown) then Some NotShown else cheaper_than (best_cost b) shown.cost

-- what was swept is of the case's instance, by the first cuts of the book
abbrev pub is_swept : Book → Swept → Bool
is_swept b swept = same_instance swept.instance b.case.instance && are_first_cuts swept.cuts b.cuts

-- by the prices of this number, where they are there
abbrev pub sweep_by_prices : {Break : Type 0} → Book → ℕ → Swept → Option PriceList → Option (Reply Break)
sweep_by_prices b number swept None = Some (NoPrices number)
sweep_by_prices b number swept (Some prices) = if not (is_swept b swept) then Some NotSwept else cheaper_than (best_cost b) swept.cost

-- why slot id isn't closed by a sweep that went by the prices of this number, where it may be closed
abbrev pub sweep_refusal : {Break : Type 0} → Book → ℕ → ℕ → Swept → Option PriceList → Option (Reply Break)
sweep_refusal b id number swept prices =
    if not (nat_eq (slot_at b id).node.depth 0) then Some NotRoot else sweep_by_prices b number swept prices

-- slot id is closed
abbrev pub closed : Book → ℕ → Ground → Book
closed b id why = noted (with_state b id (slot.Closed why)) (entry.Close id why)

abbrev pub close_unless : {Break : Type 0} → Book → ℕ → Ground → Option (Reply Break) → Book × Reply Break
close_unless b id why (Some refusal) = (b, refusal)
close_unless b id why None = (closed b id why, Closed)

abbrev pub close_step : {Break : Type 0} → Book → ℕ → Ground → Book × Reply Break
close_step b id why = if not (may_close b id) then (b, NotHeld id) else close_unless b id why (refusal_of b id why)

abbrev pub close_price_step : {Break : Type 0} → Book → ℕ → ℕ → Shown → Book × Reply Break
close_price_step b id number shown =
    if not (may_close b id) then (b, NotHeld id)
    else close_unless b id (by.Price number) (price_refusal b id number shown (slice_get b.prices number))

abbrev pub close_swept_step : {Break : Type 0} → Book → ℕ → ℕ → Swept → Book × Reply Break
close_swept_step b id number swept =
    if not (may_close b id) then (b, NotHeld id)
    else close_unless b id (by.Swept number) (sweep_refusal b id number swept (slice_get b.prices number))

-- why the cost isn't shown of slot id by the prices of this number, where it is live
abbrev pub low_refusal : {Break : Type 0} → Book → ℕ → ℕ → Shown → Option PriceList → Option (Reply Break)
low_refusal b id number shown None = Some (NoPrices number)
low_refusal b id number shown (Some prices) =
    if not (is_shown b id prices shown) then Some NotShown
    else if nat_le shown.cost (slot_low (slot_at b id)) then Some (Lower shown.cost (slot_low (slot_at b id)))
    else None

-- this is shown of slot id
abbrev pub with_low : Book → ℕ → ShownLow → Book
with_low b id low = record b { slots = slice_set b.slots id (record (slot_at b id) { shown = Some low }) }

abbrev pub low_shown : Book → ℕ → ShownLow → Book
low_shown b id low = noted (with_low b id low) (entry.ShowLow id low)

abbrev pub show_unless : {Break : Type 0} → Book → ℕ → ShownLow → Option (Reply Break) → Book × Reply Break
show_unless b id low (Some refusal) = (b, refusal)
show_unless b id low None = (low_shown b id low, LowShown)

abbrev pub show_low_step : {Break : Type 0} → Book → ℕ → ℕ → Shown → Book × Reply Break
show_low_step b id number shown =
    if not (is_live (slot_at b id).state) then (b, NotHeld id)
    else show_unless b id (record { prices = number; cost = shown.cost }) (low_refusal b id number shown (slice_get b.prices number))

abbrev pub priced : {Break : Type 0} → Book → PriceList → Book × Reply Break
priced b prices = (noted (record b { prices = b.prices ++ prices ∷ [] }) entry.Prices, Priced (length b.prices))

abbrev pub post_prices_step : {Break : Type 0} → Book → PriceList → Book × Reply Break
post_prices_step b prices = if not (has_shape b.case.instance prices) then (b, OtherPrices) else priced b prices

abbrev pub posted : {Break : Type 0} → Book → Cut → Book × Reply Break
posted b cut = (noted (record b { cuts = b.cuts ++ cut ∷ [] }) entry.Post, Posted (length b.cuts))

abbrev pub post_step : {Break : Type 0} → Book → Cut → Book × Reply Break
post_step b cut = if not (is_own_cut b.case.instance cut) then (b, OtherDeck) else posted b cut

-- the lent deck is that of the group, and the lent turns are enough
abbrev pub is_lent : Book → ℕ → Group → Deck → ℕ → Bool
is_lent b c g deck turns = same_deck (deck_of b.case.instance c g.ships) deck && nat_le b.case.turns turns

abbrev pub parked : {Break : Type 0} → Book → ℕ → ℕ → ℕ → Book × Reply Break
parked b id c p = (noted (with_state b id (slot.Parked c p)) (entry.Park id c p), Parked)

-- by the named group
abbrev pub park_group : {Break : Type 0} → Book → ℕ → ℕ → ℕ → Deck → ℕ → Option Group → Book × Reply Break
park_group b id c p deck turns None = (b, OtherDeck)
park_group b id c p deck turns (Some g) =
    if not (is_lent b c g deck turns) then (b, OtherDeck)
    else if has_clash deck.ships then (b, Clashes id)
    else parked b id c p

abbrev pub park_step : {Break : Type 0} → Book → ℕ → ℕ → ℕ → Deck → ℕ → Book × Reply Break
park_step b id c p deck turns =
    if not (is_held (slot_at b id).state) then (b, NotHeld id)
    else park_group b id c p deck turns (group_at (slot_at b id).node c p)

-- a Fresh, Back or Parked slot whose bound is at least the cost is closed
abbrev pub outdone : ℕ → Slot → Slot
outdone cost s = if (is_fresh s.state || is_back s.state || is_parked s.state) && nat_le cost s.bound then record s { state = slot.Closed by.Bound } else s

-- the plan is the best one
abbrev pub replaced : Book → Plan → Book
replaced b plan = noted (record b { best = plan; plans = b.plans ++ plan ∷ []; slots = map (outdone (cost_of b.case.instance plan)) b.slots }) entry.Replace

-- by the first break of the plan
abbrev pub replace_by : {Break : Type 0} → Book → Plan → Option Break → Book × Reply Break
replace_by b plan (Some found) = (b, NotLegal found)
replace_by b plan None =
    if nat_le (best_cost b) (cost_of b.case.instance plan) then (b, NotCheaper (cost_of b.case.instance plan) (best_cost b))
    else (replaced b plan, Replaced (cost_of b.case.instance plan))

-- the worker has ended, and gives back the slot that it holds
abbrev pub release_slot : {Break : Type 0} → Book → ℕ → Option ℕ → Book × Reply Break
release_slot b w None = (noted (record b { ended = slice_set b.ended w true }) (entry.Release w), Released 0)
release_slot b w (Some id) = (noted (record (with_state b id slot.Back) { ended = slice_set b.ended w true }) (entry.Release w), Released 1)

abbrev pub release_step : {Break : Type 0} → Book → ℕ → Book × Reply Break
release_step b w = if slice_index_or b.ended w false then (b, Ended w) else release_slot b w (first_slot b (is_held_by w))

-- The book after an event, and the reply; `first_break` is the first break of a plan.
abbrev pub step : {Break : Type 0} → (Instance → Plan → Option Break) → Book → Event → Book × Reply Break
step first_break b (take w) = take_step b w
step first_break b (split id) = split_step b id
step first_break b (close id why) = close_step b id why
step first_break b (post cut) = post_step b cut
step first_break b (post_prices prices) = post_prices_step b prices
step first_break b (close_price id number shown) = close_price_step b id number shown
step first_break b (close_swept id number swept) = close_swept_step b id number swept
step first_break b (show_low id number shown) = show_low_step b id number shown
step first_break b (park id c p deck turns) = park_step b id c p deck turns
step first_break b (replace plan) = replace_by b plan (first_break b.case.instance plan)
step first_break b (release w) = release_step b w
