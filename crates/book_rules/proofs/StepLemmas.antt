-- What every step of the book machine keeps.
use Rattle.std.proofs.Common.{◌≡◌, ℕ, suc, List, [], ◌∷◌, ◌++◌, length, refl, sym, ap, ◌∙◌, Bool, true, false, not, cond, Some, None, slice_index_or, slice_get, nat_eq, nat_le}
use Rattle.std.specs.declared.option.Option.{Option}
use Rattle.lock_model.specs.Deck.{Deck}
use Rattle.lock_model.specs.declared.instance.Instance.{Instance}
use Rattle.lock_model.specs.declared.group.Group.{Group}
use Rattle.lock_model.specs.declared.plan.Plan.{Plan}
use Rattle.price_rules.specs.Prices.{PriceList}
use Rattle.refute_rules.specs.Cuts.{Cut}
use Rattle.book_rules.specs.declared.book.Entry.{Entry}
use Rattle.book_rules.specs.declared.book.ShownLow.{ShownLow}
use Rattle.book_rules.specs.Events.{Event, Reply, is_acceptance}
use Rattle.book_rules.specs.declared.book.Entry.TheVariants as entry
use Rattle.book_rules.specs.Book.{Book, slot_at, best_cost, first_slot, has_slot, is_back, is_held, is_held_by, is_live, group_at}
use Rattle.book_rules.specs.Events.{take, split, close, post, post_prices, close_price, close_swept, show_low, park, replace, release}
use Rattle.book_rules.specs.Events.{Node, Made, Closed, LowShown, Parked, Replaced, Released, Ended, NodesSpent, Idle, Done, NotHeld, Whole, OtherDeck, OtherPrices, NotCheaper, Clashes}
use Rattle.lock_rules.specs.Plan.{cost_of}
use Rattle.book_rules.specs.Tests.{has_clash, is_own_cut, has_shape}
use Rattle.book_rules.specs.NextSlot
use Rattle.book_rules.specs.Step
use Rattle.book_rules.proofs.ClosingLemmas.{MayRefuse, may-refuse, may-refuse_price, may-refuse_sweep, may-refuse_low}
use Rattle.closing_rules.specs.declared.grounds.Ground.{Ground}
use Rattle.closing_rules.specs.declared.grounds.Ground.TheVariants as by

-- the entry of an event, and the cuts, plans and prices that it brings
abbrev pub entry_of : Event → Entry
entry_of (take w) = entry.Take w
entry_of (split id) = entry.Split id
entry_of (close id why) = entry.Close id why
entry_of (post cut) = entry.Post
entry_of (post_prices prices) = entry.Prices
entry_of (close_price id number shown) = entry.Close id (by.Price number)
entry_of (close_swept id number swept) = entry.Close id (by.Swept number)
entry_of (show_low id number shown) = entry.ShowLow id (record { prices = number; cost = shown.cost })
entry_of (park id c p deck turns) = entry.Park id c p
entry_of (replace plan) = entry.Replace
entry_of (release w) = entry.Release w

abbrev pub cuts_of : Event → List Cut
cuts_of (post cut) = cut ∷ []
cuts_of _ = []

abbrev pub plans_of : Event → List Plan
plans_of (replace plan) = plan ∷ []
plans_of _ = []

abbrev pub prices_of : Event → List PriceList
prices_of (post_prices prices) = prices ∷ []
prices_of _ = []

-- an accepted event: one entry more, its cuts, plans and prices, and the same case and opening plan
pub record IsAccepted (Break : Type 0) (old : Book) (e : Event) (out : Book × Reply Break) : Type 0 where
  pub accepted : is_acceptance out.1 ≡ true
  pub history : out.0.history ≡ old.history ++ entry_of e ∷ []
  pub cuts : out.0.cuts ≡ old.cuts ++ cuts_of e
  pub plans : out.0.plans ≡ old.plans ++ plans_of e
  pub prices : out.0.prices ≡ old.prices ++ prices_of e
  pub case : out.0.case ≡ old.case
  pub opening : out.0.opening ≡ old.opening

-- a refusal leaves the book as it was
pub data IsStep {Break : Type 0} (old : Book) (e : Event) (out : Book × Reply Break) : Type 0 where
  Refused : is_acceptance out.1 ≡ false → out.0 ≡ old → IsStep old e out
  Accepted : IsAccepted Break old e out → IsStep old e out

append-nil : {X : Type 0} (xs : List X) → xs ≡ xs ++ []
append-nil [] = refl
append-nil (x ∷ xs) = ap (λ ys. x ∷ ys) (append-nil xs)

-- of a choice, both sides
by_test : {Break : Type 0} (old : Book) (e : Event) (t : Bool) (a b : Book × Reply Break) → IsStep old e a → IsStep old e b → IsStep old e (cond t a b)
by_test old e true a b p q = p
by_test old e false a b p q = q

module _ {Break : Type 0} (broken : Instance → Plan → Option Break) (b : Book) where
  abbrev Is : Event → Book × Reply Break → Type 0
  Is e out = IsStep {Break = Break} b e out

  -- one refusal before another way on
  refuse_or : (e : Event) (t : Bool) (r : Reply Break) (out : Book × Reply Break) → is_acceptance r ≡ false → Is e out → Is e (cond t (b, r) out)
  refuse_or e t r out f h = by_test b e t (b, r) out (Refused f refl) h

  -- an accepted event that brings neither cut nor plan nor prices
  plain : (e : Event) (new : Book) (r : Reply Break) → cuts_of e ≡ [] → plans_of e ≡ [] → prices_of e ≡ [] → is_acceptance r ≡ true → new.history ≡ b.history ++ entry_of e ∷ [] → new.cuts ≡ b.cuts → new.plans ≡ b.plans → new.prices ≡ b.prices → new.case ≡ b.case → new.opening ≡ b.opening → Is e (new, r)
  plain e new r no_cut no_plan no_prices good history cuts plans prices case opening = Accepted (record {
    accepted = good;
    history = history;
    cuts = cuts ∙ append-nil b.cuts ∙ ap (λ ds. b.cuts ++ ds) (sym no_cut);
    plans = plans ∙ append-nil b.plans ∙ ap (λ qs. b.plans ++ qs) (sym no_plan);
    prices = prices ∙ append-nil b.prices ∙ ap (λ us. b.prices ++ us) (sym no_prices);
    case = case;
    opening = opening;
  })

  given-step : (w id used : ℕ) → Is (take w) (Step.given b w id used)
  given-step w id used = plain (take w) (Step.given {Break = Break} b w id used).0 (Node id (slot_at b id).node) refl refl refl refl refl refl refl refl refl refl

  idle-step : (w : ℕ) (t : Bool) → Is (take w) (b, cond t Idle Done)
  idle-step w true = Refused refl refl
  idle-step w false = Refused refl refl

  take_fresh-step : (w : ℕ) (o : Option ℕ) → Is (take w) (Step.take_fresh b w o)
  take_fresh-step w None = idle-step w (has_slot b is_held)
  take_fresh-step w (Some id) = refuse_or (take w) (nat_eq b.used b.case.nodes) (NodesSpent b.used) (Step.given b w id (suc b.used)) refl (given-step w id (suc b.used))

  take_slot-step : (w : ℕ) (o : Option ℕ) → Is (take w) (Step.take_slot b w o)
  take_slot-step w (Some id) = given-step w id b.used
  take_slot-step w None = take_fresh-step w (NextSlot.next_fresh b)

  take_free-step : (w : ℕ) (o : Option ℕ) → Is (take w) (Step.take_free b w o)
  take_free-step w (Some id) = Refused refl refl
  take_free-step w None = take_slot-step w (first_slot b is_back)

  -- an event that closes slot id so, unless it is refused
  close-step : (e : Event) (id : ℕ) (why : Ground) → cuts_of e ≡ [] → plans_of e ≡ [] → prices_of e ≡ [] → entry.Close id why ≡ entry_of e
      → (o : Option (Reply Break)) → MayRefuse o → Is e (Step.close_unless b id why o)
  close-step e id why no_cut no_plan no_prices own (Some r) refuses = Refused refuses refl
  close-step e id why no_cut no_plan no_prices own None refuses =
      plain e (Step.closed b id why) Closed no_cut no_plan no_prices refl (ap (λ x. b.history ++ x ∷ []) own) refl refl refl refl refl

  -- an event that shows this of slot id, unless it is refused
  show-step : (e : Event) (id : ℕ) (low : ShownLow) → cuts_of e ≡ [] → plans_of e ≡ [] → prices_of e ≡ [] → entry.ShowLow id low ≡ entry_of e
      → (o : Option (Reply Break)) → MayRefuse o → Is e (Step.show_unless b id low o)
  show-step e id low no_cut no_plan no_prices own (Some r) refuses = Refused refuses refl
  show-step e id low no_cut no_plan no_prices own None refuses =
      plain e (Step.low_shown b id low) LowShown no_cut no_plan no_prices refl (ap (λ x. b.history ++ x ∷ []) own) refl refl refl refl refl

  park_group-step : (id c p : ℕ) (deck : Deck) (turns : ℕ) (o : Option Group) → Is (park id c p deck turns) (Step.park_group b id c p deck turns o)
  park_group-step id c p deck turns None = Refused refl refl
  park_group-step id c p deck turns (Some g) =
      refuse_or (park id c p deck turns) (not (Step.is_lent b c g deck turns)) OtherDeck (cond (has_clash deck.ships) (b, Clashes id) (Step.parked b id c p)) refl
      (refuse_or (park id c p deck turns) (has_clash deck.ships) (Clashes id) (Step.parked b id c p) refl
      (plain (park id c p deck turns) (Step.parked {Break = Break} b id c p).0 Parked refl refl refl refl refl refl refl refl refl refl))

  replace_by-step : (plan : Plan) (o : Option Break) → Is (replace plan) (Step.replace_by b plan o)
  replace_by-step plan (Some found) = Refused refl refl
  replace_by-step plan None =
      refuse_or (replace plan) (nat_le (best_cost b) (cost_of b.case.instance plan)) (NotCheaper (cost_of b.case.instance plan) (best_cost b)) (Step.replaced b plan, Replaced (cost_of b.case.instance plan)) refl
      (Accepted (record { accepted = refl; history = refl; cuts = append-nil b.cuts; plans = refl; prices = append-nil b.prices; case = refl; opening = refl }))

  release_slot-step : (w : ℕ) (o : Option ℕ) → Is (release w) (Step.release_slot b w o)
  release_slot-step w None = plain (release w) (Step.release_slot {Break = Break} b w None).0 (Released 0) refl refl refl refl refl refl refl refl refl refl
  release_slot-step w (Some id) = plain (release w) (Step.release_slot {Break = Break} b w (Some id)).0 (Released 1) refl refl refl refl refl refl refl refl refl refl

  -- A refused event leaves the book as it was; an accepted one appends its entry, its cuts, its plans and its prices, and keeps the case and the opening plan.
  pub each-step : (e : Event) → IsStep {Break = Break} b e (Step.step broken b e)
  each-step (take w) = refuse_or (take w) (slice_index_or b.ended w false) (Ended w) (Step.take_free b w (first_slot b (is_held_by w))) refl (take_free-step w (first_slot b (is_held_by w)))
  each-step (split id) =
      let whole = nat_le (length b.case.instance.ships) (slot_at b id).node.depth in
      refuse_or (split id) (not (is_held (slot_at b id).state)) (NotHeld id) (cond whole (b, Whole id) (Step.split_slot b id)) refl
      (refuse_or (split id) whole (Whole id) (Step.split_slot b id) refl
      (plain (split id) (Step.split_slot {Break = Break} b id).0 (Made (length (Step.children_in b id))) refl refl refl refl refl refl refl refl refl refl))
  each-step (close id why) =
      refuse_or (close id why) (not (Step.may_close b id)) (NotHeld id) (Step.close_unless b id why (Step.refusal_of b id why)) refl
      (close-step (close id why) id why refl refl refl refl (Step.refusal_of b id why) (may-refuse b id Break why))
  each-step (post cut) =
      refuse_or (post cut) (not (is_own_cut b.case.instance cut)) OtherDeck (Step.posted b cut) refl
      (Accepted (record { accepted = refl; history = refl; cuts = refl; plans = append-nil b.plans; prices = append-nil b.prices; case = refl; opening = refl }))
  each-step (post_prices prices) =
      refuse_or (post_prices prices) (not (has_shape b.case.instance prices)) OtherPrices (Step.priced b prices) refl
      (Accepted (record { accepted = refl; history = refl; cuts = append-nil b.cuts; plans = append-nil b.plans; prices = refl; case = refl; opening = refl }))
  each-step (close_price id number shown) =
      let refusal = Step.price_refusal b id number shown (slice_get b.prices number) in
      refuse_or (close_price id number shown) (not (Step.may_close b id)) (NotHeld id) (Step.close_unless b id (by.Price number) refusal) refl
      (close-step (close_price id number shown) id (by.Price number) refl refl refl refl refusal (may-refuse_price b id Break number shown (slice_get b.prices number)))
  each-step (close_swept id number swept) =
      let refusal = Step.sweep_refusal b id number swept (slice_get b.prices number) in
      refuse_or (close_swept id number swept) (not (Step.may_close b id)) (NotHeld id) (Step.close_unless b id (by.Swept number) refusal) refl
      (close-step (close_swept id number swept) id (by.Swept number) refl refl refl refl refusal (may-refuse_sweep b id Break number swept (slice_get b.prices number)))
  each-step (show_low id number shown) =
      let low : ShownLow = record { prices = number; cost = shown.cost } in
      let refusal = Step.low_refusal b id number shown (slice_get b.prices number) in
      refuse_or (show_low id number shown) (not (is_live (slot_at b id).state)) (NotHeld id) (Step.show_unless b id low refusal) refl
      (show-step (show_low id number shown) id low refl refl refl refl refusal (may-refuse_low b id Break number shown (slice_get b.prices number)))
  each-step (park id c p deck turns) =
      let onwards = Step.park_group b id c p deck turns (group_at (slot_at b id).node c p) in
      refuse_or (park id c p deck turns) (not (is_held (slot_at b id).state)) (NotHeld id) onwards refl (park_group-step id c p deck turns (group_at (slot_at b id).node c p))
  each-step (replace plan) = replace_by-step plan (broken b.case.instance plan)
  each-step (release w) = refuse_or (release w) (slice_index_or b.ended w false) (Ended w) (Step.release_slot b w (first_slot b (is_held_by w))) refl (release_slot-step w (first_slot b (is_held_by w)))
