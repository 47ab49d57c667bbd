-- What an event does to a book: a refusal leaves it, and each accepted event is one of eleven moves.
use Rattle.std.proofs.Common.{◌≡◌, ◌≢◌, ℕ, zero, suc, ◌<◌, ◌≤◌, List, [], ◌∷◌, ◌++◌, length, inl, inr, refl, sym, ap, ◌∙◌, subst, arith, Bool, true, false, not, cond, ◌||◌, Some, None, slice_index_or, slice_get, slice_set, nat_eq, nat_le, leb-true, true≢false, leb-false}
use Rattle.std.proofs.lemmas.Bool.{and_parts, not-false}
use Rattle.std.proofs.lemmas.Option.{same_Some, none-some}
use Rattle.std.specs.declared.option.Option.{Option}
use Rattle.std.proofs.lemmas.Bool.Decides.{eqb_tells}
use Rattle.lock_model.specs.declared.limits.TheConstants.{WORKERS}
use Rattle.lock_model.specs.Deck.{Deck}
use Rattle.lock_model.specs.Fitting.{deck_of}
use Rattle.lock_model.specs.Cargo.{HasNoClash}
use Rattle.lock_model.specs.declared.instance.Instance.{Instance}
use Rattle.lock_model.specs.declared.group.Group.{Group}
use Rattle.lock_model.specs.declared.plan.Plan.{Plan}
use Rattle.lock_rules.specs.Plan.{cost_of}
use Rattle.lock_rules.specs.Node.{line_at}
use Rattle.price_rules.specs.Prices.{PriceList}
use Rattle.refute_rules.specs.Spots.{IsSpent}
use Rattle.refute_rules.specs.Cuts.{Cut, IsCut}
use Rattle.refute_rules.proofs.ListingLemmas.{spent-fewer}
use Rattle.book_rules.specs.declared.book.Entry.{Entry}
use Rattle.book_rules.specs.declared.book.ShownLow.{ShownLow}
use Rattle.book_rules.specs.declared.book.Entry.TheVariants as entry
use Rattle.book_rules.specs.declared.book.SlotState.{SlotState}
use Rattle.book_rules.specs.declared.book.SlotState.TheVariants as slot
use Rattle.book_rules.specs.Tests.{same_deck, has_clash, is_own_cut, has_shape}
use Rattle.book_rules.specs.Book.{Slot, Book, no_slot, slot_at, slot_low, best_cost, first_slot, has_slot, is_back, is_held, is_held_by, is_parked, is_live, group_at, ships_at, no_group}
use Rattle.book_rules.specs.Events.{Event, Reply, IsOwed, is_acceptance, take, split, close, post, post_prices, close_price, close_swept, show_low, park, replace, release}
use Rattle.book_rules.specs.Events.{Replaced, Ended, NodesSpent, Idle, Done, NotHeld, Whole, OtherDeck, OtherPrices, NotCheaper, Clashes}
use Rattle.book_rules.specs.NextSlot.{next_fresh}
use Rattle.book_rules.specs.Step
use Rattle.closing_rules.specs.ListedPrices.{ArePrices, AreShapedPrices}
use Rattle.book_rules.specs.States.{Tells}
use Rattle.book_rules.specs.Lows.{IsReachedLow}
use Rattle.book_rules.proofs.ClosingLemmas.{MayRefuse, may-refuse, may-refuse_price, may-refuse_sweep, may-refuse_low, unrefused-may, shown-may, swept-may, low-may}
use Rattle.book_rules.proofs.CoverLemmas.{held-known}
use Rattle.book_rules.proofs.TestLemmas.{same_deck-decides, HasNoClash-test, is_own_cut-decides, has_shape-decides}
use Rattle.book_rules.specs.Cover.{IsOwnCut}
use Rattle.book_rules.proofs.SlotLemmas.{IsAt, back-is, held-is, held_by-is, held_by-itself, first_slot-at, first_slot-none, next_fresh-at}
use Rattle.closing_rules.specs.declared.grounds.Ground.{Ground}
use Rattle.closing_rules.specs.declared.grounds.Ground.TheVariants as by

-- the book with slot id in another state, and these numbers
abbrev pub turned : Book → ℕ → SlotState → ℕ → List Bool → Entry → Book
turned b id state used ended e = Step.noted (record (Step.with_state b id state) { used = used; ended = ended }) e

-- worker w is one of nine and hasn't ended
pub record IsRunning (b : Book) (w : ℕ) : Type 0 where
  pub known : w ≤ WORKERS
  pub running : slice_index_or b.ended w false ≡ false

-- worker w holds no slot
abbrev pub HoldsNone : Book → ℕ → Type 0
HoldsNone b w = (id : ℕ) → (slot_at b id).state ≡ slot.Held w → ⊥

-- a state that a slot may be closed from
pub data MayClose : SlotState → Type 0 where
  FromHeld : (w : ℕ) → MayClose (slot.Held w)
  FromParked : (c p : ℕ) → MayClose (slot.Parked c p)

-- what the new state of slot id tells is true
abbrev pub TellsAt : Book → ℕ → SlotState → Type 0
TellsAt b id state = Tells b.case b.cuts b.prices (best_cost b) (slot_at b id).node (slot_at b id).bound state

-- this may be shown of slot id: it is there and live, and its node reaches the cost, which is more than was known of it
pub record MayShow (b : Book) (id : ℕ) (low : ShownLow) : Type 0 where
  pub known : id < length b.slots
  pub live : is_live (slot_at b id).state ≡ true
  pub more : slot_low (slot_at b id) < low.cost
  pub reached : IsReachedLow b.case.instance b.cuts b.prices (slot_at b id).node (Some low)

-- the event takes room for its own entry
abbrev pub is_growing : Event → Bool
is_growing (post cut) = true
is_growing (post_prices prices) = true
is_growing (replace plan) = true
is_growing (show_low id number shown) = true
is_growing _ = false

pub data IsMove {Break : Type 0} (b : Book) (e : Event) (out : Book × Reply Break) : Type 0 where
  Stays : is_acceptance out.1 ≡ false → out.0 ≡ b → IsMove b e out
  TakesBack : (w id : ℕ) → IsRunning b w → HoldsNone b w → first_slot b is_back ≡ Some id → IsAt b id slot.Back → out.0 ≡ turned b id (slot.Held w) b.used b.ended (entry.Take w) → IsMove b e out
  TakesFresh : (w id : ℕ) → IsRunning b w → HoldsNone b w → first_slot b is_back ≡ None → next_fresh b ≡ Some id → IsAt b id slot.Fresh → b.used ≢ b.case.nodes → out.0 ≡ turned b id (slot.Held w) (suc b.used) b.ended (entry.Take w) → IsMove b e out
  Splits : (w id : ℕ) → IsAt b id (slot.Held w) → (slot_at b id).node.depth < length b.case.instance.ships → out.0 ≡ Step.noted (Step.with_children b id) (entry.Split id) → IsMove b e out
  Closes : (old : SlotState) (why : Ground) (id : ℕ) → MayClose old → IsAt b id old → TellsAt b id (slot.Closed why) → out.0 ≡ turned b id (slot.Closed why) b.used b.ended (entry.Close id why) → IsMove b e out
  Parks : (w id c p : ℕ) → IsAt b id (slot.Held w) → TellsAt b id (slot.Parked c p) → out.0 ≡ turned b id (slot.Parked c p) b.used b.ended (entry.Park id c p) → IsMove b e out
  Shows : (id : ℕ) (low : ShownLow) → is_growing e ≡ true → MayShow b id low → out.0 ≡ Step.low_shown b id low → IsMove b e out
  Posts : (cut : Cut) → is_growing e ≡ true → IsCut cut → IsOwnCut b.case.instance cut → out.0 ≡ Step.noted (record b { cuts = b.cuts ++ cut ∷ [] }) entry.Post → IsMove b e out
  Prices : (prices : PriceList) → is_growing e ≡ true → ArePrices prices → AreShapedPrices b.case.instance prices → out.0 ≡ Step.noted (record b { prices = b.prices ++ prices ∷ [] }) entry.Prices → IsMove b e out
  Replaces : (plan : Plan) → is_growing e ≡ true → cost_of b.case.instance plan < best_cost b → out.0 ≡ Step.replaced b plan → IsMove b e out
  Ends : (w : ℕ) → IsRunning b w → HoldsNone b w → out.0 ≡ Step.noted (record b { ended = slice_set b.ended w true }) (entry.Release w) → IsMove b e out
  GivesBack : (w id : ℕ) → IsRunning b w → IsAt b id (slot.Held w) → out.0 ≡ turned b id slot.Back b.used (slice_set b.ended w true) (entry.Release w) → IsMove b e out

pub state-known : (b : Book) (id : ℕ) (state : SlotState) → (slot_at b id).state ≡ state → (state ≡ slot.Closed by.Bound → ⊥) → id < length b.slots
state-known b id state is other = in_list b.slots id is
  where
    in_list : (xs : List Slot) (id : ℕ) → (slice_index_or xs id no_slot).state ≡ state → id < length xs
    in_list [] id e = absurd (other (sym e))
    in_list (x ∷ xs) zero e = omega arith
    in_list (x ∷ xs) (suc id) e = let rest = in_list xs id e in omega (arith, rest)

held-at : (b : Book) (id : ℕ) → is_held (slot_at b id).state ≡ true → (w : ℕ) × IsAt b id (slot.Held w)
held-at b id e =
    let held = held-is (slot_at b id).state e in
    (held.0, record { known = held-known b.slots id e; is = held.1 })

module _ {Break : Type 0} (broken : Instance → Plan → Option Break) (b : Book) where
  abbrev I : Instance
  I = b.case.instance

  abbrev Is : Event → Book × Reply Break → Type 0
  Is e out = IsMove {Break = Break} b e out

  -- one refusal before another way on
  refuse_or : (e : Event) (t : Bool) (r : Reply Break) (out : Book × Reply Break) → is_acceptance r ≡ false → (t ≡ false → Is e out) → Is e (cond t (b, r) out)
  refuse_or e true r out f h = Stays f refl
  refuse_or e false r out f h = h refl

  holds-none : (w : ℕ) → first_slot b (is_held_by w) ≡ None → HoldsNone b w
  holds-none w e id is =
      let known = state-known b id (slot.Held w) is held-open in
      true≢false (sym (held_by-itself w) ∙ ap (is_held_by w) (sym is) ∙ first_slot-none b (is_held_by w) e id known)
    where
      held-open : slot.Held w ≡ slot.Closed by.Bound → ⊥
      held-open e = true≢false (ap is_held e)

  idle-move : (w : ℕ) (t : Bool) → Is (take w) (b, cond t Idle Done)
  idle-move w true = Stays refl refl
  idle-move w false = Stays refl refl

  take_fresh-move : (w : ℕ) → IsRunning b w → HoldsNone b w → first_slot b is_back ≡ None → (o : Option ℕ) → next_fresh b ≡ o → Is (take w) (Step.take_fresh b w o)
  take_fresh-move w runs none back None e = idle-move w (has_slot b is_held)
  take_fresh-move w runs none back (Some id) e =
      refuse_or (take w) (nat_eq b.used b.case.nodes) (NodesSpent b.used) (Step.given b w id (suc b.used)) refl (λ f.
      TakesFresh w id runs none back e (next_fresh-at b id e) (differ f) refl)
    where
      differ : nat_eq b.used b.case.nodes ≡ false → b.used ≢ b.case.nodes
      differ f = elim (eqb_tells b.used b.case.nodes) [ inl y ↦ absurd (true≢false (sym y.0 ∙ f)) | inr n ↦ n.1 ]

  take_slot-move : (w : ℕ) → IsRunning b w → HoldsNone b w → (o : Option ℕ) → first_slot b is_back ≡ o → Is (take w) (Step.take_slot b w o)
  take_slot-move w runs none (Some id) e =
      let at = first_slot-at b is_back id e in
      TakesBack w id runs none e (record { known = at.0; is = back-is (slot_at b id).state at.1 }) refl
  take_slot-move w runs none None e = take_fresh-move w runs none e (next_fresh b) refl

  take_free-move : (w : ℕ) → IsRunning b w → (o : Option ℕ) → first_slot b (is_held_by w) ≡ o → Is (take w) (Step.take_free b w o)
  take_free-move w runs (Some id) e = Stays refl refl
  take_free-move w runs None e = take_slot-move w runs (holds-none w e) (first_slot b is_back) refl

  release_slot-move : (w : ℕ) → IsRunning b w → (o : Option ℕ) → first_slot b (is_held_by w) ≡ o → Is (release w) (Step.release_slot b w o)
  release_slot-move w runs None e = Ends w runs (holds-none w e) refl
  release_slot-move w runs (Some id) e =
      let at = first_slot-at b (is_held_by w) id e in
      GivesBack w id runs (record { known = at.0; is = held_by-is w (slot_at b id).state at.1 }) refl

  -- ---- closing

  from_state : (id : ℕ) (old : SlotState) → (slot_at b id).state ≡ old → (is_held old || is_parked old) ≡ true → MayClose old × IsAt b id old
  from_state id (slot.Held w) is e = (FromHeld w, record { known = state-known b id (slot.Held w) is (λ f. true≢false (ap is_held f)); is = is })
  from_state id (slot.Parked c p) is e = (FromParked c p, record { known = state-known b id (slot.Parked c p) is (λ f. true≢false (ap is_parked f)); is = is })
  from_state id _ is e = absurd (true≢false (sym e))

  -- an event that closes slot id so, unless it is refused
  close-move : (e : Event) (id : ℕ) (why : Ground) → Step.may_close b id ≡ true → (o : Option (Reply Break)) → MayRefuse o
      → (o ≡ None → TellsAt b id (slot.Closed why)) → Is e (Step.close_unless b id why o)
  close-move e id why may (Some r) refuses tells = Stays refuses refl
  close-move e id why may None refuses tells =
      let old = from_state id (slot_at b id).state refl may in
      Closes (slot_at b id).state why id old.0 old.1 (tells refl) refl

  -- ---- showing a cost

  live-known : (id : ℕ) → is_live (slot_at b id).state ≡ true → id < length b.slots
  live-known id live = state-known b id (slot_at b id).state refl (λ e. true≢false (sym live ∙ ap is_live e))

  -- an event that shows this of slot id, unless it is refused
  show-move : (e : Event) (id : ℕ) (low : ShownLow) → is_growing e ≡ true → (o : Option (Reply Break)) → MayRefuse o → (o ≡ None → MayShow b id low) → Is e (Step.show_unless b id low o)
  show-move e id low grows (Some r) refuses may = Stays refuses refl
  show-move e id low grows None refuses may = Shows id low grows (may refl) refl

  -- ---- parking

  got-known : (gs : List Group) (p : ℕ) (g : Group) → slice_get gs p ≡ Some g → (p < length gs) × (slice_index_or gs p no_group ≡ g)
  got-known [] p g e = absurd (none-some g e)
  got-known (h ∷ gs) zero g e = (omega arith, same_Some h g e)
  got-known (h ∷ gs) (suc p) g e = let rest = got-known gs p g e in (omega (arith, rest.0), rest.1)

  park-tells : (id c p : ℕ) (deck : Deck) (turns : ℕ) (g : Group) → group_at (slot_at b id).node c p ≡ Some g → IsSpent deck turns → Step.is_lent b c g deck turns ≡ true → has_clash deck.ships ≡ false → TellsAt b id (slot.Parked c p)
  park-tells id c p deck turns g e spent lent clear =
      let at = got-known (line_at (slot_at b id).node.lines c) p g e in
      let parts = and_parts (same_deck (deck_of I c g.ships) deck) (nat_le b.case.turns turns) lent in
      let same : deck ≡ deck_of I c (ships_at (slot_at b id).node c p) = sym ((same_deck-decides (deck_of I c g.ships) deck).0 parts.0) ∙ ap (λ (h : Group). deck_of I c h.ships) (sym at.1) in
      let fewer = leb-true b.case.turns turns parts.1 in
      record {
        there = at.0;
        spent = subst (λ d. IsSpent d b.case.turns) same (spent-fewer deck b.case.turns turns fewer spent);
        clear = subst HasNoClash same (HasNoClash-test deck clear);
      }

  park_group-move : (id c p : ℕ) (deck : Deck) (turns w : ℕ) → IsAt b id (slot.Held w) → IsSpent deck turns → (o : Option Group) → group_at (slot_at b id).node c p ≡ o → Is (park id c p deck turns) (Step.park_group b id c p deck turns o)
  park_group-move id c p deck turns w at spent None e = Stays refl refl
  park_group-move id c p deck turns w at spent (Some g) e =
      refuse_or (park id c p deck turns) (not (Step.is_lent b c g deck turns)) OtherDeck (cond (has_clash deck.ships) (b, Clashes id) (Step.parked b id c p)) refl (λ f.
      refuse_or (park id c p deck turns) (has_clash deck.ships) (Clashes id) (Step.parked b id c p) refl (λ h.
      Parks w id c p at (park-tells id c p deck turns g e spent (not-false (Step.is_lent b c g deck turns) f) h) refl))

  replace_by-move : (plan : Plan) (o : Option Break) → Is (replace plan) (Step.replace_by b plan o)
  replace_by-move plan (Some found) = Stays refl refl
  replace_by-move plan None =
      refuse_or (replace plan) (nat_le (best_cost b) (cost_of I plan)) (NotCheaper (cost_of I plan) (best_cost b)) (Step.replaced b plan, Replaced (cost_of I plan)) refl (λ e.
      Replaces plan refl (leb-false (best_cost b) (cost_of I plan) e) refl)

  -- each event is a refusal or one of the moves
  pub each-move : (e : Event) → IsOwed e → Is e (Step.step broken b e)
  each-move (take w) owed =
      refuse_or (take w) (slice_index_or b.ended w false) (Ended w) (Step.take_free b w (first_slot b (is_held_by w))) refl (λ f.
      take_free-move w (record { known = owed; running = f }) (first_slot b (is_held_by w)) refl)
  each-move (split id) owed =
      let whole = nat_le (length I.ships) (slot_at b id).node.depth in
      refuse_or (split id) (not (is_held (slot_at b id).state)) (NotHeld id) (cond whole (b, Whole id) (Step.split_slot b id)) refl (λ f.
      refuse_or (split id) whole (Whole id) (Step.split_slot b id) refl (λ g.
      let held = held-at b id (not-false (is_held (slot_at b id).state) f) in
      Splits held.0 id held.1 (leb-false (length I.ships) (slot_at b id).node.depth g) refl))
  each-move (close id why) owed =
      let refusal = Step.refusal_of b id why in
      refuse_or (close id why) (not (Step.may_close b id)) (NotHeld id) (Step.close_unless b id why refusal) refl (λ f.
      close-move (close id why) id why (not-false (Step.may_close b id) f) refusal (may-refuse b id Break why) (unrefused-may b id why))
  each-move (post cut) owed =
      refuse_or (post cut) (not (is_own_cut I cut)) OtherDeck (Step.posted b cut) refl (λ f.
      Posts cut refl owed ((is_own_cut-decides I cut).0 (not-false (is_own_cut I cut) f)) refl)
  each-move (post_prices prices) owed =
      let shaped = has_shape I prices in
      refuse_or (post_prices prices) (not shaped) OtherPrices (Step.priced b prices) refl (λ f.
      Prices prices refl owed ((has_shape-decides I prices).0 (not-false shaped f)) refl)
  each-move (close_price id number shown) owed =
      let refusal = Step.price_refusal b id number shown (slice_get b.prices number) in
      refuse_or (close_price id number shown) (not (Step.may_close b id)) (NotHeld id) (Step.close_unless b id (by.Price number) refusal) refl (λ f.
      close-move (close_price id number shown) id (by.Price number) (not-false (Step.may_close b id) f) refusal (may-refuse_price b id Break number shown (slice_get b.prices number))
      (shown-may b id number shown owed (slice_get b.prices number) refl))
  each-move (close_swept id number swept) owed =
      let refusal = Step.sweep_refusal b id number swept (slice_get b.prices number) in
      refuse_or (close_swept id number swept) (not (Step.may_close b id)) (NotHeld id) (Step.close_unless b id (by.Swept number) refusal) refl (λ f.
      close-move (close_swept id number swept) id (by.Swept number) (not-false (Step.may_close b id) f) refusal (may-refuse_sweep b id Break number swept (slice_get b.prices number))
      (swept-may b id number swept owed))
  each-move (show_low id number shown) owed =
      let low : ShownLow = record { prices = number; cost = shown.cost } in
      let refusal = Step.low_refusal b id number shown (slice_get b.prices number) in
      refuse_or (show_low id number shown) (not (is_live (slot_at b id).state)) (NotHeld id) (Step.show_unless b id low refusal) refl (λ f.
      let live = not-false (is_live (slot_at b id).state) f in
      show-move (show_low id number shown) id low refl refusal (may-refuse_low b id Break number shown (slice_get b.prices number)) (λ e.
      let may = low-may b id number shown owed (slice_get b.prices number) refl e in
      record { known = live-known id live; live = live; more = may.0; reached = may.1 }))
  each-move (park id c p deck turns) owed =
      refuse_or (park id c p deck turns) (not (is_held (slot_at b id).state)) (NotHeld id) (Step.park_group b id c p deck turns (group_at (slot_at b id).node c p)) refl (λ f.
      let held = held-at b id (not-false (is_held (slot_at b id).state) f) in
      park_group-move id c p deck turns held.0 held.1 owed (group_at (slot_at b id).node c p) refl)
  each-move (replace plan) owed = replace_by-move plan (broken I plan)
  each-move (release w) owed =
      refuse_or (release w) (slice_index_or b.ended w false) (Ended w) (Step.release_slot b w (first_slot b (is_held_by w))) refl (λ f.
      release_slot-move w (record { known = owed; running = f }) (first_slot b (is_held_by w)) refl)
