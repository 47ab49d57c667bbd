-- A book is the replay of its history, after every list of events.
use Rattle.std.proofs.Common.{◌≡◌, ℕ, zero, suc, List, [], ◌∷◌, ◌++◌, length, inl, inr, refl, sym, ap, ◌∙◌, subst, arith, Bool, true, false, not, cond, Some, None, slice_index_or, slice_get, nat_eq, nat_lt, nat_le, ◌&&◌, length-append}
use Rattle.std.proofs.lemmas.Bool.{and_parts, false≢true}
use Rattle.std.proofs.lemmas.Option.{same_Some, none-some}
use Rattle.std.specs.declared.option.Option.{Option}
use Rattle.std.proofs.lemmas.Bool.Decides.{leb_tells}
use Rattle.std.specs.List.{count_by}
use Rattle.std.proofs.lemmas.List.Sums.{sum_by-append, sum_by-cons}
use Rattle.lock_model.specs.Deck.{Deck}
use Rattle.lock_model.specs.Fitting.{deck_of}
use Rattle.lock_model.specs.declared.instance.Instance.{Instance}
use Rattle.lock_model.specs.declared.group.Group.{Group}
use Rattle.lock_model.specs.declared.plan.Plan.{Plan}
use Rattle.lock_rules.specs.Node.{line_at}
use Rattle.price_rules.specs.Prices.{PriceList}
use Rattle.refute_rules.specs.Cuts.{Cut}
use Rattle.book_rules.specs.declared.book.Entry.{Entry}
use Rattle.book_rules.specs.declared.book.ShownLow.{ShownLow}
use Rattle.book_rules.specs.declared.book.Entry.TheVariants as entry
use Rattle.book_rules.specs.Tests.{same_deck, has_clash}
use Rattle.book_rules.specs.Book.{Case, Book, slot_at, slot_low, best_cost, is_held, is_live, group_at, ships_at, no_group, opening_book}
use Rattle.book_rules.specs.Events.{Event, Reply, is_acceptance, take, split, close, post, post_prices, close_price, close_swept, show_low, park, replace, release}
use Rattle.book_rules.specs.Events.{NotHeld, OtherDeck, Clashes, Cheaper, Lower, NotShown, NotRoot, NotSwept}
use Rattle.closing_rules.specs.declared.grounds.Ground.{Ground}
use Rattle.closing_rules.specs.declared.grounds.Ground.TheVariants as by
use Rattle.book_rules.specs.Shown.{Shown, Swept}
use Rattle.book_rules.specs.Step
use Rattle.book_rules.specs.Replay.{own_shown, own_swept, closing_of, replay_from, is_post, is_replace, is_pricing}
pub use Rattle.book_rules.specs.Replay.{IsReplayed}
use Rattle.book_rules.proofs.TestLemmas.{same_deck-decides}
use Rattle.book_rules.proofs.ShownLemmas.{own-shown, own-swept}
use Rattle.book_rules.proofs.ClosingLemmas.{MayRefuse, may-refuse_price, may-refuse_sweep}
use Rattle.book_rules.proofs.StepLemmas.{entry_of, cuts_of, plans_of, prices_of, IsAccepted, Refused, Accepted, each-step}

-- an entry takes a cut, a plan or prices where its event has one
posts-one : (e : Event) → count_by is_post (entry_of e ∷ []) ≡ length (cuts_of e)
posts-one (take w) = refl
posts-one _ = refl

replaces-one : (e : Event) → count_by is_replace (entry_of e ∷ []) ≡ length (plans_of e)
replaces-one (take w) = refl
replaces-one _ = refl

pricings-one : (e : Event) → count_by is_pricing (entry_of e ∷ []) ≡ length (prices_of e)
pricings-one (take w) = refl
pricings-one _ = refl

-- the first entry takes one
first-taken : (test : Entry → Bool) (x : Entry) (es : List Entry) (n : ℕ) → test x ≡ true → count_by test (x ∷ es) ≡ n → suc (count_by test es) ≡ n
first-taken test x es n takes all = omega (arith, sum_by-cons (λ e. cond (test e) 1 0) x es, ap {B = ℕ} (λ t. cond t 1 0) takes, all)

-- one entry more, and what it takes
taken-more : {X : Type 0} (test : Entry → Bool) (es : List Entry) (x : Entry) (old new : List X) → count_by test (x ∷ []) ≡ length new → count_by test es ≡ length old → count_by test (es ++ x ∷ []) ≡ length (old ++ new)
taken-more test es x old new one before = omega (arith, sum_by-append (λ e. cond (test e) 1 0) es (x ∷ []), length-append old new, one, before)

module _ {Break : Type 0} (broken : Instance → Plan → Option Break) where
  abbrev after : Book → Event → Book
  after b e = (Step.step broken b e).0

  replay-append : (es : List Entry) (b : Book) (x : Entry) (cs ds : List Cut) (ps qs : List Plan) (us vs : List PriceList) → count_by is_post es ≡ length cs → count_by is_replace es ≡ length ps → count_by is_pricing es ≡ length us
      → replay_from broken b (es ++ x ∷ []) (cs ++ ds) (ps ++ qs) (us ++ vs) ≡ replay_from broken (replay_from broken b es cs ps us) (x ∷ []) ds qs vs
  replay-append [] b x [] ds [] qs [] vs e f g = refl
  replay-append [] b x [] ds [] qs (u ∷ us) vs e f g = absurd (omega (arith, g))
  replay-append [] b x [] ds (p ∷ ps) qs us vs e f g = absurd (omega (arith, f))
  replay-append [] b x (c ∷ cs) ds ps qs us vs e f g = absurd (omega (arith, e))
  replay-append (entry.Take w ∷ es) b x cs ds ps qs us vs e f g = replay-append es (after b (take w)) x cs ds ps qs us vs e f g
  replay-append (entry.Split id ∷ es) b x cs ds ps qs us vs e f g = replay-append es (after b (split id)) x cs ds ps qs us vs e f g
  replay-append (entry.Close id why ∷ es) b x cs ds ps qs us vs e f g = replay-append es (after b (closing_of b id why)) x cs ds ps qs us vs e f g
  replay-append (entry.ShowLow id low ∷ es) b x cs ds ps qs us vs e f g =
      replay-append es (after b (show_low id low.prices (own_shown b id low.prices low.cost))) x cs ds ps qs us vs e f g
  replay-append (entry.Post ∷ es) b x [] ds ps qs us vs e f g = absurd (omega (arith, first-taken is_post entry.Post es 0 refl e))
  replay-append (entry.Post ∷ es) b x (c ∷ cs) ds ps qs us vs e f g = replay-append es (after b (post c)) x cs ds ps qs us vs (omega (arith, first-taken is_post entry.Post es (suc (length cs)) refl e)) f g
  replay-append (entry.Prices ∷ es) b x cs ds ps qs [] vs e f g = absurd (omega (arith, first-taken is_pricing entry.Prices es 0 refl g))
  replay-append (entry.Prices ∷ es) b x cs ds ps qs (u ∷ us) vs e f g = replay-append es (after b (post_prices u)) x cs ds ps qs us vs e f (omega (arith, first-taken is_pricing entry.Prices es (suc (length us)) refl g))
  replay-append (entry.Park id c p ∷ es) b x cs ds ps qs us vs e f g =
      replay-append es (after b (park id c p (deck_of b.case.instance c (ships_at (slot_at b id).node c p)) b.case.turns)) x cs ds ps qs us vs e f g
  replay-append (entry.Replace ∷ es) b x cs ds [] qs us vs e f g = absurd (omega (arith, first-taken is_replace entry.Replace es 0 refl f))
  replay-append (entry.Replace ∷ es) b x cs ds (p ∷ ps) qs us vs e f g = replay-append es (after b (replace p)) x cs ds ps qs us vs e (omega (arith, first-taken is_replace entry.Replace es (suc (length ps)) refl f)) g
  replay-append (entry.Release w ∷ es) b x cs ds ps qs us vs e f g = replay-append es (after b (release w)) x cs ds ps qs us vs e f g

  -- ---- parking again with the group's own deck and the case's turns

  got : (gs : List Group) (p : ℕ) (g : Group) → slice_get gs p ≡ Some g → slice_index_or gs p no_group ≡ g
  got [] p g e = absurd (none-some g e)
  got (h ∷ gs) zero g e = same_Some h g e
  got (h ∷ gs) (suc p) g e = got gs p g e

  -- parking, where it is known whether the lent value is the group's, and whether the slot is held
  abbrev lent_way : Book → ℕ → ℕ → ℕ → Deck → Bool → Book × Reply Break
  lent_way b id c p deck t = cond (not t) (b, OtherDeck) (cond (has_clash deck.ships) (b, Clashes id) (Step.parked b id c p))

  abbrev held_way : Book → ℕ → Bool → Book × Reply Break → Book × Reply Break
  held_way b id t out = cond t (b, NotHeld id) out

  lent-again : (b : Book) (id c p : ℕ) (deck : Deck) (turns : ℕ) (g : Group) (t : Bool) → Step.is_lent b c g deck turns ≡ t
      → is_acceptance (lent_way b id c p deck t).1 ≡ true
      → (lent_way b id c p (deck_of b.case.instance c g.ships) (Step.is_lent b c g (deck_of b.case.instance c g.ships) b.case.turns)).0 ≡ (lent_way b id c p deck t).0
  lent-again b id c p deck turns g false e good = absurd (false≢true good)
  lent-again b id c p deck turns g true e good =
      let own = deck_of b.case.instance c g.ships in
      let same : own ≡ deck = (same_deck-decides own deck).0 ((and_parts (same_deck own deck) (nat_le b.case.turns turns) e).0) in
      let self : same_deck own own ≡ true = (same_deck-decides own own).1 refl in
      let enough : nat_le b.case.turns b.case.turns ≡ true = elim (leb_tells b.case.turns b.case.turns) [ inl y ↦ y.0 | inr n ↦ absurd (omega (arith, n.1)) ] in
      let lent : Step.is_lent b c g own b.case.turns ≡ true = ap (λ u. u && nat_le b.case.turns b.case.turns) self ∙ enough in
      ap (λ u. (lent_way b id c p own u).0) lent ∙ ap (λ u. (lent_way b id c p u true).0) same

  group-again : (b : Book) (id c p : ℕ) (deck : Deck) (turns : ℕ) (o : Option Group) → group_at (slot_at b id).node c p ≡ o
      → is_acceptance (Step.park_group {Break = Break} b id c p deck turns o).1 ≡ true
      → (Step.park_group {Break = Break} b id c p (deck_of b.case.instance c (ships_at (slot_at b id).node c p)) b.case.turns o).0 ≡ (Step.park_group {Break = Break} b id c p deck turns o).0
  group-again b id c p deck turns None e good = absurd (false≢true good)
  group-again b id c p deck turns (Some g) e good =
      let is : ships_at (slot_at b id).node c p ≡ g.ships = ap (λ (h : Group). h.ships) (got (line_at (slot_at b id).node.lines c) p g e) in
      ap (λ ships. (Step.park_group {Break = Break} b id c p (deck_of b.case.instance c ships) b.case.turns (Some g)).0) is
      ∙ lent-again b id c p deck turns g (Step.is_lent b c g deck turns) refl good

  held-again : (b : Book) (id : ℕ) (t : Bool) (out own : Book × Reply Break) → (is_acceptance out.1 ≡ true → own.0 ≡ out.0)
      → is_acceptance (held_way b id t out).1 ≡ true → (held_way b id t own).0 ≡ (held_way b id t out).0
  held-again b id true out own f good = refl
  held-again b id false out own f good = f good

  -- ---- closing again by prices or by a sweep, with what the book itself says

  -- what isn't refused closes the slot
  unrefused-closed : (b : Book) (id : ℕ) (why : Ground) (o : Option (Reply Break)) → MayRefuse o → is_acceptance (Step.close_unless b id why o).1 ≡ true → (Step.close_unless b id why o).0 ≡ Step.closed b id why
  unrefused-closed b id why (Some r) refuses good = absurd (false≢true (sym refuses ∙ good))
  unrefused-closed b id why None refuses good = refl

  -- a closing that was accepted, and another that isn't refused
  unrefused-again : (b : Book) (id : ℕ) (why : Ground) (o own : Option (Reply Break)) → own ≡ None → MayRefuse o
      → is_acceptance (Step.close_unless b id why o).1 ≡ true → (Step.close_unless b id why own).0 ≡ (Step.close_unless b id why o).0
  unrefused-again b id why o own unrefused refuses good =
      ap (λ o. (Step.close_unless {Break = Break} b id why o).0) unrefused ∙ sym (unrefused-closed b id why o refuses good)

  -- the best cost isn't cheaper than itself
  best-unrefused : (best : ℕ) → Step.cheaper_than {Break = Break} best best ≡ None
  best-unrefused best =
      let same : nat_lt best best ≡ false = elim (leb_tells (suc best) best) [ inl y ↦ absurd (omega (arith, y.1)) | inr n ↦ n.0 ] in
      ap (λ t. cond t (Some (Cheaper best best)) None) same

  -- the book's own closing isn't refused
  own-unrefused : (b : Book) (id number : ℕ) (prices : PriceList) → slice_get b.prices number ≡ Some prices → Step.price_refusal {Break = Break} b id number (own_shown b id number (best_cost b)) (Some prices) ≡ None
  own-unrefused b id number prices there =
      let best = best_cost b in
      ap (λ t. cond (not t) (Some NotShown) (Step.cheaper_than best best)) (own-shown b id number prices there best) ∙ best-unrefused best

  own_swept-unrefused : (b : Book) (number : ℕ) (prices : PriceList) → Step.sweep_by_prices {Break = Break} b number (own_swept b) (Some prices) ≡ None
  own_swept-unrefused b number prices =
      let best = best_cost b in
      ap (λ t. cond (not t) (Some NotSwept) (Step.cheaper_than best best)) (own-swept b) ∙ best-unrefused best

  prices-again : (b : Book) (id number : ℕ) (shown : Shown) (o : Option PriceList) → slice_get b.prices number ≡ o
      → is_acceptance (Step.close_unless {Break = Break} b id (by.Price number) (Step.price_refusal b id number shown o)).1 ≡ true
      → (Step.close_unless {Break = Break} b id (by.Price number) (Step.price_refusal b id number (own_shown b id number (best_cost b)) o)).0 ≡ (Step.close_unless {Break = Break} b id (by.Price number) (Step.price_refusal b id number shown o)).0
  prices-again b id number shown None there good = refl
  prices-again b id number shown (Some prices) there good =
      unrefused-again b id (by.Price number) (Step.price_refusal b id number shown (Some prices)) (Step.price_refusal b id number (own_shown b id number (best_cost b)) (Some prices))
      (own-unrefused b id number prices there) (may-refuse_price b id Break number shown (Some prices)) good

  -- where it is known whether the slot is the root
  abbrev root_way : Book → ℕ → Swept → Option PriceList → Bool → Option (Reply Break)
  root_way b number swept o t = cond (not t) (Some NotRoot) (Step.sweep_by_prices b number swept o)

  sweep-again : (b : Book) (id number : ℕ) (swept : Swept) (o : Option PriceList) (t : Bool) → MayRefuse (root_way b number swept o t)
      → is_acceptance (Step.close_unless {Break = Break} b id (by.Swept number) (root_way b number swept o t)).1 ≡ true
      → (Step.close_unless {Break = Break} b id (by.Swept number) (root_way b number (own_swept b) o t)).0 ≡ (Step.close_unless {Break = Break} b id (by.Swept number) (root_way b number swept o t)).0
  sweep-again b id number swept o false refuses good = refl
  sweep-again b id number swept None true refuses good = refl
  sweep-again b id number swept (Some prices) true refuses good =
      unrefused-again b id (by.Swept number) (Step.sweep_by_prices b number swept (Some prices)) (Step.sweep_by_prices b number (own_swept b) (Some prices))
      (own_swept-unrefused b number prices) refuses good

  -- a refusal is no acceptance, whether the slot is held or not
  unaccepted : (b : Book) (id : ℕ) (r : Reply Break) (t : Bool) → is_acceptance r ≡ false → is_acceptance (held_way b id t (b, r)).1 ≡ true → ⊥
  unaccepted b id r true refuses good = false≢true good
  unaccepted b id r false refuses good = false≢true (sym refuses ∙ good)

  closing-again : (b : Book) (id : ℕ) (why : Ground) → is_acceptance (Step.step broken b (close id why)).1 ≡ true → after b (closing_of b id why) ≡ after b (close id why)
  closing-again b id (by.Price number) good = absurd (unaccepted b id NotShown (not (Step.may_close b id)) refl good)
  closing-again b id (by.Swept number) good = absurd (unaccepted b id NotSwept (not (Step.may_close b id)) refl good)
  closing-again b id by.Bound good = refl
  closing-again b id by.Throughput good = refl
  closing-again b id (by.Probe s) good = refl
  closing-again b id (by.Cut number) good = refl

  -- ---- showing a cost again, with what the book itself says

  -- where it is known whether what was shown is of the slot
  abbrev shown_way : Book → ℕ → ShownLow → Bool → Book × Reply Break
  shown_way b id low t =
      let known = slot_low (slot_at b id) in
      Step.show_unless b id low (cond (not t) (Some NotShown) (cond (nat_le low.cost known) (Some (Lower low.cost known)) None))

  own-again : (b : Book) (id : ℕ) (low : ShownLow) (t : Bool) → is_acceptance (shown_way b id low t).1 ≡ true → (shown_way b id low true).0 ≡ (shown_way b id low t).0
  own-again b id low true good = refl
  own-again b id low false good = absurd (false≢true good)

  low-again : (b : Book) (id number : ℕ) (shown : Shown) (o : Option PriceList) → slice_get b.prices number ≡ o
      → is_acceptance (Step.show_unless {Break = Break} b id (record { prices = number; cost = shown.cost }) (Step.low_refusal b id number shown o)).1 ≡ true
      → (Step.show_unless {Break = Break} b id (record { prices = number; cost = shown.cost }) (Step.low_refusal b id number (own_shown b id number shown.cost) o)).0
      ≡ (Step.show_unless {Break = Break} b id (record { prices = number; cost = shown.cost }) (Step.low_refusal b id number shown o)).0
  low-again b id number shown None there good = refl
  low-again b id number shown (Some prices) there good =
      let low : ShownLow = record { prices = number; cost = shown.cost } in
      ap (λ t. (shown_way b id low t).0) (own-shown b id number prices there shown.cost) ∙ own-again b id low (Step.is_shown b id prices shown) good

  -- ---- every event again

  -- one accepted event, replayed by its entry
  replay-one : (b : Book) (e : Event) → is_acceptance (Step.step broken b e).1 ≡ true → replay_from broken b (entry_of e ∷ []) (cuts_of e) (plans_of e) (prices_of e) ≡ after b e
  replay-one b (take w) good = refl
  replay-one b (split id) good = refl
  replay-one b (close id why) good = closing-again b id why good
  replay-one b (post cut) good = refl
  replay-one b (post_prices prices) good = refl
  replay-one b (close_price id number shown) good =
      held-again b id (not (Step.may_close b id))
      (Step.close_unless b id (by.Price number) (Step.price_refusal b id number shown (slice_get b.prices number)))
      (Step.close_unless b id (by.Price number) (Step.price_refusal b id number (own_shown b id number (best_cost b)) (slice_get b.prices number)))
      (prices-again b id number shown (slice_get b.prices number) refl) good
  replay-one b (close_swept id number swept) good =
      let prices = slice_get b.prices number in
      held-again b id (not (Step.may_close b id))
      (Step.close_unless b id (by.Swept number) (Step.sweep_refusal b id number swept prices))
      (Step.close_unless b id (by.Swept number) (Step.sweep_refusal b id number (own_swept b) prices))
      (sweep-again b id number swept prices (nat_eq (slot_at b id).node.depth 0) (may-refuse_sweep b id Break number swept prices)) good
  replay-one b (show_low id number shown) good =
      let prices = slice_get b.prices number in
      let low : ShownLow = record { prices = number; cost = shown.cost } in
      held-again b id (not (is_live (slot_at b id).state))
      (Step.show_unless b id low (Step.low_refusal b id number shown prices))
      (Step.show_unless b id low (Step.low_refusal b id number (own_shown b id number shown.cost) prices))
      (low-again b id number shown prices refl) good
  replay-one b (park id c p deck turns) good =
      held-again b id (not (is_held (slot_at b id).state))
      (Step.park_group b id c p deck turns (group_at (slot_at b id).node c p))
      (Step.park_group b id c p (deck_of b.case.instance c (ships_at (slot_at b id).node c p)) b.case.turns (group_at (slot_at b id).node c p))
      (group-again b id c p deck turns (group_at (slot_at b id).node c p) refl) good
  replay-one b (replace plan) good = refl
  replay-one b (release w) good = refl

  -- ---- every list of events

  -- The opening book is replayed, and so is a replayed book after any event.
  pub opening-replayed : (case : Case) (plan : Plan) → IsReplayed broken (opening_book case plan)
  opening-replayed case plan = record { same = refl; posts = refl; replaces = refl; pricings = refl }

  accepted-replayed : (b : Book) (e : Event) → IsReplayed broken b → IsAccepted Break b e (Step.step broken b e) → IsReplayed broken (after b e)
  accepted-replayed b e old new = record {
    same =
        (λ i. replay_from broken (opening_book (new.case i) (new.opening i)) (new.history i) (new.cuts i) (new.plans i) (new.prices i))
        ∙ replay-append b.history (opening_book b.case b.opening) (entry_of e) b.cuts (cuts_of e) b.plans (plans_of e) b.prices (prices_of e) old.posts old.replaces old.pricings
        ∙ ap (λ u. replay_from broken u (entry_of e ∷ []) (cuts_of e) (plans_of e) (prices_of e)) old.same
        ∙ replay-one b e new.accepted;
    posts = ap (count_by is_post) new.history ∙ taken-more is_post b.history (entry_of e) b.cuts (cuts_of e) (posts-one e) old.posts ∙ sym (ap length new.cuts);
    replaces = ap (count_by is_replace) new.history ∙ taken-more is_replace b.history (entry_of e) b.plans (plans_of e) (replaces-one e) old.replaces ∙ sym (ap length new.plans);
    pricings = ap (count_by is_pricing) new.history ∙ taken-more is_pricing b.history (entry_of e) b.prices (prices_of e) (pricings-one e) old.pricings ∙ sym (ap length new.prices);
  }

  pub event-replayed : (b : Book) (e : Event) → IsReplayed broken b → IsReplayed broken (after b e)
  event-replayed b e old =
      elim (each-step broken b e) [
        | Refused r same ↦ subst (IsReplayed broken) (sym same) old
        | Accepted new ↦ accepted-replayed b e old new
      ]
