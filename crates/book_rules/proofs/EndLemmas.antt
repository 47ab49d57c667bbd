-- What a verdict of a book that ends well means.
use Rattle.std.proofs.Common.{◌≡◌, ℕ, zero, suc, ◌<◌, ◌≤◌, List, [], ◌∷◌, length, map, filter, ◌⊎◌, inl, inr, refl, sym, ap, ◌∙◌, subst, arith, Bool, true, false, cond, ◌||◌, Some, None, slice_index_or, min, All, true≢false}
use Rattle.std.proofs.lemmas.Bool.{or_from, or_right, or_parts}
use Rattle.std.specs.declared.option.Option.{Option}
use Rattle.std.specs.List.{list_any}
use Rattle.std.proofs.lemmas.Bool.Decides.{leb_tells}
use Rattle.std.proofs.lemmas.List.{get_or_default}
use Rattle.lock_model.specs.declared.instance.Instance.{Instance}
use Rattle.lock_model.specs.declared.plan.Plan.{Plan}
use Rattle.lock_model.specs.declared.verdict.Verdict.TheVariants as verdict
use Rattle.lock_rules.specs.Plan.{IsLegal, cost_of}
use Rattle.lock_rules.specs.Node.{Node as TreeNode, root_lines, line_at}
use Rattle.lock_rules.specs.Bound.{IsLowerBound, least_number}
use Rattle.list_laws.specs.Among.{IsAmong}
use Rattle.price_rules.specs.Prices.{CutHolds}
use Rattle.price_rules.proofs.ReachLemmas.{reached-stays}
use Rattle.book_rules.specs.declared.book.ShownLow.{ShownLow}
use Rattle.book_rules.specs.declared.book.SlotState.{SlotState}
use Rattle.book_rules.specs.declared.book.SlotState.TheVariants as slot
use Rattle.book_rules.specs.Book.{Slot, Book, no_slot, no_group, slot_at, bound_at, low_by, slot_low, best_cost, ships_at, is_fresh, is_back, is_held, is_parked, is_live, has_slot, first_slot}
use Rattle.book_rules.specs.Verdict.{low_of, parked_verdict, turns_verdict, verdict_of}
use Rattle.book_rules.specs.Cover.{IsGoodSlot, KeepsBook}
use Rattle.book_rules.specs.States.{cuts_in}
use Rattle.book_rules.specs.Lows.{IsReachedLow, HasTrueLow}
use Rattle.book_rules.specs.Cheap.{opening_cost}
use Rattle.book_rules.specs.Parts.{KeepsParts}
use Rattle.closing_rules.specs.Laws.{TreeLaws}
use Rattle.book_rules.specs.Ends.{HasNothingOpen, HasSpentNodes, EndsWell, IsShownAbove, IsOpenLow, IsOpenNodes, IsSpentIn, IsUnderSpent, IsOpenTurns, IsEnd}
use Rattle.book_rules.proofs.SlotLemmas.{first_slot-at, first_slot-none}
use Rattle.book_rules.proofs.CoverLemmas.{cuts-hold, nothing_live-cheapest}
use Rattle.book_rules.proofs.StateLemmas.{cuts-own, state-tells, fresh-low}
use Rattle.book_rules.proofs.CheapLemmas.{count-some, cheap-shares}
use Rattle.closing_rules.proofs.BelowLemmas.{HasBelow, least-below}
use Rattle.book_rules.proofs.GrowLemmas.{cheap-grows}

-- ---- states by their tests

parked-is : (s : SlotState) → is_parked s ≡ true → (c : ℕ) × (p : ℕ) × (s ≡ slot.Parked c p)
parked-is (slot.Parked c p) e = (c, p, refl)
parked-is _ e = absurd (true≢false (sym e))

-- ---- whether some slot passes a test

any-at : (p : Slot → Bool) (xs : List Slot) (id : ℕ) → id < length xs → p (slice_index_or xs id no_slot) ≡ true → list_any p xs ≡ true
any-at p [] id known e = absurd (omega (arith, known))
any-at p (x ∷ xs) zero known e = ap (λ t. t || list_any p xs) e
any-at p (x ∷ xs) (suc id) known e = or_right (p x) (list_any p xs) (any-at p xs id (omega (arith, known)) e)

any-none : (p : Slot → Bool) (xs : List Slot) → ((id : ℕ) → id < length xs → p (slice_index_or xs id no_slot) ≡ false) → list_any p xs ≡ false
any-none p [] h = refl
any-none p (x ∷ xs) h = or_from (p x) (list_any p xs) (h 0 (omega arith)) (any-none p xs (λ id known. h (suc id) (omega (arith, known))))

-- ---- the least that is known of the live slots

-- this is known of a live slot
record IsLiveLow (xs : List Slot) (low : ℕ) : Type 0 where
  id : ℕ
  known : id < length xs
  live : is_live (slice_index_or xs id no_slot).state ≡ true
  is : slot_low (slice_index_or xs id no_slot) ≡ low

abbrev live_lows : List Slot → List ℕ
live_lows xs = map slot_low (filter (λ (s : Slot). is_live s.state) xs)

-- the lows of a list whose first slot is live or isn't
abbrev lows_with : Bool → Slot → List Slot → List ℕ
lows_with t x xs = map slot_low (cond t (x ∷ filter (λ (s : Slot). is_live s.state) xs) (filter (λ (s : Slot). is_live s.state) xs))

low-below : (v : ℕ) (xs : List Slot) (id : ℕ) → id < length xs → is_live (slice_index_or xs id no_slot).state ≡ true → slot_low (slice_index_or xs id no_slot) ≤ v → HasBelow v (live_lows xs)
low-below v [] id known live low = absurd (omega (arith, known))
low-below v (x ∷ xs) zero known live low = subst (λ t. HasBelow v (lows_with t x xs)) (sym live) (inl low)
low-below v (x ∷ xs) (suc id) known live low = by_first (is_live x.state) (low-below v xs id (omega (arith, known)) live low)
  where
    by_first : (t : Bool) → HasBelow v (live_lows xs) → HasBelow v (lows_with t x xs)
    by_first true h = inr h
    by_first false h = h

among-live : (xs : List Slot) (n : ℕ) → IsAmong (live_lows xs) n → IsLiveLow xs n
among-live [] n h = absurd h
among-live (x ∷ xs) n h = by_first (λ g. among-live xs n g) (is_live x.state) refl h
  where
    later : IsLiveLow xs n → IsLiveLow (x ∷ xs) n
    later f = record { id = suc f.id; known = omega (arith, f.known); live = f.live; is = f.is }

    by_first : (IsAmong (live_lows xs) n → IsLiveLow xs n) → (t : Bool) → is_live x.state ≡ t → IsAmong (lows_with t x xs) n → IsLiveLow (x ∷ xs) n
    by_first rest true e (inl same) = record { id = 0; known = omega arith; live = e; is = same }
    by_first rest true e (inr g) = later (rest g)
    by_first rest false e g = later (rest g)

-- the least of some numbers is one of them
least-among : (v : ℕ) (xs : List ℕ) → HasBelow v xs → IsAmong xs (least_number xs)
least-among v [] h = absurd h
least-among v (x ∷ xs) h = some x xs
  where
    min-among : (a b : ℕ) (rest : List ℕ) → IsAmong rest b → IsAmong (a ∷ rest) (min a b)
    min-among a b rest h =
        elim (leb_tells a b) [
          | inl y ↦ inl (omega (arith, y.1))
          | inr n ↦ inr (subst (IsAmong rest) (omega (arith, n.1)) h)
        ]

    some : (x : ℕ) (xs : List ℕ) → IsAmong (x ∷ xs) (least_number (x ∷ xs))
    some x [] = inl refl
    some x (y ∷ ys) = min-among x (least_number (y ∷ ys)) (y ∷ ys) (some y ys)

-- a live state that is neither Back nor Held is Fresh or Parked
live-either : (s : SlotState) → is_live s ≡ true → is_back s ≡ false → is_held s ≡ false → (s ≡ slot.Fresh) ⊎ (is_parked s ≡ true)
live-either slot.Fresh live shut free = inl refl
live-either slot.Back live shut free = absurd (true≢false shut)
live-either (slot.Held w) live shut free = absurd (true≢false free)
live-either (slot.Parked c p) live shut free = inr refl
live-either (slot.Split first) live shut free = absurd (true≢false (sym live))
live-either (slot.Closed why) live shut free = absurd (true≢false (sym live))

module _ (b : Book) (laws : TreeLaws b.case.instance) (keeps : KeepsBook b) (parts : KeepsParts b) (limit : ℕ) (well : EndsWell limit b) where
  abbrev I : Instance
  I = b.case.instance

  best-low : best_cost b ≤ limit
  best-low = omega (arith, parts.cheap.best, well.opening)

  no-back : (id : ℕ) → id < length b.slots → is_back (slot_at b id).state ≡ false
  no-back id known = elim well.left [ inl shut ↦ (or_parts (is_fresh (slot_at b id).state) (is_back (slot_at b id).state) (shut.none id known)).1 | inr spent ↦ spent.back.none id known ]

  -- ---- the least that is known of what is left

  holds : All CutHolds (cuts_in I b.cuts)
  holds = cuts-hold b laws keeps

  -- no plan under a node costs less than its bound, or than what is shown of it
  known-holds : (node : TreeNode) (bound : ℕ) (o : Option ShownLow) → IsLowerBound I node.depth node.lines bound → IsReachedLow I b.cuts b.prices node o → IsLowerBound I node.depth node.lines (low_by bound o)
  known-holds node bound None low reached Q legal under = low Q legal under
  known-holds node bound (Some shown) low reached Q legal under =
      let shown_low = laws.price (cuts_in I b.cuts) node.depth node.lines reached.own shown.cost holds reached.reached Q legal under in
      omega (arith, low Q legal under, shown_low)

  slot-holds : (s : Slot) → IsGoodSlot I s → HasTrueLow I b.cuts b.prices s → IsLowerBound I s.node.depth s.node.lines (slot_low s)
  slot-holds s good reached =
      let low = subst (IsLowerBound I s.node.depth s.node.lines) (sym good.bound) (laws.bound s.node.depth s.node.lines good.node) in
      known-holds s.node s.bound s.shown low reached

  -- what is more than a node's bound and no more than is known of it is shown of it
  known-shown : (node : TreeNode) (low : ℕ) (o : Option ShownLow) → IsReachedLow I b.cuts b.prices node o → bound_at I node < low → low ≤ low_by (bound_at I node) o → IsShownAbove I node.depth node.lines low
  known-shown node low None reached above most = absurd (omega (arith, above, most))
  known-shown node low (Some shown) reached above most = record {
    above = above;
    prices = reached.own;
    cuts = cuts_in I b.cuts;
    hold = holds;
    reached = reached-stays I (cuts_in I b.cuts) (cuts_in I b.cuts) (cuts-own I b.cuts) node.depth node.lines reached.own shown.cost low (omega (arith, above, most)) reached.reached;
  }

  -- what is at least a good slot's bound, and no more than is known of it, is that bound or is shown of its node
  slot-known : (s : Slot) (low : ℕ) → IsGoodSlot I s → HasTrueLow I b.cuts b.prices s → s.bound ≤ low → low ≤ slot_low s → (low ≡ bound_at I s.node) ⊎ IsShownAbove I s.node.depth s.node.lines low
  slot-known s low good reached least most =
      elim (leb_tells low s.bound) [
        | inl y ↦ inl (omega (arith, y.1, least, good.bound))
        | inr n ↦
            inr (known-shown s.node low s.shown reached (omega (arith, n.1, good.bound)) (subst (λ bound. low ≤ low_by bound s.shown) good.bound most))
      ]

  -- each live slot is cheap
  live-cheap : (id : ℕ) → id < length b.slots → is_live (slot_at b id).state ≡ true → (slot_at b id).bound < best_cost b
  live-cheap id known live =
      elim (live-either (slot_at b id).state live (no-back id known) (well.free.none id known)) [
        | inl fresh ↦ fresh-low b id parts.states (record { known = known; is = fresh })
        | inr held ↦ let at = parked-is (slot_at b id).state held in well.parked.low id at.0 at.1 known at.2
      ]

  -- where a slot is live, the low is known of one, is below the best cost, and no legal plan costs less
  live-low : (id : ℕ) → id < length b.slots → is_live (slot_at b id).state ≡ true → IsOpenLow I b.best (low_of b)
  live-low id known live =
      let least = least_number (live_lows b.slots) in
      let found = among-live b.slots least (least-among (slot_low (slot_at b id)) (live_lows b.slots) (low-below (slot_low (slot_at b id)) b.slots id known live (omega arith))) in
      let s = slot_at b found.id in
      let good = keeps.slots found.id no_slot found.known in
      let cheap : s.bound < best_cost b = live-cheap found.id found.known found.live in
      let most : low_of b ≤ slot_low s = omega (arith, found.is) in
      record {
        depth = s.node.depth;
        lines = s.node.lines;
        node = good.node;
        known = slot-known s (low_of b) good (parts.lows.lows found.id no_slot found.known) (omega (arith, found.is, cheap, bound-known s.bound s.shown)) most;
        below = omega (arith, cheap);
        least = λ Q legal. elim (leb_tells (best_cost b) (cost_of I Q)) [
          | inl y ↦ omega (arith, y.1)
          | inr n ↦
              let c = keeps.covers.covered Q legal n.1 in
              let own = slot-holds (slot_at b c.id) (keeps.slots c.id no_slot c.known) (parts.lows.lows c.id no_slot c.known) Q legal c.under in
              let low = least-below (cost_of I Q) (live_lows b.slots) (low-below (cost_of I Q) b.slots c.id c.known c.live own) in
              omega (arith, low)
        ];
      }
    where
      bound-known : (bound : ℕ) (o : Option ShownLow) → bound ≤ low_by bound o
      bound-known bound None = omega arith
      bound-known bound (Some shown) = omega arith

  -- ---- by each end

  spent-end : HasSpentNodes b → IsEnd I b.case.nodes b.case.turns limit b.best (verdict_of b)
  spent-end spent =
      let some : has_slot b (λ state. is_fresh state || is_back state || is_held state) ≡ true = any-at (λ (s : Slot). is_fresh s.state || is_back s.state || is_held s.state) b.slots spent.id spent.known (ap (λ state. is_fresh state || is_back state || is_held state) spent.fresh) in
      let more = count-some is_fresh b.slots spent.id spent.known (ap is_fresh spent.fresh) in
      let open_nodes : IsOpenNodes I b.case.nodes limit b.best b.used (low_of b) = record {
        legal = keeps.covers.legal;
        cost = best-low;
        spent = spent.used;
        more = omega (arith, more, spent.used, parts.cheap.used, parts.cheap.all, cheap-shares I (opening_cost b) b.slots keeps.slots, cheap-grows I (opening_cost b) limit well.opening 0 root_lines);
        lower = live-low spent.id spent.known (ap is_live spent.fresh);
      } in
      subst (λ t. IsEnd I b.case.nodes b.case.turns limit b.best (cond t (verdict.OpenNodes b.used (low_of b)) (turns_verdict b (first_slot b is_parked)))) (sym some) open_nodes

  -- a parked slot's group
  parked-group : (id c p : ℕ) → id < length b.slots → (slot_at b id).state ≡ slot.Parked c p → IsSpentIn I b.case.turns (slot_at b id).node.lines c (ships_at (slot_at b id).node c p)
  parked-group id c p known is =
      let tells = state-tells b id (slot.Parked c p) parts.states (record { known = known; is = is }) in
      let line = line_at (slot_at b id).node.lines c in
      record {
        known = elim (leb_tells (length I.chambers) c) [
          | inl past ↦ absurd (omega (arith, tells.there, ap length ((keeps.slots id no_slot known).node.past c past.1)))
          | inr n ↦ n.1
        ];
        group = slice_index_or line p no_group;
        held = (p, tells.there, get_or_default line p (slice_index_or line p no_group) no_group tells.there);
        same = refl;
        spent = tells.spent;
        clear = tells.clear;
      }

  module _ (shut : HasNothingOpen b) where
    live-held : (id : ℕ) → id < length b.slots → is_live (slot_at b id).state ≡ true → is_parked (slot_at b id).state ≡ true
    live-held id known live =
        let parts = or_parts (is_fresh (slot_at b id).state) (is_back (slot_at b id).state) (shut.none id known) in
        elim (live-either (slot_at b id).state live parts.1 (well.free.none id known)) [
          | inl fresh ↦ absurd (true≢false (sym (ap is_fresh fresh) ∙ parts.0))
          | inr held ↦ held
        ]

    -- each cheaper plan lies under a parked slot
    cheaper-spent : (Q : Plan) → IsLegal I Q → cost_of I Q < best_cost b → IsUnderSpent I b.case.turns Q
    cheaper-spent Q legal cheaper =
        let c = keeps.covers.covered Q legal cheaper in
        let at = parked-is (slot_at b c.id).state (live-held c.id c.known c.live) in
        record {
          depth = (slot_at b c.id).node.depth;
          lines = (slot_at b c.id).node.lines;
          node = (keeps.slots c.id no_slot c.known).node;
          under = c.under;
          chamber = at.0;
          ships = ships_at (slot_at b c.id).node at.0 at.1;
          group = parked-group c.id at.0 at.1 c.known at.2;
        }

    parked-turns : (id c p : ℕ) → id < length b.slots → (slot_at b id).state ≡ slot.Parked c p → IsOpenTurns I b.case.turns limit b.best c (ships_at (slot_at b id).node c p) b.case.turns (low_of b)
    parked-turns id c p known is =
        let good = keeps.slots id no_slot known in
        record {
          legal = keeps.covers.legal;
          cost = best-low;
          same = refl;
          named = record {
            depth = (slot_at b id).node.depth;
            lines = (slot_at b id).node.lines;
            node = good.node;
            below = omega (arith, good.bound, well.parked.low id c p known is);
            group = parked-group id c p known is;
          };
          cheaper = cheaper-spent;
          lower = live-low id known (ap is_live is);
        }

    turns-end : (o : Option ℕ) → first_slot b is_parked ≡ o → IsEnd I b.case.nodes b.case.turns limit b.best (turns_verdict b o)
    turns-end None none = record { cheapest = nothing_live-cheapest b keeps (λ id known. dead id known (is_live (slot_at b id).state) refl); cost = best-low }
      where
        dead : (id : ℕ) → id < length b.slots → (t : Bool) → is_live (slot_at b id).state ≡ t → is_live (slot_at b id).state ≡ false
        dead id known false e = e
        dead id known true e = absurd (true≢false (sym (live-held id known e) ∙ first_slot-none b is_parked none id known))
    turns-end (Some id) some =
        let found = first_slot-at b is_parked id some in
        let at = parked-is (slot_at b id).state found.1 in
        subst (λ state. IsEnd I b.case.nodes b.case.turns limit b.best (parked_verdict b (slot_at b id).node state)) (sym at.2) (parked-turns id at.0 at.1 found.0 at.2)

    shut-end : IsEnd I b.case.nodes b.case.turns limit b.best (verdict_of b)
    shut-end =
        let none : has_slot b (λ state. is_fresh state || is_back state || is_held state) ≡ false = any-none (λ (s : Slot). is_fresh s.state || is_back s.state || is_held s.state) b.slots (λ id known. all_three (is_fresh (slot_at b id).state) (is_back (slot_at b id).state) (is_held (slot_at b id).state) (shut.none id known) (well.free.none id known)) in
        subst (λ t. IsEnd I b.case.nodes b.case.turns limit b.best (cond t (verdict.OpenNodes b.used (low_of b)) (turns_verdict b (first_slot b is_parked)))) (sym none) (turns-end (first_slot b is_parked) refl)
      where
        all_three : (r s t : Bool) → (r || s) ≡ false → t ≡ false → (r || s || t) ≡ false
        all_three true s t e f = absurd (true≢false e)
        all_three false true t e f = absurd (true≢false e)
        all_three false false t e f = f

  -- WHAT A VERDICT MEANS, of a book that ends well.
  pub ends : IsEnd I b.case.nodes b.case.turns limit b.best (verdict_of b)
  ends = elim well.left [ inl shut ↦ shut-end shut | inr spent ↦ spent-end spent ]
