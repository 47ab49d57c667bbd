-- The mark of a slot that isn't split ends its node.
use Rattle.std.proofs.Common.{◌≡◌, ℕ, ◌<◌, ◌≤◌, List, [], ◌∷◌, length, map, refl, sym, ap, ◌∙◌, subst, slice_index_or, Some, None}
use Rattle.std.specs.declared.option.Option.{Option}
use Rattle.std.proofs.lemmas.List.{length-map, get_or-map}
use Rattle.std.proofs.lemmas.Option.{slice_get_within, get_or_from_slice_get}
use Rattle.lock_model.specs.Fitting.{deck_of}
use Rattle.lock_model.specs.Deck.{Deck}
use Rattle.lock_model.specs.declared.instance.Instance.{Instance}
use Rattle.lock_model.specs.declared.group.Group.{Group}
use Rattle.lock_rules.specs.Cut.{HitsNode}
use Rattle.lock_rules.specs.Node.{Node}
use Rattle.refute_rules.specs.Cuts.{Cut}
use Rattle.price_rules.specs.Prices.{Reaches}
use Rattle.sweep_rules.specs.Uncut.{IsSwept}
use Rattle.closing_rules.specs.ListedPrices.{cut_in}
use Rattle.closing_rules.specs.declared.grounds.Ground.{Ground}
use Rattle.closing_rules.specs.declared.grounds.Ground.TheVariants as by
use Rattle.book_rules.specs.declared.book.ShownLow.{ShownLow}
use Rattle.book_rules.specs.declared.book.SlotState.{SlotState}
use Rattle.book_rules.specs.declared.book.SlotState.TheVariants as slot
use Rattle.certificate_rules.specs.declared.certificate.Mark.{Mark}
use Rattle.certificate_rules.specs.declared.certificate.Mark.TheVariants as mark
use Rattle.book_rules.specs.Book.{Book, slot_at, no_slot, best_cost}
use Rattle.book_rules.specs.Cover.{KeepsBook}
use Rattle.book_rules.specs.States as book_states
use Rattle.book_rules.specs.States.{KeepsStates, IsHitBy}
use Rattle.book_rules.specs.Lows.{IsReachedLow, KeepsLows}
use Rattle.certificate_rules.specs.Certificates.{cuts_in, IsCutBy, EndsNode}
use Rattle.book_rules.proofs.MoveLemmas.{TellsAt}
use Rattle.book_rules.proofs.StateLemmas.{state-tells}
use Rattle.book_certificate.specs.Certified.{cert_cut}
use Rattle.book_certificate.specs.Preorder.{open_mark, mark_of, mark_at}
use Rattle.book_certificate.proofs.TreeLemmas.{EndSlots}

-- a book's cuts and those of its certificate are the same to prices
pub same-cuts : (I : Instance) (cuts : List Cut) → book_states.cuts_in I cuts ≡ cuts_in I (map cert_cut cuts)
same-cuts I [] = refl
same-cuts I (c ∷ cs) = ap (λ rest. cut_in I c.chamber c.ships ∷ rest) (same-cuts I cs)

module _ (b : Book) (keeps : KeepsBook b) (states : KeepsStates b) (lows : KeepsLows b) where
  abbrev I : Instance
  I = b.case.instance

  abbrev pub Ends : ℕ → List (List Group) → Mark → Type 0
  Ends = EndsNode I (best_cost b) (map cert_cut b.cuts) b.prices

  -- the cut that closes a slot, in the certificate
  hit-cut : (number : ℕ) (lines : List (List Group)) → IsHitBy I b.cuts number lines → IsCutBy I (map cert_cut b.cuts) number lines
  hit-cut number lines h =
      let known : number < length b.cuts = slice_get_within b.cuts number h.cut h.there in
      let is : slice_index_or b.cuts number h.cut ≡ h.cut = get_or_from_slice_get b.cuts number h.cut h.cut h.there in
      let own = (keeps.cuts number h.cut known).1 in
      let deck : h.cut.deck ≡ deck_of I h.cut.chamber h.cut.ships = subst (λ (c : Cut). c.deck ≡ deck_of I c.chamber c.ships) is own.deck in
      record {
        cut = cert_cut h.cut;
        known = subst (λ n. number < n) (sym (length-map b.cuts cert_cut)) known;
        is = get_or-map cert_cut b.cuts number h.cut (cert_cut h.cut) known ∙ ap cert_cut is;
        hits = subst (λ (d : Deck). HitsNode h.cut.ships d I lines) deck h.hits;
      }

  -- the mark of a closed slot ends its node
  ground-closes : (id : ℕ) → id < length b.slots → (why : Ground) → (slot_at b id).state ≡ slot.Closed why → Ends (slot_at b id).node.depth (slot_at b id).node.lines (mark.Leaf why)
  ground-closes id known why is = by_ground why (state-tells b id (slot.Closed why) states (record { known = known; is = is }))
    where
      node : Node
      node = (slot_at b id).node

      by_ground : (why : Ground) → TellsAt b id (slot.Closed why) → Ends node.depth node.lines (mark.Leaf why)
      by_ground by.Bound h = subst (λ n. best_cost b ≤ n) (keeps.slots id no_slot known).bound h
      by_ground by.Throughput h = h
      by_ground (by.Probe s) h = h
      by_ground (by.Cut number) h = hit-cut number node.lines h
      by_ground (by.Price number) h =
          record { own = h.own; there = h.there; reached = subst (λ cuts. Reaches I cuts node.depth node.lines h.own (best_cost b)) (same-cuts I b.cuts) h.reached }
      by_ground (by.Swept number) h =
          record { root = h.root; own = h.own; there = h.there; swept = subst (λ cuts. IsSwept I cuts (best_cost b)) (same-cuts I b.cuts) h.swept }

  -- an open leaf ends each node: the prices by which a cost was shown are there
  open-ends : (k : ℕ) (lines : List (List Group)) (node : Node) (shown : Option ShownLow) → IsReachedLow I b.cuts b.prices node shown → Ends k lines (open_mark shown)
  open-ends k lines node None h = tt
  open-ends k lines node (Some low) h = slice_get_within b.prices low.prices h.own h.there

  pub slots-end : EndSlots b Ends
  slots-end = record { slot = λ id known whole. go id known whole (slot_at b id).state refl }
    where
      EndsSlot : ℕ → Mark → Type 0
      EndsSlot id = Ends (slot_at b id).node.depth (slot_at b id).node.lines

      told : (id : ℕ) (s : SlotState) → (slot_at b id).state ≡ s → EndsSlot id (mark_of (slot_at b id).shown s) → EndsSlot id (mark_at b id)
      told id s is = subst (EndsSlot id) (sym (ap (mark_of (slot_at b id).shown) is))

      opened : (id : ℕ) → id < length b.slots → EndsSlot id (open_mark (slot_at b id).shown)
      opened id known = open-ends (slot_at b id).node.depth (slot_at b id).node.lines (slot_at b id).node (slot_at b id).shown (lows.lows id no_slot known)

      go : (id : ℕ) → id < length b.slots → (mark_at b id ≡ mark.Split → ⊥) → (s : SlotState) → (slot_at b id).state ≡ s → EndsSlot id (mark_at b id)
      go id known whole (slot.Split first) is = absurd (whole (ap (mark_of (slot_at b id).shown) is))
      go id known whole (slot.Closed why) is = told id (slot.Closed why) is (ground-closes id known why is)
      go id known whole slot.Fresh is = told id slot.Fresh is (opened id known)
      go id known whole slot.Back is = told id slot.Back is (opened id known)
      go id known whole (slot.Held w) is = told id (slot.Held w) is (opened id known)
      go id known whole (slot.Parked c p) is = told id (slot.Parked c p) is (opened id known)
