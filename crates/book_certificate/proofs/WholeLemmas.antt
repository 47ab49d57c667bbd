-- The certificate of a book stands, is well formed, and shows what the verdict says; it is accepted where no slot is live.
use Rattle.std.proofs.Common.{◌≡◌, ℕ, ◌^◌, ◌<◌, ◌≤◌, List, [], ◌∷◌, length, map, refl, sym, ap, ◌∙◌, subst, arith, All, slice_index_or, append-nil, nat_lt, inl, inr, Some, None, false, true≢false}
use Rattle.std.specs.declared.option.Option.{Option}
use Rattle.std.proofs.lemmas.List.{length-map}
use Rattle.std.proofs.lemmas.Option.{slice_get_within}
use Rattle.std.proofs.lemmas.List.Elements.{All-map, All-weaker}
use Rattle.list_laws.proofs.Counts.{one-at_most}
use Rattle.list_laws.specs.Among.{IsAmong}
use Rattle.lock_model.specs.declared.instance.Instance.{Instance}
use Rattle.lock_model.specs.declared.plan.Plan.{Plan}
use Rattle.lock_rules.specs.Plan.{IsLegal, cost_of}
use Rattle.lock_model.specs.declared.group.Group.{Group}
use Rattle.price_rules.specs.Prices.{PriceList}
use Rattle.book_rules.specs.declared.book.ShownLow.{ShownLow}
use Rattle.book_rules.specs.declared.book.SlotState.{SlotState}
use Rattle.book_rules.specs.declared.book.SlotState.TheVariants as slot
use Rattle.certificate_rules.specs.declared.certificate.Mark.{Mark}
use Rattle.book_rules.specs.Book.{Slot, Book, no_slot, slot_at, best_cost, is_fresh, is_live}
use Rattle.lock_rules.specs.Node.{Node, root}
use Rattle.book_rules.specs.Verdict.{verdict_of}
use Rattle.book_rules.specs.Cover.{KeepsBook}
use Rattle.book_rules.specs.Parts.{KeepsParts}
use Rattle.book_rules.specs.Lows.{IsReachedLow}
use Rattle.book_rules.specs.Cheap.{count_cheap, opening_cost}
use Rattle.closing_rules.specs.ProvedCuts.{CertCut, IsProved}
use Rattle.closing_rules.specs.ListedPrices.{ArePrices, AreShapedPrices}
use Rattle.certificate_rules.specs.Certificates.{Certificate, EndsNode, IsMarkTree, Stands, IsNoOpenLeaf, HasNoOpenLeaf, Accepts}
use Rattle.certificate_rules.specs.Low.{EndsShowing}
use Rattle.lock_model.specs.Fleet.{most_lockages}
use Rattle.certificate_rules.specs.WellFormed.{numbering_of, IsFormedCut, AreFormedPrices, IsFormedMark, IsWellFormed}
use Rattle.book_rules.proofs.CheapLemmas.{count-some}
use Rattle.book_certificate.specs.Certified.{cert_cut}
use Rattle.book_certificate.proofs.FormedLemmas.{own-formed, own-proved, legal-formed, plan-listed, prices-formed, ground-formed, less-trans}
use Rattle.book_certificate.specs.Preorder.{open_mark, mark_of, mark_at, slots_in_order}
use Rattle.book_certificate.specs.Certified.{IsCertificateOf, certified_low, ProvesVerdict, HasMoreMarks, HasNoLive}
use Rattle.book_certificate.proofs.ListLemmas.{all-among}
use Rattle.book_certificate.proofs.PreorderLemmas.{visited-known, as-many, root-depth}
use Rattle.book_certificate.proofs.TreeLemmas.{marks_with, EndSlots, slot-tree}
use Rattle.book_certificate.proofs.ClosingLemmas.{slots-end}
use Rattle.book_certificate.proofs.LowLemmas.{most-low, verdict-shown}

cheap-few : (c : ℕ) (xs : List Slot) → count_cheap c xs ≤ length xs
cheap-few c [] = omega arith
cheap-few c (x ∷ xs) =
    let own = one-at_most (nat_lt x.bound c) in
    let rest = cheap-few c xs in
    omega (arith, own, rest)

module _ (b : Book) (keeps : KeepsBook b) (parts : KeepsParts b) (C : Certificate) (is : IsCertificateOf b C) where
  abbrev I : Instance
  I = b.case.instance

  abbrev slots : List ℕ
  slots = slots_in_order b

  whole : C.tree ≡ marks_with b slots []
  whole = is.marks ∙ sym (append-nil (map (mark_at b) slots))

  at-root : (P : Node → Type 0) → P (slot_at b 0).node → P root
  at-root P h = subst P parts.family.root_is h

  -- one tree, in whatever way the marks end their nodes
  tree : (Ends : ℕ → List (List Group) → Mark → Type 0) → EndSlots b Ends → IsMarkTree I Ends (length I.ships) 0 root.lines C.tree []
  tree Ends ends =
      subst (λ ms. IsMarkTree I Ends (length I.ships) 0 root.lines ms []) (sym whole)
      (at-root (λ n. IsMarkTree I Ends (length I.ships) n.depth n.lines (marks_with b slots []) [])
      (slot-tree b parts.family Ends ends (length I.ships) 0 (root-depth b parts.family) parts.family.some []))

  -- the same by the cost, the cuts and the prices of the certificate
  own-tree : (Ends : ℕ → List CertCut → List PriceList → ℕ → List (List Group) → Mark → Type 0) → EndSlots b (Ends (best_cost b) (map cert_cut b.cuts) b.prices) → IsMarkTree I (Ends C.cost C.cuts C.prices) (length I.ships) 0 root.lines C.tree []
  own-tree Ends ends =
      subst (λ prices. IsMarkTree I (Ends C.cost C.cuts prices) (length I.ships) 0 root.lines C.tree []) (sym is.prices)
      (subst (λ cuts. IsMarkTree I (Ends C.cost cuts b.prices) (length I.ships) 0 root.lines C.tree []) (sym is.cuts)
      (subst (λ cost. IsMarkTree I (Ends cost (map cert_cut b.cuts) b.prices) (length I.ships) 0 root.lines C.tree []) (sym is.cost)
      (tree (Ends (best_cost b) (map cert_cut b.cuts) b.prices) ends)))

  pub is-standing : Stands I C
  is-standing = record {
    legal = subst (IsLegal I) (sym is.plan) keeps.covers.legal;
    cost = ap (λ (P : Plan). cost_of I P) is.plan ∙ sym is.cost;
    cuts = subst (All (IsProved I)) (sym is.cuts) (All-map (IsProved I) cert_cut b.cuts (λ k d known. let own = keeps.cuts k d known in own-proved I (slice_index_or b.cuts k d) own.0 own.1));
    prices = subst (All (AreShapedPrices I)) (sym is.prices) (All-weaker (λ u. ArePrices u × AreShapedPrices I u) (AreShapedPrices I) (λ u own. own.1) b.prices keeps.prices);
    tree = own-tree (EndsNode I) (slots-end b keeps parts.states parts.lows);
  }

  pub shows-verdict : ProvesVerdict b C
  shows-verdict =
      let low = certified_low (best_cost b) (verdict_of b) in
      record {
        most = subst (λ cost. low ≤ cost) (sym is.cost) (most-low (best_cost b) (verdict_of b));
        shown = own-tree (λ cost cuts prices. EndsShowing I cost cuts prices low) (verdict-shown b keeps parts.states parts.lows);
      }

  -- ---- how many marks there are

  long : length C.tree ≡ length slots
  long = ap length is.marks ∙ length-map slots (mark_at b)

  pub many-marks : length b.slots ≤ length C.tree
  many-marks = let most = as-many b parts.family in omega (arith, most, long)

  pub more-marks : HasMoreMarks b C
  more-marks = record {
    more = λ id known fresh.
        let some = count-some is_fresh b.slots id known (ap is_fresh fresh) in
        let used = parts.cheap.used in
        let few = cheap-few (opening_cost b) b.slots in
        omega (arith, some, used, few, many-marks);
  }

  -- ---- where no slot is live

  shut-mark : (shown : Option ShownLow) (s : SlotState) → is_live s ≡ false → IsNoOpenLeaf (mark_of shown s)
  shut-mark shown (slot.Split first) e = tt
  shut-mark shown (slot.Closed why) e = tt
  shut-mark shown slot.Fresh e = absurd (true≢false e)
  shut-mark shown slot.Back e = absurd (true≢false e)
  shut-mark shown (slot.Held w) e = absurd (true≢false e)
  shut-mark shown (slot.Parked c p) e = absurd (true≢false e)

  shut-marks : HasNoLive b → (ids : List ℕ) → ((id : ℕ) → IsAmong ids id → id < length b.slots) → HasNoOpenLeaf (map (mark_at b) ids)
  shut-marks shut [] known = tt
  shut-marks shut (id ∷ ids) known = (shut-mark (slot_at b id).shown (slot_at b id).state (shut.none id (known id (inl refl))), shut-marks shut ids (λ k h. known k (inr h)))

  pub is-accepted : HasNoLive b → Accepts I C
  is-accepted shut = record {
    stands = is-standing;
    whole = subst HasNoOpenLeaf (sym is.marks) (shut-marks shut slots (λ id h. visited-known b parts.family (length I.ships) 0 parts.family.some id h));
  }

  -- ---- its form

  module _ (few_prices : length b.prices < 2 ^ 63) (few : length b.cuts < 2 ^ 63) where
    abbrev IsFormed : Mark → Type 0
    IsFormed m = IsFormedMark (numbering_of I.ships) m

    mark-formed : (id : ℕ) → id < length b.slots → IsFormed (mark_at b id)
    mark-formed id known = go (slot_at b id).state refl
      where
        told : (s : SlotState) → (slot_at b id).state ≡ s → IsFormed (mark_of (slot_at b id).shown s) → IsFormed (mark_at b id)
        told s is = subst IsFormed (sym (ap (mark_of (slot_at b id).shown) is))

        opened : (shown : Option ShownLow) → IsReachedLow I b.cuts b.prices (slot_at b id).node shown → IsFormed (open_mark shown)
        opened None h = tt
        opened (Some low) h = less-trans low.prices (length b.prices) (2 ^ 63) (slice_get_within b.prices low.prices h.own h.there) few_prices

        own : IsFormed (open_mark (slot_at b id).shown)
        own = opened (slot_at b id).shown (parts.lows.lows id no_slot known)

        go : (s : SlotState) → (slot_at b id).state ≡ s → IsFormed (mark_at b id)
        go (slot.Split first) is = told (slot.Split first) is tt
        go (slot.Closed why) is = told (slot.Closed why) is (ground-formed b parts.states few_prices few id known why is)
        go slot.Fresh is = told slot.Fresh is own
        go slot.Back is = told slot.Back is own
        go (slot.Held w) is = told (slot.Held w) is own
        go (slot.Parked c p) is = told (slot.Parked c p) is own

    pub is-formed : IsWellFormed I C
    is-formed = record {
      few = plan-listed I C.plan is-standing.legal;
      cuts = subst (All IsFormedCut) (sym is.cuts) (All-map IsFormedCut cert_cut b.cuts (λ k d known. own-formed (slice_index_or b.cuts k d) (keeps.cuts k d known).0));
      prices =
          subst (All (AreFormedPrices (most_lockages I.ships))) (sym is.prices)
          (All-weaker (λ u. ArePrices u × AreShapedPrices I u) (AreFormedPrices (most_lockages I.ships)) (λ u own. prices-formed I u own.0 own.1) b.prices keeps.prices);
      lockages = λ k d known. legal-formed I (slice_index_or C.plan.lockages k d) (is-standing.legal.lockage k d known);
      marks = subst (All IsFormed) (sym is.marks) (All-map IsFormed (mark_at b) slots (all-among (λ id. IsFormed (mark_at b id)) slots (λ id h. mark-formed id (visited-known b parts.family (length I.ships) 0 parts.family.some id h))));
    }
