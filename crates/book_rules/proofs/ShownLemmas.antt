-- What was shown or swept beside a book holds in it, and a book shows itself what it was closed by.
use Rattle.std.proofs.Common.{◌≡◌, ℕ, zero, suc, ◌≤◌, List, [], ◌∷◌, map, All, Contains, refl, sym, subst, arith, true, ◌&&◌, Some, slice_get, slice_index_or, nat_eq}
use Rattle.std.proofs.lemmas.Option.{same_Some, none-some}
use Rattle.std.specs.Cmp.Lexicographic.{pointwise, bytes_decides}
use Rattle.std.proofs.lemmas.Bool.{and_parts, and_from, false≢true}
use Rattle.std.proofs.lemmas.Bool.Decides.{Decides-eqb}
use Rattle.std.proofs.lemmas.List.Elements.{All-cons, All-nil, All-weaker}
use Rattle.lock_model.specs.declared.instance.Instance.{Instance}
use Rattle.price_rules.specs.Prices.{PriceList, Reaches}
use Rattle.price_rules.proofs.ReachLemmas.{reached-stays}
use Rattle.sweep_rules.specs.Uncut.{IsSwept}
use Rattle.sweep_rules.proofs.SweptLemmas.{swept-stays}
use Rattle.refute_rules.specs.Cuts.{Cut}
use Rattle.closing_rules.specs.ListedPrices.{no_prices, same_prices, cut_in, IsPricedBy, IsSweptBy}
use Rattle.book_rules.specs.Book.{Book, slot_at, best_cost}
use Rattle.lock_rules.specs.Node.{Node}
use Rattle.book_rules.specs.Same.{same_instance, same_node}
use Rattle.book_rules.specs.Shown.{ChamberCut, Shown, shown_cuts, IsShown, Swept, IsSweptCost, chamber_cut, are_first_cuts}
use Rattle.book_rules.specs.States.{cuts_in}
use Rattle.book_rules.specs.Step.{is_shown, is_swept}
use Rattle.book_rules.specs.Replay.{own_shown, own_swept}
use Rattle.lock_model.proofs.SameLemmas.{instance_decides}
use Rattle.book_rules.proofs.SameLemmas.{same_prices-decides, same_node-decides}

-- ---- cuts

-- what holds of cuts with the first ones of a book holds with all of them
first-among : (I : Instance) (some : List ChamberCut) (cuts : List Cut) → are_first_cuts some cuts ≡ true → All (Contains (cuts_in I cuts)) (shown_cuts I some)
first-among I [] cuts e = All-nil (Contains (cuts_in I cuts))
first-among I (c ∷ cs) [] e = absurd (false≢true e)
first-among I (c ∷ cs) (d ∷ ds) e =
    let first = nat_eq c.chamber d.chamber && pointwise nat_eq c.ships d.ships in
    let parts = and_parts first (are_first_cuts cs ds) e in
    let same = and_parts (nat_eq c.chamber d.chamber) (pointwise nat_eq c.ships d.ships) parts.0 in
    let chamber : c.chamber ≡ d.chamber = (Decides-eqb c.chamber d.chamber).0 same.0 in
    let ships : c.ships ≡ d.ships = (bytes_decides c.ships d.ships).0 same.1 in
    All-cons (Contains (cuts_in I (d ∷ ds))) (cut_in I c.chamber c.ships) (shown_cuts I cs)
    (0, omega arith, sym (λ i. cut_in I (chamber i) (ships i)))
    (All-weaker (Contains (cuts_in I ds)) (Contains (cuts_in I (d ∷ ds))) (λ x h. (suc h.0, omega (arith, h.1), h.2)) (shown_cuts I cs) (first-among I cs ds parts.1))

-- a book's own cuts are its first ones
own-first : (cuts : List Cut) → are_first_cuts (map chamber_cut cuts) cuts ≡ true
own-first [] = refl
own-first (c ∷ cs) =
    and_from (nat_eq c.chamber c.chamber && pointwise nat_eq c.ships c.ships) (are_first_cuts (map chamber_cut cs) cs)
    (and_from (nat_eq c.chamber c.chamber) (pointwise nat_eq c.ships c.ships) ((Decides-eqb c.chamber c.chamber).1 refl) ((bytes_decides c.ships c.ships).1 refl))
    (own-first cs)

-- ---- what is shown

-- the same of an equal instance, node and prices
same-reached : (cuts : List ChamberCut) (cost : ℕ) (I J : Instance) (m n : Node) (u v : PriceList) → I ≡ J → m ≡ n → u ≡ v
    → Reaches I (shown_cuts I cuts) m.depth m.lines u cost → Reaches J (shown_cuts J cuts) n.depth n.lines v cost
same-reached cuts cost I J m n u v p q r h =
    subst (λ v. Reaches J (shown_cuts J cuts) n.depth n.lines v cost) r
    (subst (λ (n : Node). Reaches J (shown_cuts J cuts) n.depth n.lines u cost) q
    (subst (λ J. Reaches J (shown_cuts J cuts) m.depth m.lines u cost) p h))

module _ (b : Book) (id number : ℕ) (prices : PriceList) (there : slice_get b.prices number ≡ Some prices) where
  -- what is shown of slot id holds in the book, with all its cuts, of its cost and each lower one
  pub shown-holds : (shown : Shown) → IsShown shown → is_shown b id prices shown ≡ true → (cost : ℕ) → cost ≤ shown.cost
      → IsPricedBy b.case.instance (cuts_in b.case.instance b.cuts) b.prices number (slot_at b id).node.depth (slot_at b id).node.lines cost
  shown-holds shown reached e cost high =
      let I = b.case.instance in
      let node = (slot_at b id).node in
      let three = same_instance shown.instance I && same_node shown.node node && same_prices shown.prices prices in
      let parts = and_parts three (are_first_cuts shown.cuts b.cuts) e in
      let rest = and_parts (same_instance shown.instance I && same_node shown.node node) (same_prices shown.prices prices) parts.0 in
      let both = and_parts (same_instance shown.instance I) (same_node shown.node node) rest.0 in
      let moved = same-reached shown.cuts shown.cost shown.instance I shown.node node shown.prices prices
      ((instance_decides shown.instance I).0 both.0) ((same_node-decides shown.node node).0 both.1) ((same_prices-decides shown.prices prices).0 rest.1) reached in
      record {
        own = prices;
        there = there;
        reached = reached-stays I (shown_cuts I shown.cuts) (cuts_in I b.cuts) (first-among I shown.cuts b.cuts parts.1) node.depth node.lines prices shown.cost cost high moved;
      }

  -- what the book itself says of slot id and a cost is of that slot
  pub own-shown : (cost : ℕ) → is_shown b id prices (own_shown b id number cost) ≡ true
  own-shown cost =
      let I = b.case.instance in
      let node = (slot_at b id).node in
      let own : slice_index_or b.prices number no_prices ≡ prices = got b.prices number there in
      and_from (same_instance I I && same_node node node && same_prices (slice_index_or b.prices number no_prices) prices) (are_first_cuts (map chamber_cut b.cuts) b.cuts)
      (and_from (same_instance I I && same_node node node) (same_prices (slice_index_or b.prices number no_prices) prices)
      (and_from (same_instance I I) (same_node node node) ((instance_decides I I).1 refl) ((same_node-decides node node).1 refl))
      ((same_prices-decides (slice_index_or b.prices number no_prices) prices).1 own))
      (own-first b.cuts)
    where
      got : (xs : List PriceList) (k : ℕ) → slice_get xs k ≡ Some prices → slice_index_or xs k no_prices ≡ prices
      got [] k e = absurd (none-some prices e)
      got (x ∷ xs) zero e = same_Some x prices e
      got (x ∷ xs) (suc k) e = got xs k e

-- ---- what is swept

module _ (b : Book) where
  -- what is swept by first cuts of the book is swept by all of them, and so is its best cost
  swept-best : (swept : Swept) → IsSweptCost swept → is_swept b swept ≡ true → best_cost b ≤ swept.cost
      → IsSwept b.case.instance (cuts_in b.case.instance b.cuts) (best_cost b)
  swept-best swept holds e high =
      let I = b.case.instance in
      let both = and_parts (same_instance swept.instance I) (are_first_cuts swept.cuts b.cuts) e in
      let moved : IsSwept I (shown_cuts I swept.cuts) swept.cost =
      subst (λ J. IsSwept J (shown_cuts J swept.cuts) swept.cost) ((instance_decides swept.instance I).0 both.0) holds in
      swept-stays I (shown_cuts I swept.cuts) (cuts_in I b.cuts) (first-among I swept.cuts b.cuts both.1) swept.cost (best_cost b) high moved

  pub swept-held : (id number : ℕ) (prices : PriceList) → slice_get b.prices number ≡ Some prices → (slot_at b id).node.depth ≡ 0
      → (swept : Swept) → IsSweptCost swept → is_swept b swept ≡ true → best_cost b ≤ swept.cost
      → IsSweptBy b.case.instance (cuts_in b.case.instance b.cuts) b.prices number (slot_at b id).node.depth (best_cost b)
  swept-held id number prices there root swept holds e high =
      record { root = root; own = prices; there = there; swept = swept-best swept holds e high }

  -- what the book itself says is swept is of it
  pub own-swept : is_swept b (own_swept b) ≡ true
  own-swept =
      let I = b.case.instance in
      and_from (same_instance I I) (are_first_cuts (map chamber_cut b.cuts) b.cuts) ((instance_decides I I).1 refl) (own-first b.cuts)
