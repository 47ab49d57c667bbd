-- The tests of the book machine decide what they are for.
use Rattle.std.proofs.Common.{◌≡◌, ℕ, zero, suc, ◌+◌, ◌<◌, ◌≤◌, List, [], ◌∷◌, length, map, drop, Bool, true, false, not, inl, inr, refl, sym, ap, ◌∙◌, subst, arith, nat_eq, nat_lt, nat_le, Contains, slice_index_or}
use Rattle.std.proofs.lemmas.Bool.{false≢true, or_parts}
use Rattle.std.specs.Bool.{Decides}
use Rattle.std.specs.List.{list_any, list_all}
use Rattle.std.proofs.lemmas.Bool.Decides.{Decides-eqb, Decides-ltb, leb_tells, Decides-and, Decides-like, Decides-not, Decides-by_and}
use Rattle.std.proofs.lemmas.List.Folds.{Any-from_list_any, list_any_at}
use Rattle.lock_model.specs.Deck.{Deck, no_size}
use Rattle.lock_model.specs.Fleet.{ship_at, chamber_at}
use Rattle.lock_model.specs.Fitting.{size_of, deck_of, IsNoRoomier}
use Rattle.lock_model.specs.Cargo.{Clash, HasNoClash}
use Rattle.lock_model.specs.declared.deck.Size.{Size}
use Rattle.lock_model.specs.declared.chamber.Chamber.{Chamber}
use Rattle.lock_model.specs.declared.instance.Instance.{Instance}
use Rattle.lock_model.specs.declared.group.Group.{Group}
use Rattle.lock_rules.specs.Arrival.{numbers_from}
use Rattle.lock_rules.specs.Node.{line_at}
use Rattle.lock_rules.specs.Trace.{has_number}
use Rattle.lock_rules.specs.Cut.{Hits, HitsNode}
use Rattle.lock_rules.proofs.LineLemmas.{length-numbers, numbers-at}
use Rattle.price_rules.specs.Prices.{PriceList}
use Rattle.price_rules.specs.declared.triple.Triple.{Triple}
use Rattle.closing_rules.specs.ListedPrices.{AreShapedPrices}
use Rattle.refute_rules.specs.Cuts.{Cut}
use Rattle.book_rules.specs.Cover.{IsOwnCut}
use Rattle.book_rules.specs.Tests.{same_size, same_sizes, same_deck, is_clash, has_clash, is_no_roomier, is_hit, is_node_hit, is_own_cut, has_shape}

Decides-leb : (a b : ℕ) → Decides (nat_le a b) (a ≤ b)
Decides-leb a b = elim (leb_tells a b) [ inl y ↦ (λ e. y.1, λ h. y.0) | inr n ↦ (λ e. absurd (false≢true (sym n.0 ∙ e)), λ h. absurd (omega (arith, h, n.1))) ]

pub same_size-decides : (a b : Size) → Decides (same_size a b) (a ≡ b)
same_size-decides a b =
    Decides-like (same_size a b) (λ h i. record { length = h.0.0 i; width = h.0.1 i; cargo = h.1 i }) (λ e. ((ap (λ s. s.length) e, ap (λ s. s.width) e), ap (λ s. s.cargo) e))
    (Decides-and _ (nat_eq a.cargo b.cargo) (Decides-and (nat_eq a.length b.length) (nat_eq a.width b.width) (Decides-eqb a.length b.length) (Decides-eqb a.width b.width)) (Decides-eqb a.cargo b.cargo))

pub not-below : (a b : ℕ) → nat_lt a b ≡ false → b ≤ a
not-below a b e = elim (leb_tells (suc a) b) [ inl y ↦ absurd (false≢true (sym e ∙ y.0)) | inr n ↦ omega (arith, n.1) ]

pub same_sizes-decides : (xs ys : List Size) → Decides (same_sizes xs ys) (xs ≡ ys)
same_sizes-decides [] [] = (λ e. refl, λ e. refl)
same_sizes-decides [] (y ∷ ys) = (λ e. absurd (false≢true e), λ e. absurd (nil-cons e))
  where
    nil-cons : [] ≡ y ∷ ys → ⊥
    nil-cons e = cc
same_sizes-decides (x ∷ xs) [] = (λ e. absurd (false≢true e), λ e. absurd (cons-nil e))
  where
    cons-nil : x ∷ xs ≡ [] → ⊥
    cons-nil e = cc
same_sizes-decides (x ∷ xs) (y ∷ ys) =
    Decides-like (same_sizes (x ∷ xs) (y ∷ ys)) (λ h i. h.0 i ∷ h.1 i) (λ e. (ap (λ l. slice_index_or l 0 x) e, ap (drop 1) e))
    (Decides-and (same_size x y) (same_sizes xs ys) (same_size-decides x y) (same_sizes-decides xs ys))

pub same_deck-decides : (a b : Deck) → Decides (same_deck a b) (a ≡ b)
same_deck-decides a b =
    Decides-like (same_deck a b) (λ h i. record { length = h.0.0.0.0.0 i; width = h.0.0.0.0.1 i; end = h.0.0.0.1 i; gap = h.0.0.1 i; side = h.0.1 i; ships = h.1 i })
    (λ e. (((((ap (λ d. d.length) e, ap (λ d. d.width) e), ap (λ d. d.end) e), ap (λ d. d.gap) e), ap (λ d. d.side) e), ap (λ d. d.ships) e))
    (Decides-and _ (same_sizes a.ships b.ships)
    (Decides-and _ (nat_eq a.side b.side)
    (Decides-and _ (nat_eq a.gap b.gap)
    (Decides-and _ (nat_eq a.end b.end)
    (Decides-and (nat_eq a.length b.length) (nat_eq a.width b.width) (Decides-eqb a.length b.length) (Decides-eqb a.width b.width))
    (Decides-eqb a.end b.end)) (Decides-eqb a.gap b.gap)) (Decides-eqb a.side b.side)) (same_sizes-decides a.ships b.ships))

pub is_clash-decides : (a b : Size) → Decides (is_clash a b) (Clash a b)
is_clash-decides a b =
    Decides-like (is_clash a b) (λ h. record { differ = h.0.0; first = h.0.1; second = h.1 }) (λ c. ((c.differ, c.first), c.second))
    (Decides-and _ (not (nat_eq b.cargo 0))
    (Decides-and (not (nat_eq a.cargo b.cargo)) (not (nat_eq a.cargo 0)) (Decides-not (nat_eq a.cargo b.cargo) (Decides-eqb a.cargo b.cargo)) (Decides-not (nat_eq a.cargo 0) (Decides-eqb a.cargo 0)))
    (Decides-not (nat_eq b.cargo 0) (Decides-eqb b.cargo 0)))

-- where the test finds no clash there is none
pub has_clash-none : (xs : List Size) → has_clash xs ≡ false → (i j : ℕ) → i < j → j < length xs → Clash (slice_index_or xs i no_size) (slice_index_or xs j no_size) → ⊥
has_clash-none [] e i j less known c = absurd (omega (arith, known))
has_clash-none (x ∷ xs) e zero zero less known c = absurd (omega (arith, less))
has_clash-none (x ∷ xs) e zero (suc j) less known c =
    let parts = or_parts (list_any (is_clash x) xs) (has_clash xs) e in
    let here : j < length xs = omega (arith, known) in
    false≢true (sym parts.0 ∙ list_any_at (is_clash x) xs j no_size here ((is_clash-decides x (slice_index_or xs j no_size)).1 c))
has_clash-none (x ∷ xs) e (suc i) zero less known c = absurd (omega (arith, less))
has_clash-none (x ∷ xs) e (suc i) (suc j) less known c = has_clash-none xs (or_parts (list_any (is_clash x) xs) (has_clash xs) e).1 i j (omega (arith, less)) (omega (arith, known)) c

pub HasNoClash-test : (d : Deck) → has_clash d.ships ≡ false → HasNoClash d
HasNoClash-test d e = record { clear = λ i known. record { later = λ j less here. record { peace = has_clash-none d.ships e i j less here } } }

pub has_number-decides : (ss : List ℕ) (s : ℕ) → Decides (has_number ss s) (Contains ss s)
has_number-decides ss s = (found, finds)
  where
    found : has_number ss s ≡ true → Contains ss s
    found e =
        let any = Any-from_list_any (λ t. nat_eq t s) ss e in
        let is : any.1 ≡ s = (Decides-eqb any.1 s).0 any.4 in
        (any.0, any.2, subst (λ u. slice_index_or ss any.0 u ≡ u) is any.3)

    finds : Contains ss s → has_number ss s ≡ true
    finds c = list_any_at (λ t. nat_eq t s) ss c.0 s c.1 ((Decides-eqb (slice_index_or ss c.0 s) s).1 c.2)

pub is_no_roomier-decides : (c : Chamber) (d : Deck) → Decides (is_no_roomier c d) (IsNoRoomier c d)
is_no_roomier-decides c d =
    Decides-like (is_no_roomier c d) (λ h. record { end = h.0.0.0.0; gap = h.0.0.0.1; side = h.0.0.1; long = h.0.1; wide = h.1 }) (λ r. ((((r.end, r.gap), r.side), r.long), r.wide))
    (Decides-and _ (nat_le c.width d.width)
    (Decides-and _ (nat_le c.length d.length)
    (Decides-and _ (nat_eq c.side d.side)
    (Decides-and (nat_eq c.end d.end) (nat_eq c.gap d.gap) (Decides-eqb c.end d.end) (Decides-eqb c.gap d.gap))
    (Decides-eqb c.side d.side)) (Decides-leb c.length d.length)) (Decides-leb c.width d.width))

pub is_hit-decides : (I : Instance) (cut : Cut) (c : ℕ) (S : List ℕ) → Decides (is_hit I cut c S) (Hits cut.ships cut.deck I c S)
is_hit-decides I cut c S =
    Decides-like (is_hit I cut c S) (λ h. record { among = h.0.0; sizes = h.0.1; tight = h.1 }) (λ h. ((h.among, h.sizes), h.tight))
    (Decides-and _ (is_no_roomier (chamber_at I c) cut.deck)
    (Decides-and (list_all (has_number S) cut.ships) (same_sizes cut.deck.ships (map (λ s. size_of (ship_at I s)) cut.ships))
    (Decides-by_and (has_number S) (Contains S) (list_all (has_number S)) (has_number-decides S) refl (λ _ _. refl) cut.ships)
    (same_sizes-decides cut.deck.ships (map (λ s. size_of (ship_at I s)) cut.ships))) (is_no_roomier-decides (chamber_at I c) cut.deck))

pub is_own_cut-decides : (I : Instance) (cut : Cut) → Decides (is_own_cut I cut) (IsOwnCut I cut)
is_own_cut-decides I cut =
    Decides-like (is_own_cut I cut) (λ h. record { chamber = h.0.0; ships = h.0.1; deck = h.1 }) (λ h. ((h.chamber, h.ships), h.deck))
    (Decides-and _ (same_deck cut.deck (deck_of I cut.chamber cut.ships))
    (Decides-and (nat_lt cut.chamber (length I.chambers)) (list_all (λ s. nat_lt s (length I.ships)) cut.ships) (Decides-ltb cut.chamber (length I.chambers))
    (Decides-by_and (λ s. nat_lt s (length I.ships)) (λ s. s < length I.ships) (list_all (λ s. nat_lt s (length I.ships))) (λ s. Decides-ltb s (length I.ships)) refl (λ _ _. refl) cut.ships))
    (same_deck-decides cut.deck (deck_of I cut.chamber cut.ships)))

pub has_shape-decides : (I : Instance) (prices : PriceList) → Decides (has_shape I prices) (AreShapedPrices I prices)
has_shape-decides I prices =
    Decides-like (has_shape I prices) (λ h. record { count = h.0; known = h.1 }) (λ s. (s.count, s.known))
    (Decides-and (nat_eq (length prices.ships) (length I.ships)) (list_all (λ (t : Triple). nat_lt t.third (length I.ships)) prices.triples) (Decides-eqb (length prices.ships) (length I.ships))
    (Decides-by_and (λ (t : Triple). nat_lt t.third (length I.ships)) (λ (t : Triple). t.third < length I.ships) (list_all (λ (t : Triple). nat_lt t.third (length I.ships))) (λ (t : Triple). Decides-ltb t.third (length I.ships)) refl (λ _ _. refl) prices.triples))

-- the test of a line, for one chamber
line_test : Instance → Cut → List (List Group) → ℕ → Bool
line_test I cut lines c = list_any (λ (g : Group). is_hit I cut c g.ships) (line_at lines c)

pub is_node_hit-decides : (I : Instance) (cut : Cut) (lines : List (List Group)) → Decides (is_node_hit I cut lines) (HitsNode cut.ships cut.deck I lines)
unfolding line_test
is_node_hit-decides I cut lines = (found, finds)
  where
    found : is_node_hit I cut lines ≡ true → HitsNode cut.ships cut.deck I lines
    found e =
        let any = Any-from_list_any (line_test I cut lines) (numbers_from 0 (length I.chambers)) e in
        let here : any.0 < length I.chambers = omega (arith, any.2, length-numbers 0 (length I.chambers)) in
        let is : any.1 ≡ 0 + any.0 = sym any.3 ∙ numbers-at 0 (length I.chambers) any.0 any.1 here in
        let inner = Any-from_list_any (λ (g : Group). is_hit I cut any.1 g.ships) (line_at lines any.1) any.4 in
        record { chamber = any.1; group = inner.1; known = omega (arith, is, here); held = (inner.0, inner.2, inner.3); hits = (is_hit-decides I cut any.1 inner.1.ships).0 inner.4 }

    finds : HitsNode cut.ships cut.deck I lines → is_node_hit I cut lines ≡ true
    finds h =
        let at : slice_index_or (numbers_from 0 (length I.chambers)) h.chamber 0 ≡ h.chamber = numbers-at 0 (length I.chambers) h.chamber 0 h.known ∙ omega arith in
        let hit : is_hit I cut h.chamber (slice_index_or (line_at lines h.chamber) h.held.0 h.group).ships ≡ true = subst (λ g. is_hit I cut h.chamber g.ships ≡ true) (sym h.held.2) ((is_hit-decides I cut h.chamber h.group.ships).1 h.hits) in
        let line : line_test I cut lines h.chamber ≡ true = list_any_at (λ (g : Group). is_hit I cut h.chamber g.ships) (line_at lines h.chamber) h.held.0 h.group h.held.1 hit in
        list_any_at (line_test I cut lines) (numbers_from 0 (length I.chambers)) h.chamber 0 (omega (arith, h.known, length-numbers 0 (length I.chambers))) (subst (λ c. line_test I cut lines c ≡ true) (sym at) line)
