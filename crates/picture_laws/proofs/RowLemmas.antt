-- Each ship of a legal plan has one row, and each lockage one deck.
use Rattle.std.proofs.Common.{◌≡◌, ℕ, suc, ◌+◌, ◌<◌, ◌≤◌, List, [], ◌∷◌, ◌++◌, length, map, flat_map, cond, ◌||◌, Bool, true, false}
use Rattle.std.proofs.Common.{All, inl, inr, refl, sym, ap, subst, ◌∙◌, arith, slice_index_or}
use Rattle.std.specs.List.{range_with_len}
use Rattle.std.proofs.lemmas.Bool.Decides.{eqb_tells, leb_tells}
use Rattle.std.proofs.lemmas.List.Elements.{All-nil, All-cons, All-head, All-tail, All-weaker}
use Rattle.lock_model.specs.declared.instance.Instance.{Instance}
use Rattle.lock_model.specs.declared.plan.Lockage.{Lockage}
use Rattle.lock_model.specs.declared.plan.Plan.{Plan}
use Rattle.lock_rules.specs.Arrival.{order_of}
use Rattle.lock_rules.specs.Lines.{lockage_at, no_lockage}
use Rattle.lock_rules.specs.Plan.{times_in, served_in}
use Rattle.lock_rules.proofs.CountLemmas.{times_in-order_past}
use Rattle.lock_rules.proofs.SplitLemmas.{times_in-at}
use Rattle.lock_rules.proofs.TreeLemmas.{times_in-hit, times_in-miss}
use Rattle.picture_page.specs.Axis.{Drawn}
use Rattle.picture_page.specs.Passages.{has}
use Rattle.picture_laws.specs.Shapes.{Row, DeckShip, Deck}
use Rattle.picture_laws.specs.Shown.{IsRowOf, AreRows, IsOnDeck, IsDeckOf, AreDecks}
use Rattle.picture_laws.proofs.DrawnLemmas.{Start, row_shape, rows_among, deck_ship, deck_of_start}
use Rattle.picture_laws.proofs.ShownLemmas.{places_of, same-number}

-- ---- which lockage serves a ship

has-times : (s : ℕ) (ss : List ℕ) → has s ss ≡ true → 1 ≤ times_in ss s
has-times s [] h = absurd cc
has-times s (t ∷ ts) h =
    elim (eqb_tells t s) [
      | inl same ↦ omega (arith, times_in-hit s t ts same.0)
      | inr other ↦ omega (arith, times_in-miss s t ts other.0, has-times s ts (subst (λ b. (b || has s ts) ≡ true) other.0 h))
    ]

times-has : (s : ℕ) (ss : List ℕ) → 1 ≤ times_in ss s → has s ss ≡ true
times-has s [] h = absurd (omega (arith, h))
times-has s (t ∷ ts) h =
    elim (eqb_tells t s) [
      | inl same ↦ ap (λ b. b || has s ts) same.0
      | inr other ↦ ap (λ b. b || has s ts) other.0 ∙ times-has s ts (omega (arith, h, times_in-miss s t ts other.0))
    ]

differ : false ≡ true → ⊥
differ never = cc

-- the place of a lockage that serves a ship
pub record Serves (ls : List Lockage) (s : ℕ) : Type 0 where
  pub place : ℕ
  pub within : place < length ls
  pub serves : 1 ≤ times_in (slice_index_or ls place no_lockage).ships s

pub served-at : (ls : List Lockage) (s : ℕ) → 1 ≤ served_in ls s → Serves ls s
served-at [] s h = absurd (omega (arith, h))
served-at (l ∷ ls) s h =
    elim (leb_tells 1 (times_in l.ships s)) [
      | inl here ↦ record { place = 0; within = omega arith; serves = here.1 }
      | inr none ↦
          let later = served-at ls s (omega (arith, h, none.1)) in
          record { place = suc later.place; within = omega (arith, later.within); serves = later.serves }
    ]

-- ---- the rows

module _ (I : Instance) (P : Plan) (axis : Drawn) (ts : List Start) (known : (p : ℕ) → 1 ≤ times_in (places_of ts) p → p < length P.lockages) where
  record HasRow (us : List Start) (s : ℕ) : Type 0 where
    row : Row
    is : rows_among I P axis s us ≡ row ∷ []
    ship : row.ship ≡ s
    good : IsRowOf I P axis row

  has-row : (s q : ℕ) (us : List Start) → ((p : ℕ) → 1 ≤ times_in (places_of us) p → p < length P.lockages) → 1 ≤ times_in (places_of us) q
      → has s (lockage_at P q).ships ≡ true → HasRow us s
  has-row s q [] within some serves = absurd (omega (arith, some))
  has-row s q (u ∷ us) within some serves =
      go (λ more. has-row s q us (λ p m. within p (omega (arith, m))) more serves) (has s (lockage_at P u.lockage).ships) refl
    where
      go : (1 ≤ times_in (places_of us) q → HasRow us s) → (h : Bool) → has s (lockage_at P u.lockage).ships ≡ h → HasRow (u ∷ us) s
      go rest true e = record {
        row = row_shape I P axis s u;
        is = ap (λ b. cond b (row_shape I P axis s u ∷ []) (rows_among I P axis s us)) e;
        ship = refl;
        good = record {
          known =
              within u.lockage (omega (
                arith,
                times_in-hit u.lockage u.lockage (places_of us) (same-number u.lockage),
              ));
          serves = has-times s (lockage_at P u.lockage).ships e;
          arrives = refl;
          from = refl;
          to = refl;
        };
      }
      go rest false e = elim (eqb_tells u.lockage q) [
        | inl same ↦ absurd (differ (sym e ∙ ap (λ p. has s (lockage_at P p).ships) same.1 ∙ serves))
        | inr other ↦
            let later = rest (omega (arith, some, times_in-miss q u.lockage (places_of us) other.0)) in
            record {
              row =
                  later.row;
              is = ap (λ b. cond b (row_shape I P axis s u ∷ []) (rows_among I P axis s us)) e ∙ later.is;
              ship = later.ship;
              good = later.good;
            }
      ]

  abbrev rows_in : List ℕ → List Row
  rows_in ss = flat_map (λ s. rows_among I P axis s ts) ss

  rows-ships : (ss : List ℕ) → All (HasRow ts) ss → map (λ (r : Row). r.ship) (rows_in ss) ≡ ss
  rows-ships [] each = refl
  rows-ships (s ∷ ss) each =
      let here = All-head (HasRow ts) s ss each in
      ap (λ rows. map (λ (r : Row). r.ship) (rows ++ rows_in ss)) here.is ∙ ap (λ t. t ∷ map (λ (r : Row). r.ship) (rows_in ss)) here.ship
      ∙ ap (λ us. s ∷ us) (rows-ships ss (All-tail (HasRow ts) s ss each))

  rows-each : (ss : List ℕ) → All (HasRow ts) ss → All (IsRowOf I P axis) (rows_in ss)
  rows-each [] each = All-nil (IsRowOf I P axis)
  rows-each (s ∷ ss) each =
      let here = All-head (HasRow ts) s ss each in
      subst (λ rows. All (IsRowOf I P axis) (rows
      ++ rows_in ss)) (sym here.is) (All-cons (IsRowOf I P axis) here.row (rows_in ss) here.good (rows-each ss (All-tail (HasRow ts) s ss each)))

  served-row : ((s : ℕ) → s < length I.ships → served_in P.lockages s ≡ 1) → ((p : ℕ) → p < length P.lockages → times_in (places_of ts) p ≡ 1) → (s : ℕ)
      → 1 ≤ times_in (order_of I) s → HasRow ts s
  served-row served once s listed =
      let within : s < length I.ships =
      elim (leb_tells (suc s) (length I.ships)) [
        | inl y ↦ omega (arith, y.1)
        | inr n ↦ absurd (omega (
          arith,
          listed,
          times_in-order_past I s (omega (arith, n.1)),
        ))
      ] in
      let by = served-at P.lockages s (omega (arith, served s within)) in
      has-row s by.place ts known (omega (arith, once by.place by.within)) (times-has s (lockage_at P by.place).ships by.serves)

  -- EACH SHIP HAS ONE ROW.
  pub rows-shown : ((s : ℕ) → s < length I.ships → served_in P.lockages s ≡ 1) → ((p : ℕ) → p < length P.lockages → times_in (places_of ts) p ≡ 1)
      → AreRows I P axis (flat_map (λ s. rows_among I P axis s ts) (order_of I))
  rows-shown served once =
      let each = All-weaker (λ s. 1 ≤ times_in (order_of I) s) (HasRow ts) (served-row served once) (order_of I) (times_in-at (order_of I)) in
      record { ships = rows-ships (order_of I) each; each = rows-each (order_of I) each }

-- ---- the decks

-- a list is read by its places
read : (xs : List ℕ) (ys : List ℕ) (a : ℕ) → ((k : ℕ) → slice_index_or xs k 0 ≡ slice_index_or ys (a + k) 0)
    → map (λ k. slice_index_or ys k 0) (range_with_len a (length xs)) ≡ xs
read [] ys a same = refl
read (x ∷ xs) ys a same =
    ap (λ v. v ∷ map (λ k. slice_index_or ys k 0) (range_with_len (a + 1) (length xs))) (sym (same 0 ∙ ap (λ k. slice_index_or ys k 0) (omega arith)))
    ∙ ap (λ vs. x ∷ vs) (read xs ys (a + 1) (λ k. same (suc k) ∙ ap (λ k. slice_index_or ys k 0) (omega arith)))

module _ (I : Instance) (l : Lockage) where
  deck-numbers : (ks : List ℕ) → map (λ (s : DeckShip). s.ship) (map (deck_ship I l) ks) ≡ map (λ k. slice_index_or l.ships k 0) ks
  deck-numbers [] = refl
  deck-numbers (k ∷ ks) = ap (λ ss. slice_index_or l.ships k 0 ∷ ss) (deck-numbers ks)

  deck-ships : map (λ (s : DeckShip). s.ship) (map (deck_ship I l) (range_with_len 0 (length l.ships))) ≡ l.ships
  deck-ships = deck-numbers (range_with_len 0 (length l.ships)) ∙ read l.ships l.ships 0 (λ k. ap (λ j. slice_index_or l.ships j 0) (omega arith))

  deck-placed : (ks : List ℕ) → All (IsOnDeck I l) (map (deck_ship I l) ks)
  deck-placed [] = All-nil (IsOnDeck I l)
  deck-placed (k ∷ ks) =
      All-cons (IsOnDeck I l) (deck_ship I l k) (map (deck_ship I l) ks) (record {
        ship =
            refl;
        near = refl;
        far = refl;
        top = refl;
        bottom = refl;
      }) (deck-placed ks)

module _ (I : Instance) (P : Plan) where
  deck-places : (ts : List Start) → map (λ (d : Deck). d.lockage) (map (deck_of_start I P) ts) ≡ places_of ts
  deck-places [] = refl
  deck-places (t ∷ ts) = ap (λ ps. t.lockage ∷ ps) (deck-places ts)

  deck-each : (ts : List Start) → ((p : ℕ) → 1 ≤ times_in (places_of ts) p → p < length P.lockages) → All (IsDeckOf I P) (map (deck_of_start I P) ts)
  deck-each [] known = All-nil (IsDeckOf I P)
  deck-each (t ∷ ts) known =
      let here : t.lockage < length P.lockages =
      known t.lockage (omega (arith, times_in-hit t.lockage t.lockage (places_of ts) (same-number t.lockage))) in
      All-cons (IsDeckOf I P) (deck_of_start I P t) (map (deck_of_start I P) ts) (record {
        known = here;
        ships = deck-ships I (lockage_at P t.lockage);
        placed = deck-placed I (lockage_at P t.lockage) (range_with_len 0 (length (lockage_at P t.lockage).ships));
      }) (deck-each ts (λ p some. known p (omega (arith, some))))

  -- EACH LOCKAGE HAS ONE DECK, with its ships.
  pub decks-shown : (ts : List Start) → ((p : ℕ) → p < length P.lockages → times_in (places_of ts) p ≡ 1) → ((p : ℕ) → 1 ≤ times_in (places_of ts) p
      → p < length P.lockages) → AreDecks I P (map (deck_of_start I P) ts)
  decks-shown ts once known = record {
    once = λ p within. ap (λ ps. times_in ps p) (deck-places ts) ∙ once p within;
    each = deck-each ts known;
  }
