-- Pairs of ships: those that overlap, and those that values put apart.
use Rattle.std.proofs.Common.{◌≡◌, ◌≢◌, ℕ, zero, suc, ◌+◌, ◌<◌, ◌≤◌, ◌⊎◌, ℤ, List, [], ◌∷◌, ◌++◌, length, slice_index_or, inl, inr, refl, sym, ap, ◌∙◌, subst, arith}
use Rattle.std.proofs.lemmas.List.{length_push, get_or_default}
use Rattle.std.specs.List.{AllByRecursion}
use Rattle.std.proofs.lemmas.Bool.Decides.{eqb_tells}
use Rattle.list_laws.proofs.ByRecursion.{all-append}
use Rattle.lock_model.specs.Deck.{Deck}
use Rattle.list_laws.specs.Among.{IsAmong}
use Rattle.diff_system.specs.PathTree.{IsSmall}
use Rattle.refute_rules.specs.declared.choices.Choice.{Choice}
use Rattle.refute_rules.specs.declared.choices.Choice.TheVariants.{Before}
use Rattle.refute_rules.proofs.Among.{IsAmong-left, IsAmong-right}
use Rattle.refute_rules.specs.BerthCases.{DoOverlap, HasOrder}
use Rattle.berth_place.specs.declared.pairs.Pair.{Pair}
use Rattle.berth_place.specs.Along.{place_var}
use Rattle.berth_place.specs.Pairs.{IsPair, pair, ArePairs, AreAllPairs, AreApartAlong, AreFirstApart, AreSmallValues, ArePairsBut, ArePartlyPairs}
use Rattle.berth_place.proofs.WholeLemmas.{overlap_more, overlap_less, order_more}

module _ (d : Deck) (case : List Choice) where
  pub pairs_begun : ArePairs d case []
  pairs_begun = record { all = tt }

  pub all_begun : (ps : List Pair) → AreAllPairs d case ps 0
  all_begun ps = record { each = λ i j less known o. absurd (omega (arith, known)) }

  pub partly_begun : (ps : List Pair) (upper : ℕ) → AreAllPairs d case ps upper → ArePartlyPairs d case ps upper 0
  partly_begun ps upper before = record { before = before; here = λ i h o. absurd (omega (arith, h)) }

  pub pair_is : (lower upper : ℕ) → lower < upper → upper < length d.ships → DoOverlap d case lower upper → IsPair d case (pair lower upper)
  pair_is lower upper rising known overlap = record { rising = rising; known = known; overlap = overlap }

  pub pairs_more : (ps new : List Pair) (p : Pair) → ArePairs d case ps → IsPair d case p → new ≡ ps ++ p ∷ [] → ArePairs d case new
  pairs_more ps new p pairs one e = record { all = subst (AllByRecursion (IsPair d case)) (sym e) (all-append (IsPair d case) ps (p ∷ []) pairs.all (one, tt)) }

  wider : (ps new : List Pair) (p : Pair) (i j : ℕ) → new ≡ ps ++ p ∷ [] → IsAmong ps (pair i j) ⊎ (HasOrder case i j ⊎ HasOrder case j i) → IsAmong new (pair i j) ⊎ (HasOrder case i j ⊎ HasOrder case j i)
  wider ps new p i j e (inl h) = inl (subst (λ qs. IsAmong qs (pair i j)) (sym e) (IsAmong-left ps (p ∷ []) (pair i j) h))
  wider ps new p i j e (inr h) = inr h

  pub partly_more : (ps new : List Pair) (upper lower : ℕ) → ArePartlyPairs d case ps upper lower → new ≡ ps ++ pair lower upper ∷ [] → ArePartlyPairs d case new upper (lower + 1)
  partly_more ps new upper lower partly e = record {
    before = record { each = λ i j less known o. wider ps new (pair lower upper) i j e (partly.before.each i j less known o) };
    here = λ i h o.
        elim (eqb_tells i lower) [
          | inl y ↦ inl (subst (λ k. IsAmong new (pair k upper)) (sym y.1) (subst (λ qs. IsAmong qs (pair lower upper)) (sym e) (IsAmong-right ps (pair lower upper ∷ []) (pair lower upper) (inl refl))))
          | inr n ↦ wider ps new (pair lower upper) i upper e (partly.here i (omega (arith, h, n.1)) o)
        ];
  }

  pub partly_passed : (ps : List Pair) (upper lower : ℕ) → ArePartlyPairs d case ps upper lower → (DoOverlap d case lower upper → ⊥) → ArePartlyPairs d case ps upper (lower + 1)
  partly_passed ps upper lower partly none = record {
    before = partly.before;
    here = λ i h o.
        elim (eqb_tells i lower) [
          | inl y ↦ absurd (none (subst (λ k. DoOverlap d case k upper) y.1 o))
          | inr n ↦ partly.here i (omega (arith, h, n.1)) o
        ];
  }

  pub partly_whole : (ps : List Pair) (upper lower : ℕ) → upper ≤ lower → ArePartlyPairs d case ps upper lower → AreAllPairs d case ps (upper + 1)
  partly_whole ps upper lower long partly = record {
    each = λ i j less known o.
        elim (eqb_tells j upper) [
          | inl y ↦ subst (λ k. IsAmong ps (pair i k) ⊎ (HasOrder case i k ⊎ HasOrder case k i)) (sym y.1) (partly.here i (let same = y.1 in omega (arith, less, same, long)) (subst (DoOverlap d case i) y.1 o))
          | inr n ↦ partly.before.each i j less (omega (arith, known, n.1)) o
        ];
  }

-- ---- pairs by number

abbrev pub pair_at : List Pair → ℕ → Pair
pair_at ps k = slice_index_or ps k (pair 0 0)

pair-among : (ps : List Pair) (p : Pair) → IsAmong ps p → (k : ℕ) × (k < length ps) × (pair_at ps k ≡ p)
pair-among [] p h = absurd h
pair-among (q ∷ ps) p (inl e) = (0, omega arith, e)
pair-among (q ∷ ps) p (inr h) = let more = pair-among ps p h in (suc more.0, omega (arith, more.1), more.2)

pair-of : (P : Pair → Type 0) (ps : List Pair) (p : Pair) → AllByRecursion P ps → IsAmong ps p → P p
pair-of P (q ∷ ps) p all (inl e) = subst P e all.0
pair-of P (q ∷ ps) p all (inr h) = pair-of P ps p all.1 h
pair-of P [] p all h = absurd h

at-number : (P : Pair → Type 0) (ps : List Pair) (k : ℕ) → AllByRecursion P ps → k < length ps → P (pair_at ps k)
at-number P [] k all h = absurd (omega (arith, h))
at-number P (p ∷ ps) zero all h = all.0
at-number P (p ∷ ps) (suc k) all h = at-number P ps k all.1 (omega (arith, h))

pub pair_number : (d : Deck) (case : List Choice) (ps : List Pair) (k : ℕ) → ArePairs d case ps → k < length ps → IsPair d case (pair_at ps k)
pair_number d case ps k pairs h = at-number (IsPair d case) ps k pairs.all h

pub apart_begun : (d : Deck) (values : List ℤ) (ps : List Pair) → AreFirstApart d values ps 0
apart_begun d values ps = record { each = λ k h. absurd (omega (arith, h)) }

pub apart_more : (d : Deck) (values : List ℤ) (ps : List Pair) (k : ℕ) (z : Pair) → k < length ps → AreApartAlong d values (slice_index_or ps k z) → AreFirstApart d values ps k → AreFirstApart d values ps (k + 1)
apart_more d values ps k z here apart before = record {
  each = λ j h.
      elim (eqb_tells j k) [
        | inl y ↦ subst (λ u. AreApartAlong d values (pair_at ps u)) (sym y.1) (subst (AreApartAlong d values) (get_or_default ps k z (pair 0 0) here) apart)
        | inr n ↦ before.each j (omega (arith, h, n.1))
      ];
}

from-among : (P : Pair → Type 0) (ps : List Pair) → ((p : Pair) → IsAmong ps p → P p) → AllByRecursion P ps
from-among P [] f = tt
from-among P (p ∷ ps) f = (f p (inl refl), from-among P ps (λ q h. f q (inr h)))

-- a pair that is in the list is apart where all are
pub among_apart : (d : Deck) (values : List ℤ) (ps : List Pair) (p : Pair) → AreFirstApart d values ps (length ps) → IsAmong ps p → AreApartAlong d values p
among_apart d values ps p all h =
    let at = pair-among ps p h in
    subst (AreApartAlong d values) at.2 (all.each at.0 at.1)

-- ---- one order more

module _ (d : Deck) (case : List Choice) (a b : ℕ) where
  abbrev ordered : List Choice
  ordered = case ++ Before a b ∷ []

  pair-ordered : (p : Pair) → IsPair d case p → IsPair d ordered p
  pair-ordered p h = record { rising = h.rising; known = h.known; overlap = overlap_more d case a b p.lower p.upper h.overlap }

  pub pairs_left : (ps left : List Pair) (number : ℕ) → ArePairs d case ps → ArePairsBut ps number left → ArePairs d ordered left
  pairs_left ps left number pairs but = record { all = from-among (IsPair d ordered) left (λ p h. pair-ordered p (pair-of (IsPair d case) ps p pairs.all (but.only p h))) }

  pub all_left : (ps left : List Pair) (number count : ℕ) → AreAllPairs d case ps count → ArePairsBut ps number left → ((i j : ℕ) → pair_at ps number ≡ pair i j → HasOrder ordered i j ⊎ HasOrder ordered j i) → AreAllPairs d ordered left count
  all_left ps left number count all but taken = record { each = λ i j less known o. by-case i j (all.each i j less known (overlap_less d case a b i j o)) }
    where
      among-left : (i j : ℕ) → IsAmong ps (pair i j) → IsAmong left (pair i j) ⊎ (HasOrder ordered i j ⊎ HasOrder ordered j i)
      among-left i j h =
          let at = pair-among ps (pair i j) h in
          elim (eqb_tells at.0 number) [
            | inl y ↦ inr (taken i j (ap (pair_at ps) (sym y.1) ∙ at.2))
            | inr n ↦ inl (subst (IsAmong left) at.2 (but.kept at.0 at.1 n.1))
          ]

      by-case : (i j : ℕ) → IsAmong ps (pair i j) ⊎ (HasOrder case i j ⊎ HasOrder case j i) → IsAmong left (pair i j) ⊎ (HasOrder ordered i j ⊎ HasOrder ordered j i)
      by-case i j (inl h) = among-left i j h
      by-case i j (inr (inl h)) = inr (inl (order_more d case a b i j h))
      by-case i j (inr (inr h)) = inr (inr (order_more d case a b j i h))

-- ---- all pairs but one

-- what is kept of the first pairs
pub record ArePartlyKept (ps : List Pair) (number : ℕ) (left : List Pair) (count : ℕ) : Type 0 where
  pub short : number < count → length left + 1 ≡ count
  pub long : count ≤ number → length left ≡ count
  pub kept : (k : ℕ) → k < count → k ≢ number → IsAmong left (pair_at ps k)
  pub only : (p : Pair) → IsAmong left p → IsAmong ps p

number-among : (ps : List Pair) (k : ℕ) → k < length ps → IsAmong ps (pair_at ps k)
number-among [] k h = absurd (omega (arith, h))
number-among (p ∷ ps) zero h = inl refl
number-among (p ∷ ps) (suc k) h = inr (number-among ps k (omega (arith, h)))

module _ (ps : List Pair) (number : ℕ) where
  pub kept_begun : ArePartlyKept ps number [] 0
  kept_begun = record { short = λ h. absurd (omega (arith, h)); long = λ h. refl; kept = λ k h. absurd (omega (arith, h)); only = λ p h. absurd h }

  pub kept_passed : (left : List Pair) (count : ℕ) → count ≡ number → ArePartlyKept ps number left count → ArePartlyKept ps number left (count + 1)
  kept_passed left count e partly = record {
    short = λ h. let size = partly.long (omega (arith, e)) in omega (arith, size);
    long = λ h. absurd (omega (arith, h, e));
    kept = λ k h n. partly.kept k (omega (arith, h, e, n)) n;
    only = partly.only;
  }

  among-last : (left : List Pair) (q p : Pair) → IsAmong (left ++ q ∷ []) p → IsAmong left p ⊎ (q ≡ p)
  among-last [] q p (inl e) = inr e
  among-last [] q p (inr h) = absurd h
  among-last (r ∷ left) q p (inl e) = inl (inl e)
  among-last (r ∷ left) q p (inr h) = elim (among-last left q p h) [ inl u ↦ inl (inr u) | inr u ↦ inr u ]

  pub kept_more : (left new : List Pair) (count : ℕ) → count < length ps → count ≢ number → new ≡ left ++ pair_at ps count ∷ [] → ArePartlyKept ps number left count → ArePartlyKept ps number new (count + 1)
  kept_more left new count here n e partly =
      let size : length new ≡ length left + 1 = ap length e ∙ length_push left (pair_at ps count) in
      record {
        short = λ h. let fewer = partly.short (omega (arith, h, n)) in omega (arith, size, fewer);
        long = λ h. let same = partly.long (omega (arith, h)) in omega (arith, size, same);
        kept = λ k h m.
            elim (eqb_tells k count) [
              | inl y ↦ subst (λ u. IsAmong new (pair_at ps u)) (sym y.1) (subst (λ qs. IsAmong qs (pair_at ps count)) (sym e) (IsAmong-right left (pair_at ps count ∷ []) (pair_at ps count) (inl refl)))
              | inr f ↦ subst (λ qs. IsAmong qs (pair_at ps k)) (sym e) (IsAmong-left left (pair_at ps count ∷ []) (pair_at ps k) (partly.kept k (omega (arith, h, f.1)) m))
            ];
        only = λ p h. elim (among-last left (pair_at ps count) p (subst (λ qs. IsAmong qs p) e h)) [ inl u ↦ partly.only p u | inr u ↦ subst (IsAmong ps) u (number-among ps count here) ];
      }

  pub kept_whole : (left : List Pair) (count : ℕ) → number < length ps → count ≡ length ps → ArePartlyKept ps number left count → ArePairsBut ps number left
  kept_whole left count here e partly = record {
    fewer = let size = partly.short (omega (arith, here, e)) in omega (arith, size, e);
    kept = λ k h n. partly.kept k (omega (arith, h, e)) n;
    only = partly.only;
  }

pub value_small : (d : Deck) (values : List ℤ) (i : ℕ) → AreSmallValues d values → i < length d.ships → IsSmall values (place_var i)
value_small d values i small h = small.small (place_var i) (omega (arith, h))

-- what `add_pair` goes by
pub ruleset of_pairs = (pair_is, pairs_more, partly_more, partly_passed)

-- what `without` goes by
pub ruleset of_kept_pairs = (kept_begun, kept_passed, kept_more, kept_whole)
