-- Some of a deck's ships.
use Rattle.std.proofs.Common.{◌≡◌, ◌⊎◌, ℕ, zero, suc, ◌+◌, ◌-◌, ◌<◌, ◌≤◌, List, [], ◌∷◌, ◌++◌, length, map, take, drop, slice_index_or, inl, inr, refl, sym, ap, ◌∙◌, subst, arith, All, Contains, length-append}
use Rattle.std.proofs.lemmas.Bool.{cases_lt}
use Rattle.std.proofs.lemmas.List.{length-map, length-take-le, map-append, take-map, take_rest, drop-map, get_or_at, get_or_default, get_or-append-add, get_or-map, get_or-take}
use Rattle.std.proofs.lemmas.List.Kept.{AllPairs-from_increasing}
use Rattle.std.specs.List.{remove}
use Rattle.std.specs.List.Sorted.{IsStrictlyIncreasing}
use Rattle.lock_model.specs.declared.limits.TheConstants.{MOST}
use Rattle.list_laws.proofs.Lists.{length-push}
use Rattle.lock_model.specs.Deck.{Deck, IsDeck, IsSize, size_at, no_size}
use Rattle.lock_rules.specs.Arrival.{numbers_from}
use Rattle.refute_rules.specs.declared.refutation.Refutation.{Refutation}
use Rattle.refute_rules.specs.declared.refutation.Refutation.TheVariants as refutation
use Rattle.refute_rules.specs.Reasons.{AreSome}
use Rattle.refute_rules.specs.Refutes.{IsRefuted}
use Rattle.case_search.proofs.ListLemmas.{append-assoc}
use Rattle.chamber_place.specs.Placing.{PlaceRefutes}
use Rattle.chamber_place.specs.Parts.{part_of, IsLeast, KeepsClash, IsPart, IsSmaller, IsRefutedPart, IsSmallerPart, BeginsWithClash}
use Rattle.lock_rules.proofs.LineLemmas.{length-numbers, numbers-at}

-- ---- a list without one element
pub remove-length : {X : Type 0} (xs : List X) (k : ℕ) → k < length xs → length (remove xs k) + 1 ≡ length xs
remove-length [] k h = absurd (omega (arith, h))
remove-length (x ∷ xs) zero h = omega arith
remove-length (x ∷ xs) (suc k) h = let rest = remove-length xs k (omega (arith, h)) in omega (arith, rest)

remove-below : {X : Type 0} (xs : List X) (k i : ℕ) (d : X) → i < k → k < length xs → slice_index_or (remove xs k) i d ≡ slice_index_or xs i d
remove-below [] k i d l h = absurd (omega (arith, h))
remove-below (x ∷ xs) zero i d l h = absurd (omega (arith, l))
remove-below (x ∷ xs) (suc k) zero d l h = refl
remove-below (x ∷ xs) (suc k) (suc i) d l h = remove-below xs k i d (omega (arith, l)) (omega (arith, h))

remove-above : {X : Type 0} (xs : List X) (k i : ℕ) (d : X) → k ≤ i → k < length xs → slice_index_or (remove xs k) i d ≡ slice_index_or xs (suc i) d
remove-above [] k i d l h = absurd (omega (arith, h))
remove-above (x ∷ xs) zero i d l h = refl
remove-above (x ∷ xs) (suc k) zero d l h = absurd (omega (arith, l))
remove-above (x ∷ xs) (suc k) (suc i) d l h = remove-above xs k i d (omega (arith, l)) (omega (arith, h))

-- an element of what is left is one of the list, later by at most one
record IsFrom {X : Type 0} (xs : List X) (k i : ℕ) : Type 0 where
  pub at : ℕ
  pub same : (d : X) → slice_index_or (remove xs k) i d ≡ slice_index_or xs at d
  pub low : i ≤ at
  pub high : at ≤ suc i
  pub less : at < length xs
  pub early : i < k → at ≡ i
  pub late : k ≤ i → at ≡ suc i

from-at : {X : Type 0} (xs : List X) (k i : ℕ) → k < length xs → i < length (remove xs k) → IsFrom xs k i
from-at xs k i h l = elim (cases_lt i k) [
  | inl a ↦ record { at = i; same = λ d. remove-below xs k i d a h; low = omega arith; high = omega arith; less = omega (arith, a, h); early = λ e. refl; late = λ m. absurd (omega (arith, a, m)) }
  | inr b ↦ let n = remove-length xs k h in record { at = suc i; same = λ d. remove-above xs k i d b h; low = omega arith; high = omega arith; less = omega (arith, l, n); early = λ e. absurd (omega (arith, b, e)); late = λ m. refl }
]

pub remove-rising : (xs : List ℕ) (k : ℕ) → k < length xs → IsStrictlyIncreasing xs → IsStrictlyIncreasing (remove xs k)
remove-rising xs k h rising i l =
    let a = from-at xs k i h (omega (arith, l)) in
    let b = from-at xs k (i + 1) h l in
    let less : a.at < b.at = elim (cases_lt i k) [
      | inl e ↦ let p = a.early e in let q = b.low in omega (arith, p, q)
      | inr m ↦ let p = a.high in let q = b.late (omega (arith, m)) in omega (arith, p, q)
    ] in
    let both : slice_index_or xs a.at 0 < slice_index_or xs b.at 0 = AllPairs-from_increasing xs rising a.at b.at 0 less b.less in
    let p = a.same 0 in
    let q = b.same 0 in
    omega (arith, both, p, q)

pub remove-all : {X : Type 0} (P : X → Type 0) (xs : List X) (k : ℕ) → k < length xs → All P xs → All P (remove xs k)
remove-all P xs k h all i d l = let a = from-at xs k i h l in subst P (sym (a.same d)) (all a.at d a.less)

pub remove-within : (xs : List ℕ) (k : ℕ) → k < length xs → All (Contains xs) (remove xs k)
remove-within xs k h i d l = let a = from-at xs k i h l in (a.at, a.less, ap (slice_index_or xs a.at) (a.same d) ∙ get_or_default xs a.at (slice_index_or xs a.at d) d a.less ∙ sym (a.same d))

remove-map : {X Y : Type 0} (f : X → Y) (xs : List X) (k : ℕ) → remove (map f xs) k ≡ map f (remove xs k)
remove-map f xs k = ap (λ l. l ++ drop (suc k) (map f xs)) (take-map f k xs) ∙ ap (λ l. map f (take k xs) ++ l) (drop-map f (suc k) xs) ∙ sym (map-append f (take k xs) (drop (suc k) xs))

-- ---- the beginning of a rising list
pub take-below : (xs : List ℕ) (n : ℕ) → n < length xs → IsStrictlyIncreasing xs → All (λ s. s < slice_index_or xs n 0) (take n xs)
take-below xs n h rising k d l =
    let m = length-take-le n xs (omega (arith, h)) in
    let few : k < n = omega (arith, l, m) in
    let both : slice_index_or xs k d < slice_index_or xs n d = AllPairs-from_increasing xs rising k n d few h in
    let e = get_or-take n xs k d few in
    let g = get_or_default xs n d 0 h in
    omega (arith, both, e, g)

take-more : {X : Type 0} (old more : List X) (i : ℕ) → take (length old + i) (old ++ more) ≡ old ++ take i more
take-more [] more i = ap (λ n. take n more) (let e : 0 + i ≡ i = omega arith in e)
take-more (x ∷ old) more i = ap (λ n. take n (x ∷ old ++ more)) (let e : length (x ∷ old) + i ≡ suc (length old + i) = omega arith in e) ∙ ap (λ l. x ∷ l) (take-more old more i)

pub push-below : (old more now : List ℕ) (i : ℕ) → i < length more → IsStrictlyIncreasing (old ++ more) → now ≡ old ++ take i more → All (λ s. s < slice_index_or more i 0) now
push-below old more now i h rising e =
    let n = length-append old more in
    let all = take-below (old ++ more) (length old + i) (omega (arith, h, n)) rising in
    subst (All (λ s. s < slice_index_or more i 0)) (take-more old more i ∙ sym e)
    (subst (λ v. All (λ s. s < v) (take (length old + i) (old ++ more))) (get_or-append-add old more i 0) all)

-- ---- all places
pub numbers-below : (n : ℕ) → All (λ s. s < n) (numbers_from 0 n)
numbers-below n k d l =
    let m = length-numbers 0 n in
    let few : k < n = omega (arith, l, m) in
    let e = numbers-at 0 n k d few in
    omega (arith, few, e)

numbers-rising : (n : ℕ) → IsStrictlyIncreasing (numbers_from 0 n)
numbers-rising n k l =
    let m = length-numbers 0 n in
    let p = numbers-at 0 n k 0 (omega (arith, l, m)) in
    let q = numbers-at 0 n (k + 1) 0 (omega (arith, l, m)) in
    omega (arith, p, q)

own-rest : {X : Type 0} (e : X) (ys xs : List X) → map (λ k. slice_index_or (ys ++ xs) k e) (numbers_from (length ys) (length xs)) ≡ xs
own-rest e ys [] = refl
own-rest e ys (x ∷ xs) =
    ap (λ h. h ∷ map (λ k. slice_index_or (ys ++ x ∷ xs) k e) (numbers_from (suc (length ys)) (length xs))) (get_or_at ys x xs e (length ys) refl)
    ∙ ap (λ l. x ∷ l) (ap (λ zs. map (λ k. slice_index_or zs k e) (numbers_from (suc (length ys)) (length xs))) (sym (append-assoc ys (x ∷ []) xs)) ∙ ap (λ n. map (λ k. slice_index_or ((ys ++ x ∷ []) ++ xs) k e) (numbers_from n (length xs))) (sym (length-push ys x)) ∙ own-rest e (ys ++ x ∷ []) xs)

pub part-all : (d : Deck) → part_of d (numbers_from 0 (length d.ships)) ≡ d
part-all d = ap (λ ships. record { length = d.length; width = d.width; end = d.end; gap = d.gap; side = d.side; ships = ships }) (own-rest no_size [] d.ships)

pub all-some : (d : Deck) (n : ℕ) → n ≡ length d.ships → 1 ≤ n → AreSome d (numbers_from 0 n)
all-some d n e some = record {
  some = let m = length-numbers 0 n in omega (arith, m, some);
  rising = numbers-rising n;
  known = subst (λ m. All (λ i. i < m) (numbers_from 0 n)) e (numbers-below n);
}

pub whole-is : (d : Deck) (n : ℕ) (places : List ℕ) (r : Refutation) → n ≡ length d.ships → 1 ≤ n → places ≡ numbers_from 0 n → IsRefuted d r → IsPart d places r
whole-is d n places r e some is refuted = subst (λ ps. IsPart d ps r) (sym is) (record {
  some = all-some d n e some;
  refuted = subst (λ m. IsRefuted (part_of d (numbers_from 0 m)) r) (sym e) (subst (λ f. IsRefuted f r) (sym (part-all d)) refuted);
})

-- ---- the deck of some places
pub part-deck : (d : Deck) (places : List ℕ) → IsDeck d → AreSome d places → length places ≤ MOST → IsDeck (part_of d places)
part-deck d places limits some few = record {
  long = limits.long;
  wide = limits.wide;
  clear = limits.clear;
  count = let l = length-map places (size_at d) in let one = some.some in (omega (arith, l, one), omega (arith, l, few));
  sizes = λ k e h.
      let l = length-map places (size_at d) in
      let less : k < length places = omega (arith, h, l) in
      subst IsSize (sym (get_or-map (size_at d) places k 0 e less)) (limits.sizes (slice_index_or places k 0) no_size (some.known k 0 less));
}

pub fewer-some : (d : Deck) (places : List ℕ) (k : ℕ) → AreSome d places → 2 ≤ length places → k < length places → AreSome d (remove places k)
fewer-some d places k some two h = record {
  some = let n = remove-length places k h in omega (arith, n, two);
  rising = remove-rising places k h some.rising;
  known = remove-all (λ i. i < length d.ships) places k h some.known;
}

pub part-least : (d : Deck) (places : List ℕ) (turns : ℕ) → ((k : ℕ) → k < length places → PlaceRefutes (part_of d (remove places k)) turns → ⊥) → IsLeast (part_of d places) turns
part-least d places turns none = record {
  needed = λ k two h refutes.
      let l = length-map places (size_at d) in
      none k (omega (arith, h, l)) (subst (λ e. PlaceRefutes e turns) (ap (λ ships. record { length = d.length; width = d.width; end = d.end; gap = d.gap; side = d.side; ships = ships }) (remove-map (size_at d) places k)) refutes);
}

-- ---- from one part to a smaller one
pub smaller-fewer : (d : Deck) (turns : ℕ) (places after : List ℕ) (k : ℕ) → k < length places → after ≡ remove places k → PlaceRefutes (part_of d after) turns → IsSmaller d turns places after
smaller-fewer d turns places after k h e refutes = inr (subst (All (Contains places)) (sym e) (remove-within places k h), refutes)

contains-within : (a b : List ℕ) (x : ℕ) → All (Contains a) b → Contains b x → Contains a x
contains-within a b x all (k, h, is) = subst (Contains a) is (all k x h)

pub smaller-again : (d : Deck) (turns : ℕ) (first second third : List ℕ) → IsSmaller d turns first second → IsSmaller d turns second third → IsSmaller d turns first third
smaller-again d turns first second third a (inl e) = subst (IsSmaller d turns first) (sym e) a
smaller-again d turns first second third (inl e) (inr b) = inr (subst (λ f. All (Contains f) third) e b.0, b.1)
smaller-again d turns first second third (inr a) (inr b) = inr (λ k x h. contains-within first second (slice_index_or third k x) a.0 (b.0 k x h), b.1)

pub refuted-smaller : (d : Deck) (turns : ℕ) (places fewer found : List ℕ) (r : Refutation) (k : ℕ) → k < length places → fewer ≡ remove places k → IsRefutedPart d turns fewer found r → IsSmallerPart d turns places found r
refuted-smaller d turns places fewer found r k h e refuted = record {
  part = refuted.part;
  smaller = smaller-fewer d turns places found k h (refuted.same ∙ e) refuted.refutes;
  fewer = let n = remove-length places k h in let l = ap length (refuted.same ∙ e) in omega (arith, n, l);
}

-- ---- a clash
contains-two : (i j x : ℕ) → Contains (i ∷ j ∷ []) x → (x ≡ i) ⊎ (x ≡ j)
contains-two i j x (zero, h, e) = inl (sym e)
contains-two i j x (suc zero, h, e) = inr (sym e)
contains-two i j x (suc (suc k), h, e) = absurd (omega (arith, h))

pub clash-kept : (d : Deck) (i j turns : ℕ) (kept : List ℕ) → i < j → AreSome d kept → IsSmaller d turns (i ∷ j ∷ []) kept → KeepsClash d turns (refutation.Clash i j) kept
clash-kept d i j turns kept less some (inl e) = inl e
clash-kept d i j turns [] less some (inr b) = absurd (let one = some.some in omega (arith, one))
clash-kept d i j turns (x ∷ []) less some (inr b) = elim (contains-two i j x (b.0 0 0 (omega arith))) [
  | inl e ↦ inr (inl (ap (λ y. y ∷ []) e, subst (λ y. PlaceRefutes (part_of d (y ∷ [])) turns) e b.1))
  | inr e ↦ inr (inr (ap (λ y. y ∷ []) e, subst (λ y. PlaceRefutes (part_of d (y ∷ [])) turns) e b.1))
]
clash-kept d i j turns (x ∷ y ∷ []) less some (inr b) =
    let rise : x < y = some.rising 0 (omega arith) in
    let p = contains-two i j x (b.0 0 0 (omega arith)) in
    let q = contains-two i j y (b.0 1 0 (omega arith)) in
    inl (both p q rise)
  where
    both : (x ≡ i) ⊎ (x ≡ j) → (y ≡ i) ⊎ (y ≡ j) → x < y → x ∷ y ∷ [] ≡ i ∷ j ∷ []
    both (inl e) (inl f) r = absurd (omega (arith, e, f, r))
    both (inl e) (inr f) r = λ t. e t ∷ f t ∷ []
    both (inr e) (inl f) r = absurd (omega (arith, e, f, r, less))
    both (inr e) (inr f) r = absurd (omega (arith, e, f, r))
clash-kept d i j turns (x ∷ y ∷ z ∷ kept) less some (inr b) =
    let rise : x < y = some.rising 0 (omega arith) in
    let again : y < z = some.rising 1 (omega arith) in
    absurd (three (contains-two i j x (b.0 0 0 (omega arith))) (contains-two i j y (b.0 1 0 (omega arith))) (contains-two i j z (b.0 2 0 (omega arith))) rise again)
  where
    three : (x ≡ i) ⊎ (x ≡ j) → (y ≡ i) ⊎ (y ≡ j) → (z ≡ i) ⊎ (z ≡ j) → x < y → y < z → ⊥
    three (inl e) (inl f) g r s = omega (arith, e, f, r)
    three (inr e) (inr f) g r s = omega (arith, e, f, r)
    three (inr e) (inl f) g r s = omega (arith, e, f, r, less)
    three (inl e) (inr f) (inl g) r s = omega (arith, f, g, s, less)
    three (inl e) (inr f) (inr g) r s = omega (arith, f, g, s)

pub begun-kept : (d : Deck) (r : Refutation) (turns : ℕ) (begun kept : List ℕ) → IsRefuted d r → BeginsWithClash r begun → AreSome d kept → IsSmaller d turns begun kept → KeepsClash d turns r kept
begun-kept d (refutation.Clash i j) turns begun kept refuted begins some smaller = clash-kept d i j turns kept refuted.rises some (subst (λ ps. IsSmaller d turns ps kept) begins smaller)
begun-kept d (refutation.Quick q) turns begun kept refuted begins some smaller = tt
begun-kept d (refutation.Cases marks) turns begun kept refuted begins some smaller = tt
begun-kept d (refutation.Spots marks) turns begun kept refuted begins some smaller = tt
begun-kept d (refutation.Berths marks) turns begun kept refuted begins some smaller = tt

-- ---- the ships at places
pub ships-below : (ships places : List ℕ) (i : ℕ) → i < length places → IsStrictlyIncreasing ships → IsStrictlyIncreasing places → All (λ k. k < length ships) places → All (λ s. s < slice_index_or ships (slice_index_or places i 0) 0) (map (λ k. slice_index_or ships k 0) (take i places))
ships-below ships places i h rising up known k d l =
    let n = length-map (take i places) (λ k. slice_index_or ships k 0) in
    let m = length-take-le i places (omega (arith, h)) in
    let few : k < i = omega (arith, l, n, m) in
    let here : slice_index_or (map (λ k. slice_index_or ships k 0) (take i places)) k d ≡ slice_index_or ships (slice_index_or places k 0) 0 =
    get_or-map (λ k. slice_index_or ships k 0) (take i places) k 0 d (omega (arith, few, m)) ∙ ap (λ p. slice_index_or ships p 0) (get_or-take i places k 0 few) in
    let order : slice_index_or places k 0 < slice_index_or places i 0 = AllPairs-from_increasing places up k i 0 few h in
    let both : slice_index_or ships (slice_index_or places k 0) 0 < slice_index_or ships (slice_index_or places i 0) 0 = AllPairs-from_increasing ships rising (slice_index_or places k 0) (slice_index_or places i 0) 0 order (known i 0 h) in
    omega (arith, here, both)

-- ---- two pieces of a rising list
pub pieces-rising : (xs front : List ℕ) (n : ℕ) → front ≡ take n xs → n < length xs → IsStrictlyIncreasing xs → IsStrictlyIncreasing (front ++ take (length xs - (n + 1)) (drop (n + 1) xs))
pieces-rising xs front n e h rising =
    let s : n + 1 ≡ suc n = omega arith in
    subst IsStrictlyIncreasing (ap (λ f. f ++ drop (suc n) xs) (sym e) ∙ ap (λ r. front ++ r) (sym (take_rest xs (n + 1) ∙ ap (λ k. drop k xs) s))) (remove-rising xs n h rising)
