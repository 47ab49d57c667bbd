-- Closures that stand by rising minute, and one more put among them.
use Rattle.std.proofs.Common.{◌≡◌, ℕ, suc, ◌+◌, ◌-◌, ◌<◌, ◌≤◌, true, false, not, nat_lt, List, [], ◌∷◌, ◌++◌, length, take, drop, get_or, All, AllPairs, sym, ap, refl, subst, ◌∙◌, ⊎_elim, arith}
use Rattle.std.specs.List.{insert, list_any, position_or_len}
use Rattle.std.proofs.lemmas.Bool.{cases_lt}
use Rattle.std.proofs.lemmas.Bool.Decides.{nat_tests}
use Rattle.std.proofs.lemmas.List.{length-append, get_or_at, get_or_append_left, take-append-drop, drop_more, append_assoc}
use Rattle.std.proofs.lemmas.List.Edits.{length-insert, get_or-insert_below, get_or-insert_at, get_or-insert_above}
use Rattle.std.proofs.lemmas.List.Elements.{All-append, All-cons, All-take, All-drop}
use Rattle.std.proofs.lemmas.List.Sums.{fails_before_first, passes_at_first, prefix_len-le-length}
use Rattle.list_laws.proofs.Lists.{none-passes}
use Rattle.lock_model.specs.declared.limits.TheConstants.{CLOSURES}
use Rattle.lock_model.specs.Closures.{IsClosure, AreClosures}
use Rattle.lock_model.specs.declared.closure.Closure.{Closure}
use Rattle.instance_text.specs.Closing.{share_a_minute, put_closure}

-- what stands before a closure, and the closure itself
pub closures_at : (xs : List Closure) (y : Closure) (ys : List Closure) → AreClosures (xs ++ y ∷ ys) → (length xs < CLOSURES) × IsClosure y × All (λ k. k.to ≤ y.from) xs
closures_at xs y ys h =
    let long : length (xs ++ y ∷ ys) ≡ length xs + suc (length ys) = length-append xs (y ∷ ys) in
    let few = h.few in
    let inside : length xs < length (xs ++ y ∷ ys) = omega arith in
    let each : IsClosure y = subst IsClosure (get_or_at xs y ys y (length xs) refl) (h.each (length xs) y inside) in
    let later : All (λ k. k.to ≤ y.from) xs = λ k d low.
    let rises : (get_or (xs ++ y ∷ ys) k d).to ≤ (get_or (xs ++ y ∷ ys) (length xs) d).from = h.rising k (length xs) d low inside in
    let earlier = ap (λ (c : Closure). c.to) (get_or_append_left xs (y ∷ ys) d k low) in
    let here = ap (λ (c : Closure). c.from) (get_or_at xs y ys d (length xs) refl) in
    omega arith in
    (omega arith, each, later)

-- a front of closures
pub closures_front : (xs ys : List Closure) → AreClosures (xs ++ ys) → AreClosures xs
closures_front xs ys h =
    let long = length-append xs ys in
    let few = h.few in
    record {
      few = omega arith;
      each = λ k d low. subst IsClosure (get_or_append_left xs ys d k low) (h.each k d (omega arith));
      rising = λ i j d lt low.
          let rises : (get_or (xs ++ ys) i d).to ≤ (get_or (xs ++ ys) j d).from = h.rising i j d lt (omega arith) in
          let first = ap (λ (c : Closure). c.to) (get_or_append_left xs ys d i (omega arith)) in
          let second = ap (λ (c : Closure). c.from) (get_or_append_left xs ys d j low) in
          omega arith;
    }

-- the closure that comes after those that were appended so far
pub closures_next : (old more all : List Closure) (i : ℕ) (d : Closure) → i < length more → AreClosures (old ++ more) → all ≡ old ++ take i more → (length all < CLOSURES) × IsClosure (get_or more i d) × All (λ k. k.to ≤ (get_or more i d).from) all
closures_next old more all i d low h is =
    let whole : old ++ more ≡ all ++ get_or more i d ∷ drop (i + 1) more =
    ap (λ xs. old ++ xs) (sym (take-append-drop i more) ∙ ap (λ xs. take i more ++ xs) (drop_more more i d low))
    ∙ sym (append_assoc old (take i more) (get_or more i d ∷ drop (i + 1) more))
    ∙ ap (λ xs. xs ++ get_or more i d ∷ drop (i + 1) more) (sym is) in
    closures_at all (get_or more i d) (drop (i + 1) more) (subst AreClosures whole h)

-- pairs of a list with one more element
pub AllPairs-insert : {X : Type 0} (R : X → X → Type 0) (xs : List X) (p : ℕ) (x : X) → p ≤ length xs → AllPairs R xs → ((i : ℕ) (d : X) → i < p → R (get_or xs i d) x) → ((j : ℕ) (d : X) → p ≤ j → j < length xs → R x (get_or xs j d)) → AllPairs R (insert xs p x)
AllPairs-insert {X} R xs p x fits pairs before after i j d lt low =
    ⊎_elim
    (λ (j_below : j < p). both (sym (get_or-insert_below xs p x d i (omega arith) fits)) (sym (get_or-insert_below xs p x d j j_below fits)) (pairs i j d lt (omega arith)))
    (λ (j_above : p ≤ j). ⊎_elim
    (λ (i_below : i < p). ⊎_elim
    (λ (over : p < j). both (sym (get_or-insert_below xs p x d i i_below fits)) (above j over) (pairs i (j - 1) d (omega arith) (omega (arith, length-insert xs p x fits))))
    (λ (not_over : j ≤ p). both (sym (get_or-insert_below xs p x d i i_below fits)) (at j (omega arith)) (before i d i_below))
    (cases_lt p j))
    (λ (i_above : p ≤ i). ⊎_elim
    (λ (over : p < i). both (above i over) (above j (omega arith)) (pairs (i - 1) (j - 1) d (omega arith) (omega (arith, length-insert xs p x fits))))
    (λ (not_over : i ≤ p). both (at i (omega arith)) (above j (omega arith)) (after (j - 1) d (omega arith) (omega (arith, length-insert xs p x fits))))
    (cases_lt p i))
    (cases_lt i p))
    (cases_lt j p)
  where
    both : {a b a' b' : X} → a ≡ a' → b ≡ b' → R a b → R a' b'
    both {a = a} {b' = b'} e f r = subst (λ v. R v b') e (subst (λ v. R a v) f r)

    at : (k : ℕ) → k ≡ p → x ≡ get_or (insert xs p x) k d
    at k same = sym (ap (λ n. get_or (insert xs p x) n d) same ∙ get_or-insert_at xs p x d fits)

    above : (k : ℕ) → p < k → get_or xs (k - 1) d ≡ get_or (insert xs p x) k d
    above k over =
        let one_more : (k - 1) + 1 ≡ k = omega arith in
        sym (ap (λ n. get_or (insert xs p x) n d) (sym one_more) ∙ get_or-insert_above xs p x d (k - 1) (omega arith) fits)

-- of two closures without a common minute, the one that begins first ends first
pub apart_before : (k other : Closure) → share_a_minute k other ≡ false → nat_lt k.from other.from ≡ false → IsClosure k → other.to ≤ k.from
apart_before k other off first good = let span = good.span in grind (arith, nat_tests)

pub apart_after : (k other : Closure) → share_a_minute k other ≡ false → k.from < other.to → k.to ≤ other.from
apart_after k other off first = grind (arith, nat_tests)

-- a closure put among others that it is apart from
pub put_closure-kept : (k : Closure) (ks : List Closure) → AreClosures ks → length ks < CLOSURES → IsClosure k → list_any (share_a_minute k) ks ≡ false → AreClosures (put_closure k ks)
put_closure-kept k ks are room good off =
    let p = position_or_len (λ other. nat_lt k.from other.from) ks in
    let fits : p ≤ length ks = prefix_len-le-length (λ other. not (nat_lt k.from other.from)) ks in
    let apart = none-passes (share_a_minute k) ks off in
    record {
      few = omega (arith, length-insert ks p k fits);
      each = All-append IsClosure (take p ks) (k ∷ drop p ks) (All-take IsClosure p ks are.each) (All-cons IsClosure k (drop p ks) good (All-drop IsClosure p ks are.each));
      rising = AllPairs-insert (λ a b. a.to ≤ b.from) ks p k fits are.rising
          (λ i d low. apart_before k (get_or ks i d) (apart i d (omega arith)) (fails_before_first (λ other. nat_lt k.from other.from) ks i d low) good)
          (λ j d high low. apart_after k (get_or ks j d) (apart j d low) (begins_before j d high low));
    }
  where
    begins_before : (j : ℕ) (d : Closure) → position_or_len (λ (other : Closure). nat_lt k.from other.from) ks ≤ j → j < length ks → k.from < (get_or ks j d).to
    begins_before j d high low =
        let p = position_or_len (λ (other : Closure). nat_lt k.from other.from) ks in
        let begun : nat_lt k.from (get_or ks p d).from ≡ true = passes_at_first (λ other. nat_lt k.from other.from) ks d (omega arith) in
        let span = (are.each j d low).span in
        let first = (are.each p d (omega arith)).span in
        ⊎_elim
        (λ (later : p < j). let rises : (get_or ks p d).to ≤ (get_or ks j d).from = are.rising p j d later low in grind (arith, nat_tests))
        (λ (not_later : j ≤ p). let same : j ≡ p = omega arith in let here = ap (λ n. (get_or ks n d).to) same in grind (arith, nat_tests))
        (cases_lt p j)

-- the three steps by which `put_closure` is made
pub put_front : (k : Closure) (ks all : List Closure) (p : ℕ) → AreClosures (take p ks ++ k ∷ drop p ks) → all ≡ [] → AreClosures (all ++ take p ks)
put_front k ks all p kept none = subst (λ xs. AreClosures (xs ++ take p ks)) (sym none) (closures_front (take p ks) (k ∷ drop p ks) kept)

pub put_middle : (k : Closure) (ks all : List Closure) (p : ℕ) → AreClosures (take p ks ++ k ∷ drop p ks) → all ≡ take p ks → (length all < CLOSURES) × IsClosure k × All (λ other. other.to ≤ k.from) all
put_middle k ks all p kept is = closures_at all k (drop p ks) (subst (λ xs. AreClosures (xs ++ k ∷ drop p ks)) (sym is) kept)

pub put_back : (k : Closure) (ks all rest : List Closure) (p : ℕ) → AreClosures (take p ks ++ k ∷ drop p ks) → all ≡ take p ks ++ k ∷ [] → rest ≡ drop p ks → AreClosures (all ++ rest)
put_back k ks all rest p kept is back =
    let whole : all ++ rest ≡ take p ks ++ k ∷ drop p ks = ap (λ xs. xs ++ rest) is ∙ append_assoc (take p ks) (k ∷ []) rest ∙ ap (λ xs. take p ks ++ k ∷ xs) back in
    subst AreClosures (sym whole) kept
