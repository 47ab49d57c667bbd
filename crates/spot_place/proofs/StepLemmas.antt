-- A kept spot case with one option more, and without its last.
use Rattle.std.proofs.Common.{◌≡◌, ℕ, zero, suc, ◌+◌, ◌<◌, ◌≤◌, List, [], ◌∷◌, ◌++◌, length, take, inl, inr, refl, sym, ap, ◌∙◌, subst, arith}
use Rattle.std.proofs.lemmas.Bool.Decides.{eqb_tells}
use Rattle.std.proofs.lemmas.List.{take-append-le, take-take, length-take-le}
use Rattle.std.proofs.Math.Seq.{take-append_seam}
use Rattle.lock_model.specs.Deck.{Deck}
use Rattle.refute_rules.specs.declared.choices.Choice.{Choice}
use Rattle.refute_rules.specs.declared.choices.Choice.TheVariants.{Lies, LiesAt}
use Rattle.refute_rules.specs.SpotFaults.{IsFaultless}
use Rattle.refute_rules.specs.Spots.{IsListed}
use Rattle.refute_rules.specs.declared.choices.Berth.{Berth}
use Rattle.spot_place.specs.OnWay.{case_from, case_of}

length-from : (k : ℕ) (ms : List Berth) (xs : List ℕ) → length xs ≤ length ms → length (case_from k ms xs) ≡ length ms + length xs
length-from k [] [] h = refl
length-from k [] (x ∷ xs) h = absurd (omega (arith, h))
length-from k (m ∷ ms) [] h = let rest = length-from (suc k) ms [] (omega arith) in omega (arith, rest)
length-from k (m ∷ ms) (x ∷ xs) h = let rest = length-from (suc k) ms xs (omega (arith, h)) in omega (arith, rest)

pub case-length : (ms : List Berth) (xs : List ℕ) → length xs ≤ length ms → length (case_of ms xs) ≡ length ms + length xs
case-length ms xs h = length-from 0 ms xs h

-- ---- one option more

push-berth_from : (k i : ℕ) (ms : List Berth) (xs : List ℕ) (m : Berth) → length ms ≡ length xs → i ≡ k + length ms → case_from k (ms ++ m ∷ []) xs ≡ case_from k ms xs ++ Lies i m ∷ []
push-berth_from k i [] [] m h e = let same : k ≡ i = omega (arith, e) in ap (λ j. Lies j m ∷ []) same
push-berth_from k i [] (x ∷ xs) m h e = absurd (omega (arith, h))
push-berth_from k i (n ∷ ms) [] m h e = absurd (omega (arith, h))
push-berth_from k i (n ∷ ms) (x ∷ xs) m h e = ap (λ cs. Lies k n ∷ LiesAt k x ∷ cs) (push-berth_from (suc k) i ms xs m (omega (arith, h)) (omega (arith, e)))

push-place_from : (k i : ℕ) (ms : List Berth) (xs : List ℕ) (x : ℕ) → length ms ≡ suc (length xs) → i ≡ k + length xs → case_from k ms (xs ++ x ∷ []) ≡ case_from k ms xs ++ LiesAt i x ∷ []
push-place_from k i [] xs x h e = absurd (omega (arith, h))
push-place_from k i (n ∷ []) [] x h e = let same : k ≡ i = omega (arith, e) in ap (λ j. Lies k n ∷ LiesAt j x ∷ []) same
push-place_from k i (n ∷ m ∷ ms) [] x h e = absurd (omega (arith, h))
push-place_from k i (n ∷ ms) (y ∷ xs) x h e = ap (λ cs. Lies k n ∷ LiesAt k y ∷ cs) (push-place_from (suc k) i ms xs x (omega (arith, h)) (omega (arith, e)))

pub push-berth : (ms : List Berth) (xs : List ℕ) (m : Berth) → length ms ≡ length xs → case_of (ms ++ m ∷ []) xs ≡ case_of ms xs ++ Lies (length ms) m ∷ []
push-berth ms xs m h = push-berth_from 0 (length ms) ms xs m h (omega arith)

pub push-place : (ms : List Berth) (xs : List ℕ) (x : ℕ) → length ms ≡ suc (length xs) → case_of ms (xs ++ x ∷ []) ≡ case_of ms xs ++ LiesAt (length xs) x ∷ []
push-place ms xs x h = push-place_from 0 (length xs) ms xs x h (omega arith)

-- ---- one option less

pop-berth_from : (k n t : ℕ) (ms : List Berth) (xs : List ℕ) → length ms ≡ suc n → length xs ≡ n → t ≡ n + n → case_from k (take n ms) xs ≡ take t (case_from k ms xs)
pop-berth_from k zero zero ms [] h l e = refl
pop-berth_from k zero zero ms (x ∷ xs) h l e = absurd (omega (arith, l))
pop-berth_from k zero (suc t) ms xs h l e = absurd (omega (arith, e))
pop-berth_from k (suc n) t [] xs h l e = absurd (omega (arith, h))
pop-berth_from k (suc n) t (m ∷ ms) [] h l e = absurd (omega (arith, l))
pop-berth_from k (suc n) zero (m ∷ ms) (x ∷ xs) h l e = absurd (omega (arith, e))
pop-berth_from k (suc n) (suc zero) (m ∷ ms) (x ∷ xs) h l e = absurd (omega (arith, e))
pop-berth_from k (suc n) (suc (suc t)) (m ∷ ms) (x ∷ xs) h l e = ap (λ cs. Lies k m ∷ LiesAt k x ∷ cs) (pop-berth_from (suc k) n t ms xs (omega (arith, h)) (omega (arith, l)) (omega (arith, e)))

pop-place_from : (k n t : ℕ) (ms : List Berth) (xs : List ℕ) → length ms ≡ suc n → length xs ≡ suc n → t ≡ suc (n + n) → case_from k ms (take n xs) ≡ take t (case_from k ms xs)
pop-place_from k n t [] xs h l e = absurd (omega (arith, h))
pop-place_from k n t (m ∷ ms) [] h l e = absurd (omega (arith, l))
pop-place_from k n zero (m ∷ ms) (x ∷ xs) h l e = absurd (omega (arith, e))
pop-place_from k zero (suc zero) (m ∷ []) (x ∷ xs) h l e = refl
pop-place_from k zero (suc zero) (m ∷ n ∷ ms) (x ∷ xs) h l e = absurd (omega (arith, h))
pop-place_from k zero (suc (suc t)) (m ∷ ms) (x ∷ xs) h l e = absurd (omega (arith, e))
pop-place_from k (suc n) (suc zero) (m ∷ ms) (x ∷ xs) h l e = absurd (omega (arith, e))
pop-place_from k (suc n) (suc (suc t)) (m ∷ ms) (x ∷ xs) h l e = ap (λ cs. Lies k m ∷ LiesAt k x ∷ cs) (pop-place_from (suc k) n t ms xs (omega (arith, h)) (omega (arith, l)) (omega (arith, e)))

pub pop-berth : (n : ℕ) (ms : List Berth) (xs : List ℕ) → length ms ≡ suc n → length xs ≡ n → case_of (take n ms) xs ≡ take (n + n) (case_of ms xs)
pop-berth n ms xs h l = pop-berth_from 0 n (n + n) ms xs h l refl

pub pop-place : (n : ℕ) (ms : List Berth) (xs : List ℕ) → length ms ≡ suc n → length xs ≡ suc n → case_of ms (take n xs) ≡ take (suc (n + n)) (case_of ms xs)
pop-place n ms xs h l = pop-place_from 0 n (suc (n + n)) ms xs h l refl

-- what is before the last option
pub before-last : (case before shorter : List Choice) (last : Choice) (t : ℕ) → case ≡ before ++ last ∷ [] → length case ≡ suc t → shorter ≡ take t case → shorter ≡ before
before-last case before shorter last t e long is =
    let count : length case ≡ suc (length before) = ap length e ∙ length-push before in
    let t-is : t ≡ length before = omega (arith, count, long) in
    is ∙ ap (take t) e ∙ ap (λ n. take n (before ++ last ∷ [])) t-is ∙ take-append_seam before (last ∷ [])
  where
    length-push : (cs : List Choice) → length (cs ++ last ∷ []) ≡ suc (length cs)
    length-push [] = refl
    length-push (c ∷ cs) = ap suc (length-push cs)

-- ---- listed cases

pub listed-more : (d : Deck) (case : List Choice) (last : Choice) → IsListed d case → IsFaultless d case → IsListed d (case ++ last ∷ [])
listed-more d case last listed good k h =
    let count = length-push case in
    elim (eqb_tells k (length case)) [
      | inl y ↦ subst (IsFaultless d) (sym (ap (λ n. take n (case ++ last ∷ [])) y.1 ∙ take-append_seam case (last ∷ []))) good
      | inr n ↦ let less : k < length case = omega (arith, h, count, n.1) in subst (IsFaultless d) (sym (take-append-le k case (last ∷ []) (omega (arith, less)))) (listed k less)
    ]
  where
    length-push : (cs : List Choice) → length (cs ++ last ∷ []) ≡ suc (length cs)
    length-push [] = refl
    length-push (c ∷ cs) = ap suc (length-push cs)

pub listed-less : (d : Deck) (case : List Choice) (t : ℕ) → t ≤ length case → IsListed d case → IsListed d (take t case)
listed-less d case t few listed k h =
    let count = length-take-le t case few in
    let less : k < t = omega (arith, h, count) in
    subst (IsFaultless d) (sym (take-take k t case (omega (arith, less)))) (listed k (omega (arith, less, few)))
