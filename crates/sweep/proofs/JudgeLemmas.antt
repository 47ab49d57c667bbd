-- One chamber more, as a plan is judged.
use Rattle.std.proofs.Common.{◌≡◌, ◌≢◌, ℕ, zero, suc, ◌+◌, ◌<◌, ◌≤◌, inl, inr, List, [], ◌∷◌, length, All, Vec, Ok, Err, IfOk, refl, sym, ap, ◌∙◌, subst, arith, slice_index_or}
use Rattle.std.specs.Result.{IsErr}
use Rattle.std.specs.declared.result.Result.{Result}
use Rattle.std.proofs.lemmas.Bool.{false≢true}
use Rattle.std.proofs.lemmas.Bool.Decides.{eqb_tells}
use Rattle.std.proofs.lemmas.List.{get_or-map}
use Rattle.lock_model.specs.declared.group.Group.{Group}
use Rattle.lock_rules.specs.Bound.{line_flow}
use Rattle.price_rules.specs.Prices.{IsUncut}
use Rattle.price_groups.specs.Asks.{LineAsk}
use Rattle.price_groups.specs.declared.line_case.LineCase.{LineCase}
use Rattle.price_groups.specs.Sparing.{IsSpared, AreForbidden}
use Rattle.price_terms.specs.Cuts.{plain_cuts}
use Rattle.sweep.specs.declared.asked.SweepAsked.{SweepAsked}
use Rattle.sweep.specs.Ends.{IsCase}
use Rattle.sweep.specs.Judging.{lines_in, IsOwnGroup, AreUncutLines, IsUncutLine}
use Rattle.sweep.proofs.BoundLemmas.{sum_more}

-- the item at a place, whatever the default
pub same-at : {X : Type 0} (xs : List X) (k : ℕ) (d e : X) → k < length xs → slice_index_or xs k d ≡ slice_index_or xs k e
same-at [] k d e within = absurd (omega (arith, within))
same-at (x ∷ xs) zero d e within = refl
same-at (x ∷ xs) (suc k) d e within = same-at xs k d e (omega (arith, within))

-- what holds of the first items of a list, and of one more
module _ {X : Type 0} (P : X → Type 0) (xs : List X) (d : X) (n : ℕ) (each : (k : ℕ) → k < n → P (slice_index_or xs k d)) where
  pub each_more : P (slice_index_or xs n d) → (k : ℕ) → k < n + 1 → P (slice_index_or xs k d)
  each_more own k less = elim (eqb_tells k n) [
    | inl y ↦ subst (λ k. P (slice_index_or xs k d)) (sym y.1) own
    | inr m ↦ each k (omega (arith, less, m.1))
  ]

  pub each_all : length xs ≤ n → All P xs
  each_all end = λ k e within. subst P (same-at xs k d e within) (each k (omega (arith, end, within)))

-- what follows from what is told of a value
pub value_more : {T E : Type 0} (P Q : T → Type 0) (r : Result T E) → ((x : T) → P x → Q x) → IfOk r P → IfOk r Q
value_more P Q (Ok x) more p = more x p
value_more P Q (Err e) more p = tt

-- nothing is told of a value where there is an error
pub no_value : {T E : Type 0} (P : T → Type 0) (r : Result T E) → IsErr r → IfOk r P
no_value P (Ok x) err = absurd (false≢true err)
no_value P (Err e) err = tt

-- the line of a chamber is the one that is read
pub line-read : {Z : Type 0} (lines : List (Vec Group Z)) (c : ℕ) (line : Vec Group Z) → c < length lines → line ≡ slice_index_or lines c line → lines_in lines c ≡ line.items
line-read lines c line within is = get_or-map (λ line. line.items) lines c line [] within ∙ ap (λ line. line.items) (sym is)

-- own groups of a case that its cuts spare are uncut
pub own-uncut : (asked : SweepAsked) (c : ℕ) (case : LineCase) (sets : List (List ℕ)) (line : List Group) → IsCase asked c case
    → AreForbidden case.instance.now case.index (plain_cuts case.instance.now case.cuts.now) sets
    → All (IsOwnGroup asked.instance.now c) line → All (IsSpared sets) line → All (IsUncut asked.instance.now c (plain_cuts asked.instance.now asked.cuts.now)) line
own-uncut asked c case sets line is forbid own spared = λ k d within.
    let I = asked.instance.now in
    let forbidden : AreForbidden I c (plain_cuts I asked.cuts.now) sets = subst (λ (ask : LineAsk). AreForbidden ask.instance ask.chamber ask.cuts sets) is.is forbid in
    let g = own k d within in
    record {
      good = g.good;
      known = g.known;
      spared = forbidden.spared (slice_index_or line k d).ships g.known (spared k d within).missed;
    }

-- the lines of one chamber more
pub lines-more : (asked : SweepAsked) (lines : ℕ → List Group) (n flow own all : ℕ) (line : List Group) → lines n ≡ line → AreUncutLines asked lines n flow → IsUncutLine asked n line own
    → all ≡ flow + own → AreUncutLines asked lines (n + 1) all
lines-more asked lines n flow own all line here are is more = record {
  each = λ c less. elim (eqb_tells c n) [
    | inl y ↦ subst (λ d. All (IsUncut asked.instance.now d (plain_cuts asked.instance.now asked.cuts.now)) (lines d)) (sym y.1)
        (subst (All (IsUncut asked.instance.now n (plain_cuts asked.instance.now asked.cuts.now))) (sym here) is.uncut)
    | inr m ↦ are.each c (before c m.1 less)
  ];
  sum = sum_more (λ c. line_flow asked.instance.now c (lines c)) n flow all are.sum (omega (arith, more, is.sum, ap (line_flow asked.instance.now n) here));
}
  where
    before : (c : ℕ) → c ≢ n → c < n + 1 → c < n
    before c other less = omega arith
