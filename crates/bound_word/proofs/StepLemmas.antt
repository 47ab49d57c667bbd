-- Each step keeps the rule.
use Rattle.std.proofs.Common.{ℕ, zero, suc, ◌≡◌, ◌≢◌, ◌+◌, ◌-◌, ◌<◌, ◌≤◌, ◌⊎◌, min, List, [], ◌∷◌, ◌++◌, set, slice_set, slice_index, refl, ap, sym, ◌∙◌, subst, inl, inr, ⊎_elim, arith}
use mathlib.Core.Option.{some, none}
use lib.ListN.{get_elem?}
use Rattle.atomic_table.specs.Table.{State, Me, step, keeps, Allows, Splits, Joins, Final, Seen}
use Rattle.atomic_table.proofs.Lists.{at_set, at_snoc, set_else}
use Rattle.bound_word.specs.declared.view.View.{View}
use Rattle.bound_word.specs.declared.view.Opening.{Opening}
use Rattle.bound_word.specs.Views.{least, spent_view, after_split, split_off, joined}
use Rattle.bound_word.specs.Rule.{least_posted, IsLive, KeepsViews}
use Rattle.bound_word.specs.Steps.{FindsOwn, Loads, Lowers, Counts}
use Rattle.bound_word.proofs.RowLemmas.{least-append, least_posted-le, member, meet_set, set_at, parts_set, parts_member, least_snoc, parts_snoc, IdleIsEmpty, alone}

-- a view with a part isn't spent
pub live : (o : Opening) (word : ℕ) (v : View) → 0 < v.parts → IsLive o word v ⊎ (v ≡ spent_view) → IsLive o word v
live o word v some_part (inl l) = l
live o word v some_part (inr e) = absurd (omega (arith, ap (λ (u : View). u.parts) e))

pub lowered : (o : Opening) (n m : ℕ) (v : View) → n ≤ m → IsLive o m v ⊎ (v ≡ spent_view) → IsLive o n v ⊎ (v ≡ spent_view)
lowered o n m v le (inl l) = inl record { some_part = l.some_part; seen = omega (arith, l.seen); opening = l.opening; whole = l.whole }
lowered o n m v le (inr e) = inr e

pub empties : (o : Opening) (s : State ℕ View) → KeepsViews o s → IdleIsEmpty s.views
empties o s kept j v at idle_v = ⊎_elim (λ (l : IsLive o (least_posted o.number s.views) v). absurd (omega (arith, l.some_part))) (λ (e : v ≡ spent_view). ap (λ (u : View). u.posted) e) (kept.each j v at)

-- a view with all parts is of a seat that finds the least of what it posted
pub finds_own : (o : Opening) (s : State ℕ View) (id : ℕ) (v : View) (n : ℕ) → KeepsViews o s → get_elem? s.views id ≡ some v → IsLive o (least_posted o.number s.views) v → n ≡ least_posted o.number s.views → FindsOwn v n
finds_own o s id v n kept at old word all = word ∙ alone o.number s.views id v at (empties o s kept) (omega (arith, all, old.whole, kept.parts)) ∙ ap (λ (k : ℕ). least k v.posted) (sym old.opening)

-- one view changes, and the word with it
pub renewed : (o : Opening) (s : State ℕ View) (id : ℕ) (v w : View) (n : ℕ) → KeepsViews o s → get_elem? s.views id ≡ some v → n ≡ least_posted o.number (set s.views id w) → n ≤ least_posted o.number s.views → w.parts ≡ v.parts
    → IsLive o n w → KeepsViews o record { words = slice_set s.words 0 n; homes = s.homes; views = set s.views id w }
renewed o s id v w n kept at is less same mine = record {
  word = ap (λ ws. slice_set ws 0 n) kept.word ∙ ap (λ (k : ℕ). k ∷ []) is;
  parts = omega (arith, parts_set s.views id v w at, kept.parts);
  each = λ j u at'. subst (λ (k : ℕ). IsLive o k u ⊎ (u ≡ spent_view)) is
      (⊎_elim (λ (t : (j ≡ id) × (w ≡ u)). inl (subst (IsLive o n) t.1 mine)) (λ (t : (j ≢ id) × (get_elem? s.views j ≡ some u)). lowered o n (least_posted o.number s.views) u less (kept.each j u t.1)) (at_set s.views id j w u at'));
}

pub loads : (o : Opening) (slots id : ℕ) (v : Me ℕ View) → 0 < v.0.parts → Allows (KeepsViews o) slots id v 0 (λ n. n) (Loads (step slots 0 0 0 none) v)
loads o slots id v some_part s kept len at fits =
    let n : ℕ = slice_index s.words 0 in
    let m : ℕ = least_posted o.number s.views in
    let word : n ≡ m = ap (λ ws. slice_index ws 0) kept.word in
    let old = live o m v.0 some_part (kept.each id v.0 at) in
    let w : View = record { seen = n; posted = v.0.posted; parts = v.0.parts; opening = v.0.opening; whole = v.0.whole } in
    let own = member o.number s.views id v.0 at in
    let own' = member o.number (set s.views id w) id w (set_at s.views id v.0 w at) in
    let is : n ≡ least_posted o.number (set s.views id w) = omega (arith, word, own, own', meet_set o.number s.views id v.0 w at) in (
      w,
      keeps,
      tt,
      renewed o s id v.0 w n kept at is (omega (arith, word)) refl record { some_part = some_part; seen = omega arith; opening = old.opening; whole = old.whole },
      (omega (arith, old.seen, word), subst (λ (k : ℕ). n ≤ least k v.0.posted) (sym old.opening) (omega (arith, own, word)), finds_own o s id v.0 n kept at old word, refl),
    )

pub counts : (o : Opening) (slots id : ℕ) (v : Me ℕ View) → 0 < v.0.parts → Allows (KeepsViews o) slots id v 0 (λ n. n) (Counts (step slots 0 0 0 none) v)
counts o slots id v some_part s kept len at fits =
    let n : ℕ = slice_index s.words 0 in
    let m : ℕ = least_posted o.number s.views in
    let word : n ≡ m = ap (λ ws. slice_index ws 0) kept.word in
    let old = live o m v.0 some_part (kept.each id v.0 at) in
    let own = member o.number s.views id v.0 at in
    let own' = member o.number (set s.views id v.0) id v.0 (set_at s.views id v.0 v.0 at) in
    let is : n ≡ least_posted o.number (set s.views id v.0) = omega (arith, word, own, own', meet_set o.number s.views id v.0 v.0 at) in (
      v.0,
      keeps,
      tt,
      renewed o s id v.0 v.0 n kept at is (omega (arith, word)) refl record { some_part = some_part; seen = omega (arith, word, old.seen); opening = old.opening; whole = old.whole },
      (omega (arith, old.whole, kept.parts, parts_member s.views id v.0 at), refl),
    )

pub lowers : (o : Opening) (slots id : ℕ) (v : Me ℕ View) (cost : ℕ) → 0 < v.0.parts → Allows (KeepsViews o) slots id v 0 (λ n. min n cost) (Lowers (step slots 0 cost 0 none) v)
lowers o slots id v cost some_part s kept len at fits =
    let n : ℕ = slice_index s.words 0 in
    let m : ℕ = least_posted o.number s.views in
    let word : n ≡ m = ap (λ ws. slice_index ws 0) kept.word in
    let old = live o m v.0 some_part (kept.each id v.0 at) in
    let w : View = record { seen = min n cost; posted = v.0.posted ++ cost ∷ []; parts = v.0.parts; opening = v.0.opening; whole = v.0.whole } in
    let own = member o.number s.views id v.0 at in
    let own' = member o.number (set s.views id w) id w (set_at s.views id v.0 w at) in
    let more : least o.number w.posted ≡ min (least o.number v.0.posted) (min cost o.number) = least-append o.number v.0.posted (cost ∷ []) in
    let below = least_posted-le o.number s.views in
    let is : min n cost ≡ least_posted o.number (set s.views id w) = omega (arith, word, own, own', more, below, meet_set o.number s.views id v.0 w at) in (
      w,
      keeps,
      tt,
      renewed o s id v.0 w (min n cost) kept at is (omega (arith, word)) refl record { some_part = some_part; seen = omega arith; opening = old.opening; whole = old.whole },
      (omega (arith, old.seen, word), subst (λ (k : ℕ). n ≤ least k v.0.posted) (sym old.opening) (omega (arith, own, word)), finds_own o s id v.0 n kept at old word, refl),
    )

pub splits : (o : Opening) (id : ℕ) (v : View) → 1 < v.parts → Splits (KeepsViews o) id v (after_split v) (split_off v)
splits o id v two s kept at =
    let m : ℕ = least_posted o.number s.views in
    let old = live o m v (omega arith) (kept.each id v at) in
    let own = member o.number s.views id v at in
    let own' = member o.number (set s.views id (after_split v)) id (after_split v) (set_at s.views id v (after_split v) at) in
    let all : least_posted o.number (set s.views id (after_split v) ++ split_off v ∷ []) ≡ m =
    omega (arith, own, own', least_posted-le o.number s.views, meet_set o.number s.views id v (after_split v) at, least_snoc o.number (set s.views id (after_split v)) (split_off v)) in
    record {
      word = kept.word ∙ ap (λ (k : ℕ). k ∷ []) (sym all);
      parts = omega (arith, parts_set s.views id v (after_split v) at, parts_snoc (set s.views id (after_split v)) (split_off v), kept.parts);
      each = λ j u at'. subst (λ (k : ℕ). IsLive o k u ⊎ (u ≡ spent_view)) (sym all)
          (⊎_elim (λ (there : get_elem? (set s.views id (after_split v)) j ≡ some u).
          ⊎_elim (λ (t : (j ≡ id) × (after_split v ≡ u)). inl (subst (IsLive o m) t.1 record { some_part = omega arith; seen = old.seen; opening = old.opening; whole = old.whole })) (λ (t : (j ≢ id) × (get_elem? s.views j ≡ some u)). kept.each j u t.1)
          (at_set s.views id j (after_split v) u there))
          (λ (e : split_off v ≡ u). inl (subst (IsLive o m) e record { some_part = omega arith; seen = old.seen; opening = old.opening; whole = old.whole }))
          (at_snoc (set s.views id (after_split v)) (split_off v) u j at'));
    }

pub joins : (o : Opening) (id : ℕ) (v : View) (other : ℕ) (w : View) → 0 < v.parts → 0 < w.parts → Joins (KeepsViews o) id v other w (joined v w) spent_view
joins o id v other w some_v some_w s kept at apart at_w =
    let n : ℕ = o.number in
    let m : ℕ = least_posted n s.views in
    let b : View = joined v w in
    let vs : List View = set s.views id b in
    let ws : List View = set vs other spent_view in
    let was : get_elem? s.views other ≡ some w = ⊎_elim (λ (t : (other ≡ id) × (b ≡ w)). absurd (apart t.0)) (λ (t : (other ≢ id) × (get_elem? s.views other ≡ some w)). t.1) (at_set s.views id other b w at_w) in
    let one = live o m v some_v (kept.each id v at) in
    let two = live o m w some_w (kept.each other w was) in
    let own_v = member n s.views id v at in
    let own_w = member n s.views other w was in
    let low : least n b.posted ≡ min (least n v.posted) (least n w.posted) = least-append n v.posted w.posted in
    let at_b : get_elem? vs id ≡ some b = set_at s.views id v b at in
    let still : get_elem? ws id ≡ some b = set_else vs other id spent_view (λ e. apart (sym e)) ∙ at_b in
    let first : least_posted n vs ≡ m = omega (arith, own_v, own_w, low, member n vs id b at_b, meet_set n s.views id v b at) in
    let all : least_posted n ws ≡ m = omega (arith, own_v, own_w, low, first, least_posted-le n vs, member n ws id b still, meet_set n vs other w spent_view at_w) in
    record {
      word = kept.word ∙ ap (λ (k : ℕ). k ∷ []) (sym all);
      parts = omega (arith, parts_set s.views id v b at, parts_set vs other w spent_view at_w, kept.parts);
      each = λ j u at'. subst (λ (k : ℕ). IsLive o k u ⊎ (u ≡ spent_view)) (sym all)
          (⊎_elim (λ (t : (j ≡ other) × (spent_view ≡ u)). inr (sym t.1))
          (λ (t : (j ≢ other) × (get_elem? vs j ≡ some u)).
          ⊎_elim (λ (r : (j ≡ id) × (b ≡ u)). inl (subst (IsLive o m) r.1 record { some_part = omega arith; seen = omega (arith, one.seen, two.seen); opening = one.opening; whole = one.whole })) (λ (r : (j ≢ id) × (get_elem? s.views j ≡ some u)). kept.each j u r.1)
          (at_set s.views id j b u t.1))
          (at_set vs other j spent_view u at'));
    }

-- a view with all parts knows the word
pub closes : (o : Opening) (id : ℕ) (v : View) (ws : List ℕ) (xs : List ℕ) → v.parts ≡ o.parts → Final (Seen (KeepsViews o) id v) ws xs → ws ≡ least o.number v.posted ∷ []
closes o id v ws xs all final =
    let s = final.0 in
    let kept = final.1.0 in
    sym final.2 ∙ kept.word ∙ ap (λ (k : ℕ). k ∷ []) (alone o.number s.views id v final.1.1 (empties o s kept) (omega (arith, all, kept.parts)))
