-- Taking those that are left one after the other.
use Rattle.std.proofs.Common.{◌≡◌, ℕ, zero, suc, ◌<◌, ◌≤◌, Bool, true, false, ◌||◌, List, [], ◌∷◌, ◌++◌, length, get_or, cond, All, ◌⊎◌, inl, inr, refl, ap, sym, subst, ◌∙◌, arith, true≢false}
use Rattle.std.proofs.lemmas.Bool.{or_left, or_right, lt-ltb}
use Rattle.std.proofs.lemmas.Bool.Decides.{leb_tells}
use Rattle.std.proofs.lemmas.List.{get_or_default, append_assoc}
use Rattle.std.proofs.lemmas.List.Edits.{length-remove}
use Rattle.std.proofs.lemmas.List.Elements.{All-head, All-tail, All-cons}
use Rattle.std.specs.List.{remove}
use Rattle.list_laws.specs.Among.{IsAmong}
use Rattle.list_laws.proofs.Distinct.{among-or_not}
use Rattle.lock_model.specs.declared.instance.Instance.{Instance}
use Rattle.lock_model.specs.declared.plan.Lockage.{Lockage}
use Rattle.day_play.specs.Order.{IsOrdered}
use Rattle.day_play.specs.ComingIn.{Respects, comes_after, after_any, first_ready, next_of, in_turn}
use Rattle.day_play.proofs.OrderLemmas.{ordered-above}

-- all of these stand in that list
abbrev pub AreAmong : List ℕ → List ℕ → Type 0
AreAmong all ks = (k : ℕ) → IsAmong ks k → IsAmong all k

-- the element at an index, and what is left without it
pub among-at : (ks : List ℕ) (i : ℕ) → i < length ks → IsAmong ks (get_or ks i 0)
among-at [] i within = absurd (omega (arith, within))
among-at (k ∷ ks) zero within = inl refl
among-at (k ∷ ks) (suc i) within = inr (among-at ks i (omega (arith, within)))

among-left : (ks : List ℕ) (i : ℕ) → AreAmong ks (remove ks i)
among-left [] zero j h = h
among-left [] (suc i) j h = h
among-left (k ∷ ks) zero j h = inr h
among-left (k ∷ ks) (suc i) j (inl here) = inl here
among-left (k ∷ ks) (suc i) j (inr h) = inr (among-left ks i j h)

among-at_or_left : (ks : List ℕ) (i j : ℕ) → i < length ks → IsAmong ks j → (get_or ks i 0 ≡ j) ⊎ IsAmong (remove ks i) j
among-at_or_left [] i j within h = absurd h
among-at_or_left (k ∷ ks) zero j within (inl here) = inl here
among-at_or_left (k ∷ ks) zero j within (inr h) = inr h
among-at_or_left (k ∷ ks) (suc i) j within (inl here) = inr (inl here)
among-at_or_left (k ∷ ks) (suc i) j within (inr h) =
    elim (among-at_or_left ks i j (omega (arith, within)) h) [
      | inl at ↦ inl at
      | inr left ↦ inr (inr left)
    ]

pub remove-all : (P : ℕ → Type 0) (ks : List ℕ) (i : ℕ) → All P ks → All P (remove ks i)
remove-all P [] zero all = all
remove-all P [] (suc i) all = all
remove-all P (k ∷ ks) zero all = All-tail P k ks all
remove-all P (k ∷ ks) (suc i) all = All-cons P k (remove ks i) (All-head P k ks all) (remove-all P ks i (All-tail P k ks all))

-- orders that respect a relation
pub respects-weaker : (F G : ℕ → ℕ → Type 0) → ((k j : ℕ) → F k j → G k j) → (ks : List ℕ) → Respects G ks → Respects F ks
respects-weaker F G weaker [] kept = tt
respects-weaker F G weaker (k ∷ ks) kept = (λ j among h. kept.0 j among (weaker k j h), respects-weaker F G weaker ks kept.1)

pub respects-either : (F G H : ℕ → ℕ → Type 0) → ((k j : ℕ) → H k j → F k j ⊎ G k j) → (ks : List ℕ) → Respects F ks → Respects G ks → Respects H ks
respects-either F G H either [] first second = tt
respects-either F G H either (k ∷ ks) first second = (
  λ j among h. elim (either k j h) [ inl f ↦ first.0 j among f | inr g ↦ second.0 j among g ],
  respects-either F G H either ks first.1 second.1,
)

pub respects-ordered : (After : ℕ → ℕ → Type 0) (key : ℕ → ℕ) (low : ℕ) (ks : List ℕ) → IsOrdered key low ks → ((k j : ℕ) → IsAmong ks k → IsAmong ks j → After k j → key j < key k) → Respects After ks
respects-ordered After key low [] order less = tt
respects-ordered After key low (k ∷ ks) order less = (
  λ j among h. omega (arith, less k j (inl refl) among h, ordered-above key (key k) (k ∷ ks) j (omega arith, order.1) among),
  respects-ordered After key (key k) ks order.1 (λ i j first second h. less i j (inr first) (inr second) h),
)

module _ (after : ℕ → ℕ → Bool) where
  abbrev pub After : ℕ → ℕ → Type 0
  After k j = after k j ≡ true

  any-some : (k : ℕ) (js : List ℕ) → after_any after k js ≡ true → (j : ℕ) × IsAmong js j × After k j
  any-some k [] h = absurd (true≢false (sym h))
  any-some k (j ∷ js) h =
      elim (after k j) as (λ b. after k j ≡ b → (b || after_any after k js) ≡ true → (i : ℕ) × IsAmong (j ∷ js) i × After k i) [
        | true ↦ λ e h. (j, inl refl, e)
        | false ↦ λ e h. let later = any-some k js h in (later.0, inr later.1, later.2)
      ] refl h

  any-among : (k : ℕ) (js : List ℕ) (j : ℕ) → IsAmong js j → After k j → after_any after k js ≡ true
  any-among k [] j among h = absurd among
  any-among k (i ∷ js) j (inl here) h = or_left (after k i) (after_any after k js) (subst (After k) (sym here) h)
  any-among k (i ∷ js) j (inr among) h = or_right (after k i) (after_any after k js) (any-among k js j among h)

  -- who has to come after none of these comes after no one of them
  none-among : (k : ℕ) (js : List ℕ) → after_any after k js ≡ false → (j : ℕ) → IsAmong js j → After k j → ⊥
  none-among k js none j among h = true≢false (sym (any-among k js j among h) ∙ none)

  ready-at : (js ks : List ℕ) → first_ready after js ks < length ks → after_any after (get_or ks (first_ready after js ks) 0) js ≡ false
  ready-at js [] within = absurd (omega (arith, within))
  ready-at js (k ∷ ks) within =
      elim (after_any after k js) as (λ b. after_any after k js ≡ b → cond b (suc (first_ready after js ks)) 0 < suc (length ks)
      → after_any after (get_or (k ∷ ks) (cond b (suc (first_ready after js ks)) 0) 0) js ≡ false) [
        | true ↦ λ e within. ready-at js ks (omega (arith, within))
        | false ↦ λ e within. e
      ] refl within

  ready-or_stuck : (js ks : List ℕ) → (first_ready after js ks < length ks) ⊎ ((k : ℕ) → IsAmong ks k → after_any after k js ≡ true)
  ready-or_stuck js [] = inr (λ k among. absurd among)
  ready-or_stuck js (i ∷ ks) =
      elim (after_any after i js) as (λ b. after_any after i js ≡ b → (cond b (suc (first_ready after js ks)) 0 < suc (length ks)) ⊎ ((k : ℕ) → IsAmong (i ∷ ks) k → after_any after k js ≡ true)) [
        | false ↦ λ e. inl (omega arith)
        | true ↦ λ e. elim (ready-or_stuck js ks) [
          | inl within ↦ inl (omega (arith, within))
          | inr stuck ↦ inr (λ k among. elim among [ inl here ↦ subst (λ k. after_any after k js ≡ true) here e | inr later ↦ stuck k later ])
        ]
      ] refl

  -- not each of some can have to come after another of them, where an order of all respects that
  not-stuck : (all ks : List ℕ) → 1 ≤ length ks → Respects After all → AreAmong all ks → ((k : ℕ) → IsAmong ks k → after_any after k ks ≡ true) → ⊥
  not-stuck [] ks some kept known stuck = known (get_or ks 0 0) (among-at ks 0 some)
  not-stuck (a ∷ all) ks some kept known stuck =
      elim (among-or_not ks a) [
        | inl here ↦ let other = any-some a ks (stuck a here) in kept.0 other.0 (known other.0 other.1) other.2
        | inr absent ↦ not-stuck all ks some kept.1 (λ k among. elim (known k among) [ inl first ↦ absurd (absent (subst (IsAmong ks) (sym first) among)) | inr later ↦ later ]) stuck
      ]

  -- ONE IS READY, where an order of all respects who has to come after whom
  one-ready : (all ks : List ℕ) → 1 ≤ length ks → Respects After all → AreAmong all ks → first_ready after ks ks < length ks
  one-ready all ks some kept known =
      elim (ready-or_stuck ks ks) [
        | inl within ↦ within
        | inr stuck ↦ absurd (not-stuck all ks some kept known stuck)
      ]

module _ (I : Instance) (l : Lockage) where
  pub next-within : (ks : List ℕ) → 1 ≤ length ks → next_of I l ks < length ks
  next-within ks some =
      let ready = first_ready (comes_after I l) ks ks in
      elim (leb_tells (suc ready) (length ks)) [
        | inl less ↦ subst (λ b. cond b ready 0 < length ks) (sym less.0) less.1
        | inr none ↦ subst (λ b. cond b ready 0 < length ks) (sym none.0) some
      ]

  next-ready : (ks : List ℕ) → first_ready (comes_after I l) ks ks < length ks → next_of I l ks ≡ first_ready (comes_after I l) ks ks
  next-ready ks within = ap (λ b. cond b (first_ready (comes_after I l) ks ks) 0) (lt-ltb (first_ready (comes_after I l) ks ks) (length ks) within)

  pub left-long : (n : ℕ) (ks : List ℕ) → length ks ≡ suc n → length (remove ks (next_of I l ks)) ≡ n
  left-long n ks count = omega (arith, count, length-remove ks (next_of I l ks) (next-within ks (omega (arith, count))))

  -- one more is taken: k, at index `next` of the old rest
  pub next-taken : (order rest : List ℕ) (next k : ℕ) (left : List ℕ) → next ≡ next_of I l rest → next < length rest → k ≡ get_or rest next k → left ≡ remove rest next
      → (order ++ k ∷ []) ++ in_turn I l (length left) left ≡ order ++ in_turn I l (length rest) rest
  next-taken order rest next k left is within at out =
      let count : suc (length left) ≡ length rest = omega (arith, length-remove rest next within, ap length out) in
      let first : k ≡ get_or rest (next_of I l rest) 0 = at ∙ get_or_default rest next k 0 within ∙ ap (λ i. get_or rest i 0) is in
      let others : left ≡ remove rest (next_of I l rest) = out ∙ ap (remove rest) is in
      append_assoc order (k ∷ []) (in_turn I l (length left) left)
      ∙ ap (λ k. order ++ k ∷ in_turn I l (length left) left) first
      ∙ ap (λ ks. order ++ get_or rest (next_of I l rest) 0 ∷ in_turn I l (length left) ks) others
      ∙ ap (λ n. order ++ in_turn I l n rest) count

  pub length-in_turn : (n : ℕ) (ks : List ℕ) → length (in_turn I l n ks) ≡ n
  length-in_turn zero ks = refl
  length-in_turn (suc n) ks = ap suc (length-in_turn n (remove ks (next_of I l ks)))

  pub in_turn-from : (n : ℕ) (ks : List ℕ) → length ks ≡ n → AreAmong ks (in_turn I l n ks)
  in_turn-from zero ks count j h = absurd h
  in_turn-from (suc n) ks count j (inl here) = subst (IsAmong ks) here (among-at ks (next_of I l ks) (next-within ks (omega (arith, count))))
  in_turn-from (suc n) ks count j (inr h) = among-left ks (next_of I l ks) j (in_turn-from n (remove ks (next_of I l ks)) (left-long n ks count) j h)

  pub in_turn-among : (n : ℕ) (ks : List ℕ) → length ks ≡ n → AreAmong (in_turn I l n ks) ks
  in_turn-among zero [] count j h = h
  in_turn-among zero (k ∷ ks) count j h = absurd (omega (arith, count))
  in_turn-among (suc n) ks count j h =
      elim (among-at_or_left ks (next_of I l ks) j (next-within ks (omega (arith, count))) h) [
        | inl at ↦ inl at
        | inr left ↦ inr (in_turn-among n (remove ks (next_of I l ks)) (left-long n ks count) j left)
      ]

  -- NONE COMES BEFORE ONE AFTER WHICH IT HAS TO, where some order has that
  pub in_turn-respects : (all : List ℕ) → Respects (After (comes_after I l)) all → (n : ℕ) (ks : List ℕ) → length ks ≡ n → AreAmong all ks → Respects (After (comes_after I l)) (in_turn I l n ks)
  in_turn-respects all kept zero ks count known = tt
  in_turn-respects all kept (suc n) ks count known =
      let some : 1 ≤ length ks = omega (arith, count) in
      let within = one-ready (comes_after I l) all ks some kept known in
      let free = subst (λ i. after_any (comes_after I l) (get_or ks i 0) ks ≡ false) (sym (next-ready ks within)) (ready-at (comes_after I l) ks ks within) in (
        λ j among. none-among (comes_after I l) (get_or ks (next_of I l ks) 0) ks free j (in_turn-from (suc n) ks count j among),
        in_turn-respects all kept n (remove ks (next_of I l ks)) (left-long n ks count) (λ j among. known j (among-left ks (next_of I l ks) j among)),
      )
