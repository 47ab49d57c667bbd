-- The shapes of the picture of a legal plan show it.
use Rattle.std.proofs.Common.{◌≡◌, ◌≢◌, ℕ, ◌+◌, ◌<◌, ◌≤◌, List, [], ◌∷◌, length, map, filter, cond, Bool, true, false, nat_eq, All, inl, inr}
use Rattle.std.proofs.Common.{refl, sym, ap, subst, ◌∙◌, arith}
use Rattle.std.proofs.lemmas.Bool.Decides.{eqb_tells}
use Rattle.std.proofs.lemmas.List.Elements.{All-nil, All-cons}
use Rattle.lock_model.specs.declared.instance.Instance.{Instance}
use Rattle.lock_model.specs.declared.plan.Plan.{Plan}
use Rattle.lock_rules.specs.Lines.{lockage_at}
use Rattle.lock_rules.specs.Plan.{times_in}
use Rattle.lock_rules.proofs.TreeLemmas.{times_in-hit}
use Rattle.day_play.specs.declared.beat.Beat.{Beat}
use Rattle.picture_page.specs.Axis.{Drawn}
use Rattle.picture_page.specs.Passages.{is_go}
use Rattle.picture_laws.specs.Shapes.{Box}
use Rattle.picture_laws.specs.Shown.{IsBoxOf, HasOneBox, AreBoxes}
use Rattle.picture_laws.proofs.DayLemmas.{begins, times_in-passing}
use Rattle.picture_laws.proofs.DrawnLemmas.{Start, numbered, box_of, starts_in}

abbrev pub places_of : List Start → List ℕ
places_of ts = map (λ t. t.lockage) ts

-- a lockage is numbered as often as it begins
pub times-numbered : (n : ℕ) (bs : List Beat) (p : ℕ) → times_in (places_of (numbered n bs)) p ≡ begins bs p
times-numbered n [] p = refl
times-numbered n (b ∷ bs) p =
    elim (is_go b.act) as (λ h. times_in (places_of (cond h (record { number = n; lockage = b.lockage } ∷ numbered (n + 1) bs) (numbered n bs))) p
    ≡ cond h (cond (nat_eq b.lockage p) 1 0) 0 + begins bs p) [
      | true ↦ omega (arith, times-numbered (n + 1) bs p)
      | false ↦ omega (arith, times-numbered n bs p)
    ]

module _ (P : Plan) (c : ℕ) where
  abbrev in_lane : ℕ → Bool
  in_lane p = nat_eq (lockage_at P p).chamber c

  places-in : (ts : List Start) → places_of (starts_in P c ts) ≡ filter in_lane (places_of ts)
  places-in [] = refl
  places-in (t ∷ ts) =
      elim (nat_eq (lockage_at P t.lockage).chamber c) as (λ h. places_of (cond h (t ∷ starts_in P c ts) (starts_in P c ts))
      ≡ cond h (t.lockage ∷ filter in_lane (places_of ts)) (filter in_lane (places_of ts))) [
        | true ↦ ap (λ ps. t.lockage ∷ ps) (places-in ts)
        | false ↦ places-in ts
      ]

  places-boxes : (I : Instance) (axis : Drawn) (ts : List Start) → map (λ (b : Box). b.lockage) (map (box_of I P axis) ts) ≡ places_of ts
  places-boxes I axis [] = refl
  places-boxes I axis (t ∷ ts) = ap (λ ps. t.lockage ∷ ps) (places-boxes I axis ts)

  -- a lockage has as many boxes in a lane as it is numbered, where it is the lane of its chamber, and else none
  pub lane-counts : (I : Instance) (axis : Drawn) (ts : List Start) (p : ℕ)
      → times_in (map (λ (b : Box). b.lockage) (map (box_of I P axis) (starts_in P c ts))) p
      ≡ cond (nat_eq (lockage_at P p).chamber c) (times_in (places_of ts) p) 0
  lane-counts I axis ts p =
      ap (λ ps. times_in ps p) (places-boxes I axis (starts_in P c ts) ∙ places-in ts) ∙ times_in-passing in_lane (places_of ts) p

pub same-number : (n : ℕ) → nat_eq n n ≡ true
same-number n = elim (eqb_tells n n) [ inl same ↦ same.0 | inr other ↦ absurd (other.1 refl) ]

own-counts : (n v : ℕ) → cond (nat_eq n n) v 0 ≡ v
own-counts n v = ap (λ b. cond b v 0) (same-number n)

others-count : (n d v : ℕ) → d ≢ n → cond (nat_eq n d) v 0 ≡ 0
others-count n d v apart = elim (eqb_tells n d) [ inl same ↦ absurd (apart (sym same.1)) | inr no' ↦ ap (λ b. cond b v 0) no'.0 ]

module _ (I : Instance) (P : Plan) (axis : Drawn) where
  one-box : (ts : List Start) (p : ℕ) → times_in (places_of ts) p ≡ 1 → HasOneBox (λ c. map (box_of I P axis) (starts_in P c ts)) (lockage_at P p).chamber p
  one-box ts p once = record {
    own = lane-counts P (lockage_at P p).chamber I axis ts p ∙ own-counts (lockage_at P p).chamber (times_in (places_of ts) p) ∙ once;
    others = λ d apart. lane-counts P d I axis ts p ∙ others-count (lockage_at P p).chamber d (times_in (places_of ts) p) apart;
  }

  all-boxes : (c : ℕ) (ts : List Start) → ((p : ℕ) → 1 ≤ times_in (places_of ts) p → p < length P.lockages)
      → All (IsBoxOf I P axis c) (map (box_of I P axis) (starts_in P c ts))
  all-boxes c [] known = All-nil (IsBoxOf I P axis c)
  all-boxes c (t ∷ ts) known =
      let rest = all-boxes c ts (λ p some. known p (omega (arith, some))) in
      let here : t.lockage < length P.lockages =
      known t.lockage (omega (arith, times_in-hit t.lockage t.lockage (places_of ts) (same-number t.lockage))) in
      elim (eqb_tells (lockage_at P t.lockage).chamber c) [
        | inl same ↦
            subst (λ h. All (IsBoxOf I P axis c) (map (box_of I P axis) (cond h (t ∷ starts_in P c ts) (starts_in P c ts)))) (sym same.0)
            (All-cons (IsBoxOf I P axis c) (box_of I P axis t) (map (box_of I P axis) (starts_in P c ts))
            (record { known = here; lane = same.1; left = refl; right = refl; begun = refl }) rest)
        | inr other ↦
            subst (λ h. All (IsBoxOf I P axis c) (map (box_of I P axis) (cond h (t ∷ starts_in P c ts) (starts_in P c ts)))) (sym other.0) rest
      ]

  -- EACH LOCKAGE HAS ONE BOX.
  pub boxes-shown : (ts : List Start) → ((p : ℕ) → p < length P.lockages → times_in (places_of ts) p ≡ 1) → ((p : ℕ) → 1 ≤ times_in (places_of ts) p
      → p < length P.lockages)
      → AreBoxes I P axis (λ c. map (box_of I P axis) (starts_in P c ts))
  boxes-shown ts once known = record {
    once = λ p within. one-box ts p (once p within);
    each = λ c. all-boxes c ts known;
  }
