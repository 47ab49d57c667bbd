-- Ships appended one by one make the list of the singles plan.
use Rattle.std.proofs.Common.{ℕ, suc, ◌≡◌, ◌≤◌, ◌<◌, ◌+◌, ◌*◌, ◌++◌, ◌∷◌, ◌∙◌, [], List, length, drop, max, slice_index_or, slice_set, All, sym, ap, refl, arith}
use Rattle.std.proofs.Math.Seq.{drop-cons}
use Rattle.std.proofs.lemmas.List.{append_assoc, length-map, length-set, length-append}
use Rattle.std.proofs.lemmas.List.Elements.{All-set, All-weaker, All-map}
use Rattle.lock_model.specs.Fleet.{ship_at}
use Rattle.lock_model.specs.Instance.{IsChamber}
use Rattle.lock_model.specs.declared.chamber.Chamber.{Chamber}
use Rattle.lock_model.specs.declared.instance.Instance.{Instance}
use Rattle.lock_model.specs.declared.plan.Lockage.{Lockage}
use Rattle.lock_rules.specs.Lawful.{stand_after}
use Rattle.lock_rules.specs.Singles.{Standing, singles_from, first_standings, single_lockage, standing_at, chosen_chamber, next_start, next_end}

-- what is appended and what is left make the whole list, and the chambers are free in time
pub record Appends (I : Instance) (order : List ℕ) (done : ℕ) (standings : List Standing) (lockages : List Lockage) : Type 0 where
  pub whole : lockages ++ singles_from I standings (drop done order) ≡ singles_from I (first_standings I) order
  pub each : length standings ≡ length I.chambers
  pub early : All (λ (st : Standing). st.from ≤ 1000000 + 12000000 * done) standings
  pub count : length lockages ≡ done

pub appends_none : (I : Instance) (order : List ℕ) → Appends I order 0 (first_standings I) []
appends_none I order = record {
  whole = refl;
  each = length-map I.chambers (λ (c : Chamber). record { stand = c.stands; from = c.opens });
  early = All-map (λ (st : Standing). st.from ≤ 1000000 + 12000000 * 0) (λ (c : Chamber). record { stand = c.stands; from = c.opens }) I.chambers
      (All-weaker IsChamber (λ c. c.opens ≤ 1000000 + 12000000 * 0) (λ c h. omega (arith, h.opens)) I.chambers I.limits.chamber);
  count = refl;
}

-- the standings and the lockage after ship s
abbrev pub after : Instance → ℕ → ℕ → Standing → Standing
after I s c st = record { stand = stand_after (ship_at I s).way; from = next_end I s c st }

pub appends_more : (I : Instance) (order : List ℕ) (done s d c : ℕ) (st : Standing) (sts : List Standing) (ls : List Lockage)
    → Appends I order done sts ls → done < length order → s ≡ slice_index_or order done d → c ≡ chosen_chamber I s sts → st ≡ standing_at sts c
    → next_end I s c st ≤ max st.from 1000000 + 12000000 → st.from ≤ 1000000 + 12000000 * done
    → Appends I order (done + 1) (slice_set sts c (after I s c st)) (ls ++ single_lockage I s c (next_start I s c st) ∷ [])
appends_more I order done s d c st sts ls so_far more is chosen stands soon before =
    let mine = single_lockage I s c (next_start I s c st) in
    let left : drop done order ≡ s ∷ drop (suc done) order = drop-cons order done d more ∙ (λ i. sym is i ∷ drop (suc done) order) in
    let one : singles_from I sts (s ∷ drop (suc done) order) ≡ mine ∷ singles_from I (slice_set sts c (after I s c st)) (drop (suc done) order) =
    (λ i. single_lockage I s (sym chosen i) (next_start I s (sym chosen i) (standing_at sts (sym chosen i))) ∷ singles_from I (slice_set sts (sym chosen i) (after I s (sym chosen i) (standing_at sts (sym chosen i)))) (drop (suc done) order))
    ∙ (λ i. single_lockage I s c (next_start I s c (sym stands i)) ∷ singles_from I (slice_set sts c (after I s c (sym stands i))) (drop (suc done) order)) in
    let next : suc done ≡ done + 1 = omega arith in
    record {
      whole = append_assoc ls (mine ∷ []) (singles_from I (slice_set sts c (after I s c st)) (drop (done + 1) order))
          ∙ (λ i. ls ++ (mine ∷ singles_from I (slice_set sts c (after I s c st)) (drop (sym next i) order)))
          ∙ ap (λ rest. ls ++ rest) (sym one) ∙ (λ i. ls ++ singles_from I sts (sym left i)) ∙ so_far.whole;
      each = length-set sts c (after I s c st) ∙ so_far.each;
      early = All-set (λ (st : Standing). st.from ≤ 1000000 + 12000000 * (done + 1)) sts c (after I s c st) (omega (arith, soon, before))
          (All-weaker (λ (st : Standing). st.from ≤ 1000000 + 12000000 * done) (λ (st : Standing). st.from ≤ 1000000 + 12000000 * (done + 1)) (λ st h. omega (arith, h)) sts so_far.early);
      count = length-append ls (mine ∷ []) ∙ omega (arith, so_far.count);
    }
