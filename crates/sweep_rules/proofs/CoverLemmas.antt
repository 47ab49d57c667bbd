-- What labels cover, as they are replaced, and what is swept where none is left.
use Rattle.std.proofs.Common.{◌≡◌, ℕ, ◌<◌, ◌≤◌, false, List, [], ◌∷◌, length, Contains, inl, inr, refl, arith}
use Rattle.std.proofs.lemmas.Bool.Decides.{leb_tells}
use Rattle.lock_model.specs.declared.instance.Instance.{Instance}
use Rattle.lock_model.specs.declared.group.Group.{Group}
use Rattle.price_rules.specs.Prices.{PlainCut, flow_over}
use Rattle.sweep_rules.specs.Uncut.{IsSwept}
use Rattle.sweep_rules.specs.Label.{Label, IsFirstLabel, CanGoOn, IsGoneOn}
use Rattle.sweep_rules.specs.Completion.{EndsBelow}
use Rattle.sweep_rules.specs.Dominance.{ServesFor}
use Rattle.sweep_rules.specs.Covering.{SomeEndsBelow, LabelsCover, IsReplaced}
use Rattle.sweep_rules.proofs.FirstLemmas.{starts_in, first-completion, first-cost}
use Rattle.sweep_rules.proofs.DominanceLemmas.{serves-ends, ends-more}
use Rattle.sweep_rules.proofs.GoingLemmas.{label-goes}

module _ (I : Instance) (cuts : List PlainCut) (goal : ℕ) where
  -- A FIRST LABEL COVERS all uncut plans.
  pub cover-first : (label : Label) → IsFirstLabel I cuts label → LabelsCover I cuts goal (label ∷ [])
  cover-first label first = record {
    some = λ lines plan total below high. record {
      label = label;
      held = (0, omega arith, refl);
      ends = record {
        lines = lines;
        starts = starts_in I lines;
        is = first-completion I cuts label first lines plan;
        below = omega (arith, below, first-cost I cuts label first lines plan);
      };
    };
  }

  -- LABELS THAT REPLACE EACH OF OTHERS cover what these cover.
  pub cover-replaced : (labels more : List Label) → ((label : Label) → Contains labels label → IsReplaced I cuts goal more label) → LabelsCover I cuts goal labels → LabelsCover I cuts goal more
  cover-replaced labels more replaced cover = record {
    some = λ lines plan total below high.
        let old = cover.some lines plan total below high in
        (replaced old.label old.held).by total high old.ends;
  }

  -- WHAT COVERS A GOAL covers each lower one.
  pub cover-lower : (labels : List Label) (less : ℕ) → less ≤ goal → LabelsCover I cuts goal labels → LabelsCover I cuts less labels
  cover-lower labels less low cover = record { some = λ lines plan total below high. cover.some lines plan total below (omega (arith, low, high)) }

  -- a label is replaced where it is kept,
  pub replaced-kept : (labels : List Label) (label : Label) → Contains labels label → IsReplaced I cuts goal labels label
  replaced-kept labels label held = record { by = λ total high ends. record { label = label; held = held; ends = ends } }

  -- where one that is replaced serves for it,
  pub replaced-served : (labels : List Label) (kept label : Label) → IsReplaced I cuts goal labels kept → ServesFor I cuts kept label → IsReplaced I cuts goal labels label
  replaced-served labels kept label replaced serves = record { by = λ total high ends. replaced.by total high (serves-ends I cuts total kept label serves ends) }

  -- where it has the goal's flow time already,
  pub replaced-costly : (labels : List Label) (label : Label) → goal ≤ label.flow → IsReplaced I cuts goal labels label
  replaced-costly labels label high = record { by = λ total low ends. absurd (omega (arith, high, low, ends.below)) }

  -- where it has no completion of a total below the goal,
  pub replaced-dropped : (labels : List Label) (label : Label) → (EndsBelow I cuts goal label → ⊥) → IsReplaced I cuts goal labels label
  replaced-dropped labels label none = record { by = λ total high ends. absurd (none (ends-more I cuts total goal label high ends)) }

  -- a label that is replaced by some labels is so by more
  pub replaced-more : (labels more : List Label) (label : Label) → ((kept : Label) → Contains labels kept → Contains more kept) → IsReplaced I cuts goal labels label → IsReplaced I cuts goal more label
  replaced-more labels more label among replaced = record {
    by = λ total high ends.
        let one = replaced.by total high ends in
        record { label = one.label; held = among one.label one.held; ends = one.ends };
  }

  -- AND WHERE EACH LABEL THAT IT GOES ON TO IS REPLACED, some ship being missing.
  pub replaced-gone : (labels : List Label) (label : Label) (s : ℕ) → s < length I.ships → label.served s ≡ false
      → ((c : ℕ) (g : Group) → CanGoOn I cuts label c g → (next : Label) × IsGoneOn I cuts label c g next × IsReplaced I cuts goal labels next) → IsReplaced I cuts goal labels label
  replaced-gone labels label s known missing gone = record {
    by = λ total high ends.
        let first = label-goes I cuts total label ends s known missing in
        let next = gone first.chamber first.group first.can in
        next.2.by total high (first.ends next.0 next.1);
  }

  -- WHERE NO LABEL IS LEFT THE GOAL IS SWEPT.
  pub cover-none : LabelsCover I cuts goal [] → IsSwept I cuts goal
  cover-none cover = record {
    least = λ lines plan. elim (leb_tells goal (flow_over I lines)) [
      | inl high ↦ high.1
      | inr low ↦ absurd (nothing (cover.some lines plan goal low.1 (omega arith)))
    ];
  }
    where
      nothing : SomeEndsBelow I cuts goal [] → ⊥
      nothing one = let held = one.held in absurd (omega (arith, held.1))
