-- Each step of the walk keeps what is asked of the marks.
use Rattle.std.proofs.Common.{Bool, Ok, Err, IfOk, ◌≡◌, ℕ, ◌≤◌, List, [], ◌∷◌, ◌++◌, length, drop, nat_eq, IsTrue, ◌↔◌, inl, inr, refl, sym, ap, ◌∙◌, subst, arith}
use Rattle.std.proofs.lemmas.Bool.{false≢true}
use Rattle.std.proofs.lemmas.List.{drop_all, length-drop}
use Rattle.std.proofs.lemmas.Bool.Decides.{eqb_tells}
use Rattle.std.specs.List.{AllByRecursion}
use Rattle.std.specs.declared.result.Result.{Result}
use Rattle.list_laws.proofs.ByRecursion.{all-append}
use Rattle.lock_model.specs.Deck.{Deck, IsDeck}
use Rattle.lock_model.specs.Fitting.{Fits}
use Rattle.refute_rules.proofs.BerthLaw.{berth_tree-unfit}
use Rattle.refute_rules.specs.declared.choices.Choice.{Choice}
use Rattle.refute_rules.proofs.Among.{all-map, all-weaker}
use Rattle.refute_rules.specs.BerthTrees.{Split, split_options, IsBerthTree, BeginsWithTree}
use Rattle.berth_check.specs.Raises.{IsKnownChoice, AreKnown}
use Rattle.berth_check.specs.Fronts.{IsLeafUpTo, IsSplitUpTo, HasNoTreeAt, AreAllKnown}
use Rattle.berth_check.specs.Pending.{AreTrees, extensions, IsRead, IsNoTree}
use Rattle.berth_check.proofs.TreeLemmas.{leaf-step, split-step}
use Rattle.berth_check.proofs.OptionLemmas.{options-known, extended-known}

module _ (d : Deck) (case : List Choice) (old new : List (List Choice)) (marks : List ℕ) (at : ℕ) where
  pub step_none : HasNoTreeAt d case marks at → IsNoTree d (case ∷ old) marks at
  step_none h = record { none = λ trees. h.none trees.0 trees.1 }

  pub step_leaf : (end : ℕ) → AreAllKnown d old → IsLeafUpTo d case marks at end → IsRead d (case ∷ old) old marks at end
  step_leaf end known leaf = record { inside = leaf.inside; later = leaf.later; same = leaf-step d case old (drop at marks) (drop end marks) leaf.leaf; known = known }

  pub step_split : (split : Split) (end : ℕ) → AreKnown d case → AreAllKnown d old → IsSplitUpTo d case marks at split end → new ≡ extensions d case split ++ old → IsRead d (case ∷ old) new marks at end
  step_split split end here known h e = record {
    inside = h.inside;
    later = h.later;
    same = subst (λ cs. AreTrees d (case ∷ old) (drop at marks) ↔ AreTrees d cs (drop end marks)) (sym e) (split-step d case old (drop at marks) (drop end marks) split h.is_open h.told);
    known = record {
      all =
          subst (AllByRecursion (AreKnown d)) (sym e)
          (all-append (AreKnown d) (extensions d case split) old (all-map (AreKnown d) (λ choice. case ++ choice ∷ []) (split_options d split) (all-weaker (IsKnownChoice d) (λ choice. AreKnown d (case ++ choice ∷ [])) (λ choice u. extended-known d case choice here u) (split_options d split) (options-known d case split here h.is_open))) known.all);
    };
  }

-- what the walk keeps
pub record IsWalked (d : Deck) (cases : List (List Choice)) (marks : List ℕ) (at : ℕ) : Type 0 where
  pub inside : at ≤ length marks
  pub same : IsBerthTree d marks ↔ AreTrees d cases (drop at marks)
  pub known : AreAllKnown d cases

module _ (d : Deck) (marks : List ℕ) where
  pub walk_begun : IsWalked d ([] ∷ []) marks 0
  walk_begun = record {
    inside = omega arith;
    same = (λ tree. ([], tree, refl), λ trees. subst (BeginsWithTree d [] marks) trees.2 trees.1);
    known = record { all = (record { all = tt }, tt) };
  }

  pub walk_read : (old new : List (List Choice)) (at end : ℕ) → IsWalked d old marks at → IsRead d old new marks at end → IsWalked d new marks end
  walk_read old new at end w r = record { inside = r.inside; same = (λ tree. r.same.0 (w.same.0 tree), λ trees. w.same.1 (r.same.1 trees)); known = r.known }

  pub walk_fails : (old : List (List Choice)) (at : ℕ) → IsWalked d old marks at → IsNoTree d old marks at → IsBerthTree d marks → ⊥
  walk_fails old at w none tree = none.none (w.same.0 tree)

  pub walk_whole : (at : ℕ) → IsWalked d [] marks at → at ≡ length marks → IsBerthTree d marks
  walk_whole at w e = w.same.1 (drop_all at marks (omega (arith, e)))

  pub walk_left : (at : ℕ) → IsWalked d [] marks at → IsBerthTree d marks → at ≡ length marks
  walk_left at w tree = let none = ap length (w.same.0 tree) in let inside = w.inside in omega (arith, none, inside, length-drop at marks)

  pub walk_ends : (cases : List (List Choice)) (at : ℕ) → cases ≡ [] → IsWalked d cases marks at → IsTrue (nat_eq at (length marks)) ↔ IsBerthTree d marks
  walk_ends cases at e w =
      let walked = subst (λ cs. IsWalked d cs marks at) e w in
      elim (eqb_tells at (length marks)) [
        | inl y ↦ (λ h. walk_whole at walked y.1, λ tree. y.0)
        | inr n ↦ (λ h. absurd (false≢true (sym n.0 ∙ h)), λ tree. absurd (n.1 (walk_left at walked tree)))
      ]

pub tree_told : {E : Type 0} (d : Deck) (marks : List ℕ) (r : Result Bool E) → IsDeck d → IfOk r (λ b. IsTrue b ↔ IsBerthTree d marks) → IfOk r (λ b. IsTrue b → Fits d → ⊥)
tree_told d marks (Ok b) good h = λ yes' fits. berth_tree-unfit d marks good (h.0 yes') fits
tree_told d marks (Err e) good h = tt

-- what `is_walked` goes by
pub ruleset of_walks = (walk_begun, walk_read, walk_fails, walk_whole, walk_left)
