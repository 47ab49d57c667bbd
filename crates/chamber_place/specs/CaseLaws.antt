-- What the search rests on: a fault leaves a case inconsistent, and a beginning of a consistent case is consistent.
use Rattle.std.proofs.Common.{◌≡◌, ℕ, Bool, List, [], ◌∷◌, ◌++◌, length, flat_map, cond, true, false, nat_eq, sym, ap, ◌∙◌, subst, Some}
use Rattle.std.proofs.lemmas.Bool.{false≢true}
use Rattle.std.proofs.lemmas.List.Concat.{flat_map-append}
use Rattle.std.proofs.lemmas.Option.{none-some}
use Rattle.std.proofs.lemmas.List.Elements.{All-from_recursion, recursion_from_All}
use Rattle.std.specs.List.{AllByRecursion}
use Rattle.list_laws.proofs.ByRecursion.{all-first}
use Rattle.lock_model.specs.Deck.{Deck}
use Rattle.lock_rules.specs.Arrival.{numbers_from}
use Rattle.diff_rules.specs.Differences.{Obeys}
use Rattle.diff_rules.proofs.CycleLemmas.{no_solution}
use Rattle.refute_rules.specs.declared.choices.Berth.{Berth}
use Rattle.refute_rules.specs.declared.choices.Choice.{Choice}
use Rattle.refute_rules.specs.declared.choices.Choice.TheVariants.{Lies, Before, Below, LiesAt}
use Rattle.refute_rules.specs.Edges.{case_edges, choice_edges, ship_edges}
use Rattle.refute_rules.specs.Decided.{berth_in}
use Rattle.refute_rules.specs.Cases.{IsConsistent, CaseFault, OtherRank, Walk, IsCaseFault, vars_of}
use Rattle.case_search.specs.Rules.{AreSoundRules}
use Rattle.case_search.proofs.ListLemmas.{append-assoc}
use Rattle.chamber_place.specs.Faults.{fault_of}
use Rattle.chamber_place.specs.OnItsWay.{case_rules}

berth-kept : (case more : List Choice) (i : ℕ) (b : Berth) → berth_in case i ≡ Some b → berth_in (case ++ more) i ≡ Some b
berth-kept [] more i b e = absurd (none-some b e)
berth-kept (Lies j c ∷ cs) more i b e =
    let Kept : Bool → Type 0 = λ t. cond t (Some c) (berth_in cs i) ≡ Some b → cond t (Some c) (berth_in (cs ++ more) i) ≡ Some b in
    (elim (nat_eq j i) as Kept [
      | true ↦ λ h. h
      | false ↦ λ h. berth-kept cs more i b h
    ]) e
berth-kept (Before j k ∷ cs) more i b e = berth-kept cs more i b e
berth-kept (Below j k ∷ cs) more i b e = berth-kept cs more i b e
berth-kept (LiesAt j v ∷ cs) more i b e = berth-kept cs more i b e

module _ (d : Deck) where
  pub consistent-shorter : (case more : List Choice) → IsConsistent d (case ++ more) → IsConsistent d case
  consistent-shorter case more is = record {
    values = is.values;
    solution = record { count = is.solution.count; origin = is.solution.origin; obeyed = All-from_recursion (Obeys is.values) (case_edges d case) kept };
    ranks = λ i h. is.ranks i (record {
      host = h.host;
      own = h.own;
      berth = h.berth;
      lies = berth-kept case more i _ h.lies;
      decided = berth-kept case more h.host h.berth h.decided;
      differ = h.differ;
    });
  }
    where
      split : case_edges d (case ++ more) ≡ case_edges d case ++ flat_map (choice_edges d) more
      split =
          let own = flat_map (ship_edges d) (numbers_from 0 (length d.ships)) in
          ap (λ l. own ++ l) (flat_map-append (choice_edges d) case more)
          ∙ sym (append-assoc own (flat_map (choice_edges d) case) (flat_map (choice_edges d) more))

      kept : AllByRecursion (Obeys is.values) (case_edges d case)
      kept =
          all-first (Obeys is.values) (case_edges d case) (flat_map (choice_edges d) more)
          (subst (AllByRecursion (Obeys is.values)) split (recursion_from_All (Obeys is.values) (case_edges d (case ++ more)) is.solution.obeyed))

  pub fault-inconsistent : (case : List Choice) (fault : CaseFault) → IsCaseFault d case fault → IsConsistent d case → ⊥
  fault-inconsistent case (OtherRank i) h is = is.ranks i h
  fault-inconsistent case (Walk numbers) h is = no_solution (case_edges d case) (vars_of d) is.values numbers is.solution h.1

  pub case_laws : AreSoundRules (case_rules d)
  case_laws = record {
    faulty = λ case fault h is. fault-inconsistent case (fault_of fault) h is;
    shorter = λ e case more is. consistent-shorter case more is;
    ends = λ case is whole. whole;
    complete = λ case whole. whole;
    good_end = λ e. absurd (false≢true e);
  }
