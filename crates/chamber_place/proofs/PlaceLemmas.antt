-- What the search of a deck's cases says of the deck.
use Rattle.std.proofs.Common.{◌≡◌, ℕ, zero, suc, ◌<◌, List, [], ◌∷◌, length, map, cond, inl, inr, refl, sym, ap, ◌∙◌, subst, arith, Some}
use Rattle.std.proofs.lemmas.Bool.Decides.{eqb_tells}
use Rattle.lock_model.specs.Deck.{Deck}
use Rattle.lock_model.specs.declared.placement.Spot.{Spot}
use Rattle.lock_rules.specs.Arrival.{numbers_from}
use Rattle.diff_system.specs.PathTree.{PathTree}
use Rattle.refute_rules.specs.Reasons.{HasNoReason}
use Rattle.refute_rules.specs.declared.choices.Berth.{Berth}
use Rattle.refute_rules.specs.declared.choices.Decision.TheVariants.{BerthOf, PairOf}
use Rattle.refute_rules.specs.declared.choices.Choice.{Choice}
use Rattle.refute_rules.specs.declared.choices.Choice.TheVariants.{Lies, Before, Below, LiesAt}
use Rattle.refute_rules.specs.Choices.{berths_of, options_of, decisions}
use Rattle.refute_rules.specs.Decided.{berth_in}
use Rattle.refute_rules.specs.Listing.{IsFirstWithin, HasMore}
use Rattle.refute_rules.specs.Cases.{IsConsistent, IsWhole, IsHard, IsCaseFault, case_fault_numbers, AreSpotsOf, cases_of}
use Rattle.refute_rules.specs.Trees.{IsCaseTree}
use Rattle.list_laws.specs.Among.{IsAmong}
use Rattle.refute_rules.proofs.Among.{IsAmong-left, IsAmong-right}
use Rattle.refute_rules.proofs.FitLemmas.{case-legal, whole-chosen, decided}
use Rattle.case_search.specs.Found.{IsRefutedBy as FoundRefuted}
use Rattle.case_search.proofs.ExactLemmas.{none-first, none-more, first-more}
use Rattle.case_search.proofs.TreeLemmas.{renamed-tree}
use Rattle.chamber_place.specs.Faults.{fault_of}
use Rattle.chamber_place.specs.OnItsWay.{IsSettled, case_rules}
use Rattle.chamber_place.specs.Spotting.{IsBerthDecided, AreFirstSpots}
use Rattle.chamber_place.specs.Placing.{IsFit, IsRefutedBy, PlaceRefutes}

-- ---- a whole case decides all berths
berth-decision : (n i : ℕ) → i < n → IsAmong (decisions n) (BerthOf i)
berth-decision zero i h = absurd (omega (arith, h))
berth-decision (suc n) i h = elim (eqb_tells i n) [
  | inl y ↦ IsAmong-right (decisions n) (BerthOf n ∷ map (λ k. PairOf k n) (numbers_from 0 n)) (BerthOf i) (inl (ap BerthOf (sym y.1)))
  | inr m ↦ IsAmong-left (decisions n) (BerthOf n ∷ map (λ k. PairOf k n) (numbers_from 0 n)) (BerthOf i) (berth-decision n i (let differ = m.1 in omega (arith, h, differ)))
]

among-lies : (i : ℕ) (bs : List Berth) (c : Choice) → IsAmong (map (Lies i) bs) c → (b : Berth) × (c ≡ Lies i b)
among-lies i [] c h = absurd h
among-lies i (b ∷ bs) c (inl e) = (b, sym e)
among-lies i (b ∷ bs) c (inr h) = among-lies i bs c h

among-decided : (case : List Choice) (i : ℕ) (b : Berth) → IsAmong case (Lies i b) → IsBerthDecided case i
among-decided [] i b h = absurd h
among-decided (c ∷ cs) i b (inl e) = subst (λ x. IsBerthDecided (x ∷ cs) i) (sym e) (elim (eqb_tells i i) [
  | inl y ↦ (b, ap (λ t. cond t (Some b) (berth_in cs i)) y.0)
  | inr n ↦ absurd (n.1 refl)
])
among-decided (Lies j a ∷ cs) i b (inr h) = elim (eqb_tells j i) [
  | inl y ↦ (a, ap (λ t. cond t (Some a) (berth_in cs i)) y.0)
  | inr n ↦ let rest = among-decided cs i b h in (rest.0, ap (λ t. cond t (Some a) (berth_in cs i)) n.0 ∙ rest.1)
]
among-decided (Before j k ∷ cs) i b (inr h) = among-decided cs i b h
among-decided (Below j k ∷ cs) i b (inr h) = among-decided cs i b h
among-decided (LiesAt j v ∷ cs) i b (inr h) = among-decided cs i b h

module _ (d : Deck) (turns : ℕ) where
  pub first-among : (case : List Choice) → IsFirstWithin (IsConsistent d) (IsWhole d) turns (cases_of d) case → IsAmong (cases_of d) case
  first-among case first = subst (λ l. IsAmong l case) first.split (IsAmong-right first.begun (case ∷ first.left) case (inl refl))

  pub whole-decided : (case : List Choice) → IsFirstWithin (IsConsistent d) (IsWhole d) turns (cases_of d) case → (i : ℕ) → i < length d.ships → IsBerthDecided case i
  whole-decided case first i h =
      let whole = first.is in
      let all = whole-chosen (options_of d) (decisions (length d.ships)) [] case (first-among case first) (omega (arith, whole)) in
      let own = decided (options_of d) (decisions (length d.ships)) all.more (BerthOf i) all.chosen (berth-decision (length d.ships) i h) in
      let lies = among-lies i (berths_of (length d.ships) i) own.choice own.option in
      subst (λ cs. IsBerthDecided cs i) (sym all.is) (among-decided all.more i lies.0 (subst (IsAmong all.more) lies.1 own.among))

  -- ---- the three answers
  pub case-fits : HasNoReason d → (case : List Choice) → IsFirstWithin (IsConsistent d) (IsWhole d) turns (cases_of d) case → (spots : List Spot) → AreSpotsOf d case spots → IsFit d turns spots
  case-fits reasonless case first spots are = record {
    reasonless = reasonless;
    case = case;
    first = first;
    spots_of = are;
    legal = case-legal d case (first-among case first) first.has first.is spots are;
  }

  pub first-refutes_not : HasNoReason d → (case : List Choice) → IsFirstWithin (IsConsistent d) (IsWhole d) turns (cases_of d) case → PlaceRefutes d turns → ⊥
  first-refutes_not reasonless case first (inl q) = reasonless q.0 q.1
  first-refutes_not reasonless case first (inr none) = none-first (IsConsistent d) (IsWhole d) turns (cases_of d) case none first

  pub more-refutes_not : HasNoReason d → HasMore (IsConsistent d) (IsWhole d) turns (cases_of d) → PlaceRefutes d turns → ⊥
  more-refutes_not reasonless more (inl q) = reasonless q.0 q.1
  more-refutes_not reasonless more (inr none) = none-more (IsConsistent d) (IsWhole d) turns (cases_of d) none more

  pub first-hard_not : (case : List Choice) → IsFirstWithin (IsConsistent d) (IsWhole d) turns (cases_of d) case → IsHard d turns → ⊥
  first-hard_not case first hard = first-more (IsConsistent d) (IsWhole d) turns (cases_of d) case first hard.more

  pub none-hard_not : (marks : List ℕ) → IsRefutedBy d turns marks → IsHard d turns → ⊥
  none-hard_not marks refuted hard = none-more (IsConsistent d) (IsWhole d) turns (cases_of d) refuted.none hard.more

  pub case-tree : (marks : List ℕ) → FoundRefuted (case_rules d) turns marks → IsCaseTree d marks
  case-tree marks refuted =
      renamed-tree (options_of d) (λ case fault. IsCaseFault d case (fault_of fault)) (λ fault. case_fault_numbers (fault_of fault)) (IsCaseFault d) case_fault_numbers fault_of (λ case fault stands. stands) (λ fault. refl)
      (decisions (length d.ships)) [] marks [] refuted.tree

  pub marks-refute : HasNoReason d → (marks : List ℕ) → FoundRefuted (case_rules d) turns marks → IsRefutedBy d turns marks
  marks-refute reasonless marks refuted = record { reasonless = reasonless; none = refuted.none; tree = case-tree marks refuted }

-- ---- the spots of a case
pub first-spots : (d : Deck) (case : List Choice) (paths : PathTree) (spots : List Spot) → IsSettled d case paths → AreFirstSpots case paths.values (length d.ships) spots → AreSpotsOf d case spots
first-spots d case paths spots settled first = record {
  values = paths.values;
  least = settled.longest.least;
  count = first.count;
  x = λ i h. (first.each i h).x;
  y = λ i h. (first.each i h).y;
  berth = λ i h. (first.each i h).berth;
}
