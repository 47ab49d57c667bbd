-- What the search found, said of the deck.
use Rattle.std.proofs.Common.{◌≡◌, ℕ, List, ◌∙◌, subst}
use Rattle.lock_model.specs.Deck.{Deck, IsDeck}
use Rattle.lock_model.specs.Placement.{IsLegalPlacement}
use Rattle.lock_model.specs.declared.placement.Spot.{Spot}
use Rattle.refute_rules.specs.Listing.{IsFirstWithin}
use Rattle.refute_rules.specs.Spots.{IsListed, IsWholeSpots, IsSpotHard, AreSpotsOfCase, spot_cases_of}
use Rattle.refute_rules.specs.declared.refutation.Refutation.TheVariants as refutation
use Rattle.refute_rules.proofs.RefuteLemmas.{refuted-unfit}
use Rattle.deck_laws.proofs.NormalLemmas.{has-normal}
use Rattle.case_search.specs.Found.{IsFound}
use Rattle.case_search.proofs.ExactLemmas.{none-first, none-more, first-more}
use Rattle.case_search.specs.declared.searching.Found.{Found}
use Rattle.case_search.specs.declared.searching.Found.TheVariants.{Whole, Refuted, Spent}
use Rattle.spot_place.specs.Rules.{spot_rules}
use Rattle.spot_place.specs.SpotCase.{OnWay, case_on}
use Rattle.spot_place.specs.Placing.{IsFit, IsRefutedBy, SpotsRefute}
use Rattle.spot_place.proofs.SpotTreeLemmas.{spot_tree}

module _ (d base : Deck) (same : base ≡ d) (turns : ℕ) (s : OnWay) (found : Found) (is : IsFound (spot_rules base) turns (case_on s) found) where
  is-found : IsFound (spot_rules d) turns (case_on s) found
  is-found = subst (λ d. IsFound (spot_rules d) turns (case_on s) found) same is

  pub first-whole : found ≡ Whole → IsFirstWithin (IsListed d) (IsWholeSpots d) turns (spot_cases_of d) (case_on s)
  first-whole e = subst (IsFound (spot_rules d) turns (case_on s)) e is-found

  pub fitting : found ≡ Whole → s.deck ≡ base → (spots : List Spot) → AreSpotsOfCase s.deck (case_on s) spots → IsLegalPlacement s.deck spots → IsFit d turns spots
  fitting e kept spots are legal = record {
    case = case_on s;
    first = first-whole e;
    spots_of = subst (λ d. AreSpotsOfCase d (case_on s) spots) (kept ∙ same) are;
    legal = subst (λ d. IsLegalPlacement d spots) (kept ∙ same) legal;
  }

  pub refuting : (marks : List ℕ) → found ≡ Refuted marks → IsDeck d → IsRefutedBy d turns marks
  refuting marks e good =
      let by = subst (IsFound (spot_rules d) turns (case_on s)) e is-found in
      let tree = spot_tree d marks by.tree in
      record { none = by.none; tree = tree; unfit = refuted-unfit d (refutation.Spots marks) good (has-normal d good) tree }

  pub spent : found ≡ Spent → IsSpotHard d turns
  spent e = subst (IsFound (spot_rules d) turns (case_on s)) e is-found

  -- ---- each answer comes exactly where it may
  pub refuted : (marks : List ℕ) → found ≡ Refuted marks → SpotsRefute d turns
  refuted marks e = (subst (IsFound (spot_rules d) turns (case_on s)) e is-found).none

  pub whole-refutes_not : found ≡ Whole → SpotsRefute d turns → ⊥
  whole-refutes_not e none = none-first (IsListed d) (IsWholeSpots d) turns (spot_cases_of d) (case_on s) none (first-whole e)

  pub spent-refutes_not : found ≡ Spent → SpotsRefute d turns → ⊥
  spent-refutes_not e none = none-more (IsListed d) (IsWholeSpots d) turns (spot_cases_of d) none (spent e)

  pub whole-hard_not : found ≡ Whole → IsSpotHard d turns → ⊥
  whole-hard_not e more = first-more (IsListed d) (IsWholeSpots d) turns (spot_cases_of d) (case_on s) (first-whole e) more

  pub refuted-hard_not : (marks : List ℕ) → found ≡ Refuted marks → IsSpotHard d turns → ⊥
  refuted-hard_not marks e more = none-more (IsListed d) (IsWholeSpots d) turns (spot_cases_of d) (refuted marks e) more
