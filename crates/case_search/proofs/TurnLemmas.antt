-- Which cases take a turn.
use Rattle.std.proofs.Common.{◌≡◌, ℕ, ◌+◌, ◌<◌, Bool, true, false, List, [], ◌∷◌, ◌++◌, length, flat_map, cond, inl, refl, sym, subst, arith}
use Rattle.refute_rules.specs.declared.choices.Decision.{Decision}
use Rattle.refute_rules.specs.declared.choices.Choice.{Choice}
use Rattle.refute_rules.specs.Listing.{AreThose, cases_from}
use Rattle.case_search.specs.Rules.{Rules, AreSoundRules, IsReached, TakesTurn, left_of, options_first, options_at, cases_under}
use Rattle.case_search.specs.Visits.{after_first, cases_below}
use Rattle.case_search.specs.Counts.{NoneIn}
use Rattle.case_search.proofs.ListLemmas.{take-front}
use Rattle.case_search.proofs.CountLemmas.{none-listed, none-below}

-- a good case that is reached takes a turn
pub good-turn : (counts : Bool) (IsGood : List Choice → Type 0) (case : List Choice) → IsReached IsGood case → IsGood case → TakesTurn counts IsGood case
good-turn false IsGood case reached good = good
good-turn true IsGood case reached good = reached

module _ {F : Type 0} (r : Rules F) (case : List Choice) where
  -- the case, and then its extensions by each option
  pub cases-split : (left : List Decision) → cases_from r.options left case ≡ case ∷ flat_map (λ choice. cases_from r.options (after_first left) (case ++ choice ∷ [])) (options_first r.options left)
  cases-split [] = refl
  cases-split (next ∷ left) = refl

  pub under-split : cases_under r case ≡ case ∷ flat_map (cases_below r case) (options_at r case)
  under-split = cases-split (left_of r case)

  -- no extension of a faulty case takes a turn
  pub none-extends : (lawful : AreSoundRules r) (counts : Bool) → r.counts_faulty ≡ counts → (fault : F) → r.IsFault case fault → (c : Choice) (more : List Choice) → TakesTurn counts r.IsGood (case ++ c ∷ more) → ⊥
  none-extends lawful false e fault is c more turn = lawful.faulty case fault is (lawful.shorter e case (c ∷ more) turn)
  none-extends lawful true e fault is c more turn = lawful.faulty case fault is (subst r.IsGood (take-front case (c ∷ more)) (turn (length case) (longer case)))
    where
      longer : (xs : List Choice) → length xs < length (xs ++ c ∷ more)
      longer [] = omega arith
      longer (x ∷ xs) = let rest = longer xs in omega (arith, rest)

  -- what a faulty case counts: itself, or nothing
  pub fault-none : (lawful : AreSoundRules r) (counts : Bool) → r.counts_faulty ≡ counts → (fault : F) → r.IsFault case fault → IsReached r.IsGood case → (a b : ℕ) → b ≡ a + cond counts 1 0 → NoneIn (TakesTurn counts r.IsGood) r.IsEnd a b (cases_under r case)
  fault-none lawful false e fault is reached a b count = record {
    found = [];
    those = none-listed r.IsGood r.options (left_of r case) case (λ more good. lawful.faulty case fault is (lawful.shorter e case more good));
    count = count;
    none = tt;
  }
  fault-none lawful true e fault is reached a b count = record {
    found = case ∷ [];
    those = subst (λ l. AreThose (TakesTurn true r.IsGood) l (case ∷ [])) (sym under-split)
        (inl (reached, refl, none-below (TakesTurn true r.IsGood) r.options (after_first (left_of r case)) case (options_at r case) (none-extends lawful true e fault is)));
    count = count;
    none = (λ end. lawful.faulty case fault is (lawful.good_end e case end), tt);
  }
