-- What the visit of a case comes to.
use Rattle.std.proofs.Common.{◌≡◌, ℕ, suc, ◌+◌, ◌-◌, ◌≤◌, ◌<◌, Bool, true, false, List, [], ◌∷◌, ◌++◌, length, take, drop, slice_index_or, flat_map, cond, inl, inr, refl, sym, ap, ◌∙◌, subst, arith}
use Rattle.std.proofs.lemmas.List.Concat.{flat_map-append}
use Rattle.list_laws.proofs.Counts.{one-at_most}
use Rattle.list_laws.proofs.Lists.{drop-next, length-push}
use Rattle.refute_rules.specs.declared.choices.Decision.{Decision}
use Rattle.refute_rules.specs.declared.choices.Choice.{Choice}
use Rattle.refute_rules.specs.declared.choices.Choice.TheVariants.{Before}
use Rattle.refute_rules.specs.Listing.{cases_from}
use Rattle.refute_rules.specs.Trees.{AreInOrder, IsLeaf, IsTree}
use Rattle.case_search.specs.Rules.{Rules, AreSoundRules, IsReached, TakesTurn, IsTurn, left_of, options_first, options_at, with_option, cases_under}
use Rattle.case_search.specs.Counts.{NoneIn, FirstIn, MoreIn}
use Rattle.case_search.specs.Visits.{after_first, IsTreeBelow, cases_below, IsPassed, IsRefuted, IsVisit}
use Rattle.case_search.specs.declared.visits.Visit.{Visit}
use Rattle.case_search.specs.declared.visits.Visit.TheVariants.{Refuted, Whole, Spent}
use Rattle.case_search.proofs.ListLemmas.{append-assoc, flat_map-one, take-more, take-all, split-at, drop-length, in_order-more}
use Rattle.case_search.proofs.CountLemmas.{none-nil, none-one, none-append, first-append, more-append}
use Rattle.case_search.proofs.TurnLemmas.{good-turn, under-split, fault-none}

module _ {F : Type 0} (r : Rules F) (case : List Choice) where
  abbrev opts : List Choice
  opts = options_at r case

  abbrev option : ℕ → Choice
  option k = slice_index_or opts k (Before 0 0)

  leaf-tree : (left : List Decision) (marks rest : List ℕ) → IsLeaf r.IsFault r.numbers_of case marks rest → IsTree r.options r.IsFault r.numbers_of left case marks rest
  leaf-tree [] marks rest leaf = leaf
  leaf-tree (next ∷ left) marks rest leaf = inl leaf

  -- ---- the visit of a faulty case
  pub fault-refuted : AreSoundRules r → IsReached r.IsGood case → (fault : F) → r.IsFault case fault → (a b : ℕ) (old new : List ℕ) → b ≡ a + cond r.counts_faulty 1 0 → new ≡ old ++ r.numbers_of fault → IsRefuted r case a b old new case
  fault-refuted lawful reached fault is a b old new count e = record {
    grew = record { added = r.numbers_of fault; is = e; tree = λ rest. leaf-tree (left_of r case) (r.numbers_of fault ++ rest) rest (fault, is, refl) };
    none = fault-none r case lawful r.counts_faulty refl fault is reached a b count;
    back = refl;
  }

  -- ---- one turn more is wanted
  pub turn-spent : IsTurn r case → (a turns : ℕ) → a ≡ turns → MoreIn (IsTurn r) r.IsEnd a turns (cases_under r case)
  turn-spent turn a turns e = record {
    begun = [];
    next = case;
    left = flat_map (cases_below r case) opts;
    split = sym (under-split r case);
    before = subst (λ t. NoneIn (IsTurn r) r.IsEnd a t []) e (none-nil (IsTurn r) r.IsEnd a);
    has = turn;
  }

  reached-turn : (counts : Bool) → 1 ≤ cond counts 1 0 → IsReached r.IsGood case → TakesTurn counts r.IsGood case
  reached-turn false some reached = absurd (omega (arith, some))
  reached-turn true some reached = reached

  pub fault-spent : IsReached r.IsGood case → (a turns : ℕ) → a ≤ turns → turns - a < cond r.counts_faulty 1 0 → MoreIn (IsTurn r) r.IsEnd a turns (cases_under r case)
  fault-spent reached a turns few none =
      let one = one-at_most r.counts_faulty in
      turn-spent (reached-turn r.counts_faulty (omega (arith, none)) reached) a turns (omega (arith, few, none, one))

  pub good-spent : IsReached r.IsGood case → r.IsGood case → (a turns : ℕ) → a ≡ turns → MoreIn (IsTurn r) r.IsEnd a turns (cases_under r case)
  good-spent reached good a turns e = turn-spent (good-turn r.counts_faulty r.IsGood case reached good) a turns e

  -- ---- a whole case is found
  pub whole-first : AreSoundRules r → IsReached r.IsGood case → r.IsGood case → length case ≡ length r.decisions → (a : ℕ) → FirstIn (IsTurn r) r.IsEnd a (a + 1) (cases_under r case) case
  whole-first lawful reached good whole a = record {
    begun = [];
    left = flat_map (cases_below r case) opts;
    split = sym (under-split r case);
    before = none-nil (IsTurn r) r.IsEnd (a + 1);
    has = good-turn r.counts_faulty r.IsGood case reached good;
    is = lawful.ends case good whole;
  }

  -- ---- where a decision is left
  options-left : (left : List Decision) (k : ℕ) → k < length (options_first r.options left) → (next : Decision) × (left ≡ next ∷ after_first left)
  options-left [] k h = absurd (omega (arith, h))
  options-left (next ∷ left) k h = (next, refl)

  pub left-below : (k : ℕ) → k < length opts → (c : Choice) → left_of r (case ++ c ∷ []) ≡ after_first (left_of r case)
  left-below k h c =
      let way = options-left (left_of r case) k h in
      ap (λ n. drop n r.decisions) (length-push case c) ∙ drop-next (length case) r.decisions way.0 (after_first (left_of r case)) way.1

  under-below : (k : ℕ) → k < length opts → cases_under r (with_option r case k) ≡ cases_below r case (option k)
  under-below k h = ap (λ left. cases_from r.options left (case ++ option k ∷ [])) (left-below k h (option k))

  -- ---- the options in turn
  pub passed-begin : AreSoundRules r → IsReached r.IsGood case → r.IsGood case → (length case ≡ length r.decisions → ⊥) → (a turns : ℕ) → a < turns → (old new : List ℕ) → new ≡ old ++ 0 ∷ [] → IsPassed r case turns a (a + 1) old new 0
  passed-begin lawful reached good unfinished a turns less old new e = record {
    inner = [];
    is = e;
    trees = λ rest. refl;
    none = none-one (IsTurn r) r.IsEnd a case (good-turn r.counts_faulty r.IsGood case reached good) (λ end. unfinished (lawful.complete case end));
    few = omega (arith, less);
  }

  taken : (k : ℕ) → k < length opts → take (k + 1) opts ≡ take k opts ++ option k ∷ []
  taken k h = let e : k + 1 ≡ suc k = omega arith in ap (λ n. take n opts) e ∙ take-more opts k (Before 0 0) h

  pub passed-more : (a b c turns k : ℕ) (old middle new : List ℕ) (end : List Choice) → k < length opts → c ≤ turns → IsPassed r case turns a b old middle k → IsRefuted r (with_option r case k) b c middle new end → IsPassed r case turns a c old new (k + 1)
  passed-more a b c turns k old middle new end h few passed refuted = record {
    inner = passed.inner ++ refuted.grew.added;
    is = refuted.grew.is ∙ ap (λ l. l ++ refuted.grew.added) passed.is ∙ append-assoc old (0 ∷ passed.inner) refuted.grew.added;
    trees = λ rest. subst (λ xs. AreInOrder (IsTreeBelow r case) xs ((passed.inner ++ refuted.grew.added) ++ rest) rest) (sym (taken k h))
        (subst (λ ms. AreInOrder (IsTreeBelow r case) (take k opts ++ option k ∷ []) ms rest) (sym (append-assoc passed.inner refuted.grew.added rest))
        (in_order-more (IsTreeBelow r case) (take k opts) (option k) (passed.inner ++ (refuted.grew.added ++ rest)) (refuted.grew.added ++ rest) rest (passed.trees (refuted.grew.added ++ rest)) (last rest)));
    none = subst (NoneIn (IsTurn r) r.IsEnd a c) same (none-append (IsTurn r) r.IsEnd a b c (case ∷ flat_map (cases_below r case) (take k opts)) (cases_under r (with_option r case k)) passed.none refuted.none);
    few = few;
  }
    where
      last : (rest : List ℕ) → IsTreeBelow r case (option k) (refuted.grew.added ++ rest) rest
      last rest = subst (λ left. IsTree r.options r.IsFault r.numbers_of left (with_option r case k) (refuted.grew.added ++ rest) rest) (left-below k h (option k)) (refuted.grew.tree rest)

      same : (case ∷ flat_map (cases_below r case) (take k opts)) ++ cases_under r (with_option r case k) ≡ case ∷ flat_map (cases_below r case) (take (k + 1) opts)
      same =
          ap (λ l. case ∷ (flat_map (cases_below r case) (take k opts) ++ l)) (under-below k h ∙ sym (flat_map-one (cases_below r case) (option k)))
          ∙ ap (λ l. case ∷ l) (sym (flat_map-append (cases_below r case) (take k opts) (option k ∷ [])) ∙ ap (flat_map (cases_below r case)) (sym (taken k h)))

  split-tree : (left : List Decision) → 0 < length left → (inner rest : List ℕ) → AreInOrder (λ choice. IsTree r.options r.IsFault r.numbers_of (after_first left) (case ++ choice ∷ [])) (options_first r.options left) inner rest → IsTree r.options r.IsFault r.numbers_of left case (0 ∷ inner) rest
  split-tree [] h inner rest order = absurd (omega (arith, h))
  split-tree (next ∷ left) h inner rest order = inr (inner, refl, order)

  pub passed-end : (a b turns n : ℕ) (old new : List ℕ) (end : List Choice) → length case ≤ length r.decisions → (length case ≡ length r.decisions → ⊥) → length opts ≤ n → end ≡ case → IsPassed r case turns a b old new n → IsRefuted r case a b old new end
  passed-end a b turns n old new end few unfinished long back passed = record {
    grew = record {
      added = 0 ∷ passed.inner;
      is = passed.is;
      tree = λ rest. split-tree (left_of r case) (drop-length (length case) r.decisions (omega (arith, few, unfinished))) (passed.inner ++ rest) rest (subst (λ xs. AreInOrder (IsTreeBelow r case) xs (passed.inner ++ rest) rest) (take-all opts n long) (passed.trees rest));
    };
    none = subst (NoneIn (IsTurn r) r.IsEnd a b) (ap (λ os. case ∷ flat_map (cases_below r case) os) (take-all opts n long) ∙ sym (under-split r case)) passed.none;
    back = back;
  }

  -- ---- a whole case or the end of the turns below an option
  whole-list : (k : ℕ) → k < length opts → (case ∷ flat_map (cases_below r case) (take k opts)) ++ (cases_under r (with_option r case k) ++ flat_map (cases_below r case) (drop (suc k) opts)) ≡ cases_under r case
  whole-list k h =
      ap (λ l. (case ∷ flat_map (cases_below r case) (take k opts)) ++ (l ++ flat_map (cases_below r case) (drop (suc k) opts))) (under-below k h)
      ∙ ap (λ l. case ∷ l) (sym (flat_map-append (cases_below r case) (take k opts) (option k ∷ drop (suc k) opts)) ∙ ap (flat_map (cases_below r case)) (sym (split-at opts k (Before 0 0) h)))
      ∙ sym (under-split r case)

  pub visit-below : (a b c turns k : ℕ) (old middle new more : List ℕ) (end : List Choice) (visit : Visit) → k < length opts → (visit ≡ Refuted → ⊥) → IsPassed r case turns a b old middle k → IsVisit r (with_option r case k) turns b c middle new end visit → IsVisit r case turns a c old more end visit
  visit-below a b c turns k old middle new more end Refuted h n passed visit = absurd (n refl)
  visit-below a b c turns k old middle new more end Whole h n passed visit =
      subst (λ l. FirstIn (IsTurn r) r.IsEnd a c l end) (whole-list k h)
      (first-append (IsTurn r) r.IsEnd a b c (case ∷ flat_map (cases_below r case) (take k opts)) (cases_under r (with_option r case k)) (flat_map (cases_below r case) (drop (suc k) opts)) end passed.none visit)
  visit-below a b c turns k old middle new more end Spent h n passed visit =
      subst (MoreIn (IsTurn r) r.IsEnd a turns) (whole-list k h)
      (more-append (IsTurn r) r.IsEnd a b turns (case ∷ flat_map (cases_below r case) (take k opts)) (cases_under r (with_option r case k)) (flat_map (cases_below r case) (drop (suc k) opts)) passed.none visit)

-- a visit of the case that was entered, told of the deck and the case before
pub entered-visit : {D F : Type 0} (rules : D → Rules F) (d d1 d2 : D) (case c1 c2 : List Choice) (turns k a b : ℕ) (m n : List ℕ) (end : List Choice) (visit : Visit) → d1 ≡ d → c1 ≡ case → d2 ≡ d1 → c2 ≡ with_option (rules d1) c1 k → IsVisit (rules d2) c2 turns a b m n end visit → IsVisit (rules d) (with_option (rules d) case k) turns a b m n end visit
entered-visit rules d d1 d2 case c1 c2 turns k a b m n end visit e f g h out =
    let same : c2 ≡ with_option (rules d) case k = h ∙ ap (λ x. with_option (rules x) c1 k) e ∙ ap (λ c. with_option (rules d) c k) f in
    subst (λ x. IsVisit (rules x) (with_option (rules d) case k) turns a b m n end visit) (g ∙ e) (subst (λ c. IsVisit (rules d2) c turns a b m n end visit) same out)
