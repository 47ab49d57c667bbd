-- What the visit of a case comes to.
use Rattle.std.proofs.Common.{◌≡◌, ℕ, suc, ◌+◌, ◌≤◌, ◌<◌, ◌⊎◌, inl, inr, List, [], ◌∷◌, ◌++◌, length, take, slice_index_or, refl, sym, ap, ◌∙◌, subst, arith, append-nil}
use Rattle.lock_model.specs.Deck.{Deck}
use Rattle.lock_model.specs.Placement.{IsLegalPlacement}
use Rattle.refute_rules.specs.declared.choices.Choice.{Choice}
use Rattle.refute_rules.specs.declared.choices.Choice.TheVariants.{Before}
use Rattle.refute_rules.specs.Trees.{AreInOrder}
use Rattle.case_search.proofs.ListLemmas.{append-assoc, take-more, take-all, take-front, in_order-more}
use Rattle.refute_rules.specs.BerthFaults.{BerthFault, OtherRank, LeadsBack, TooLong, Outside, Guests, Crowd, NoPlaces, IsBerthFault, berth_fault_numbers}
use Rattle.refute_rules.specs.BerthTrees.{Split, OfBerth, OfOrder, IsOpen, split_options, split_numbers, BeginsWithTree, IsBerthTree}
use Rattle.refute_rules.proofs.BerthTreeLemmas.{split_tree, fault_tree}
use Rattle.berth_place.specs.declared.search.Search.{Search}
use Rattle.berth_place.specs.declared.search.Visit.{Visit}
use Rattle.berth_place.specs.declared.search.Visit.TheVariants.{Closed, Placed, Spent}
use Rattle.berth_place.specs.Unfinished.{node_count, IsUnfinishedWithin, IsUnfinished}
use Rattle.berth_place.specs.Visits.{GrewByTree, IsPassed, IsClosed, IsOptionClosed, IsPartWay, IsVisit, IsVisitOf}

pub fault-one : (fault : BerthFault) (rest : List ℕ) → node_count (berth_fault_numbers fault ++ rest) ≡ 1 + node_count rest
fault-one (OtherRank i) rest = refl
fault-one (LeadsBack i) rest = refl
fault-one (TooLong i) rest = refl
fault-one (Outside i) rest = refl
fault-one (Guests k) rest = refl
fault-one (Crowd set) rest = refl
fault-one NoPlaces rest = refl

pub split-one : (split : Split) (rest : List ℕ) → node_count (split_numbers split ++ rest) ≡ 1 + node_count rest
split-one (OfBerth i) rest = refl
split-one (OfOrder i j) rest = refl

-- one node has one more than what follows it
pub one-node : (added : List ℕ) → ((rest : List ℕ) → node_count (added ++ rest) ≡ 1 + node_count rest) → node_count added ≡ 1
one-node added one = ap node_count (sym (append-nil added)) ∙ one []

module _ (d : Deck) (case : List Choice) where
  abbrev pub fault_grew : (fault : BerthFault) (old new : List ℕ) → IsBerthFault d case fault → new ≡ old ++ berth_fault_numbers fault → GrewByTree d case old new
  fault_grew fault old new stands e = record {
    added = berth_fault_numbers fault;
    is = e;
    tree = λ rest. fault_tree d case fault stands rest;
    nodes = λ rest. let all = fault-one fault rest in let own = one-node (berth_fault_numbers fault) (fault-one fault) in omega (arith, all, own);
  }

  abbrev pub passed_begun : (split : Split) (old new : List ℕ) → new ≡ old ++ split_numbers split → IsPassed d case split old new 0
  passed_begun split old new e = record {
    inner = [];
    is = e ∙ ap (λ ms. old ++ ms) (sym (append-nil (split_numbers split)));
    trees = λ rest. refl;
    nodes = λ rest.
        let all : node_count ((split_numbers split ++ []) ++ rest) ≡ 1 + node_count rest = ap (λ ms. node_count (ms ++ rest)) (append-nil (split_numbers split)) ∙ split-one split rest in
        let own : node_count (split_numbers split ++ []) ≡ 1 = split-one split [] in
        omega (arith, all, own);
  }

  abbrev pub option_at : Split → ℕ → Choice
  option_at split k = slice_index_or (split_options d split) k (Before 0 0)

  pub taken : (split : Split) (k : ℕ) → k < length (split_options d split) → take (k + 1) (split_options d split) ≡ take k (split_options d split) ++ option_at split k ∷ []
  taken split k h = let e : k + 1 ≡ suc k = omega arith in ap (λ n. take n (split_options d split)) e ∙ take-more (split_options d split) k (Before 0 0) h

  -- the nodes of a split and what follows it, and of what follows that
  pub more-nodes : (split : Split) (inner added : List ℕ) → ((rest : List ℕ) → node_count ((split_numbers split ++ inner) ++ rest) ≡ node_count (split_numbers split ++ inner) + node_count rest) → node_count (split_numbers split ++ (inner ++ added)) ≡ node_count (split_numbers split ++ inner) + node_count added
  more-nodes split inner added nodes = ap node_count (sym (append-assoc (split_numbers split) inner added)) ∙ nodes added

  abbrev pub passed_more : (split : Split) (k : ℕ) (old middle new : List ℕ) → k < length (split_options d split) → IsPassed d case split old middle k → GrewByTree d (case ++ option_at split k ∷ []) middle new → IsPassed d case split old new (k + 1)
  passed_more split k old middle new h passed grew = record {
    inner = passed.inner ++ grew.added;
    is = grew.is ∙ ap (λ ms. ms ++ grew.added) passed.is ∙ append-assoc old (split_numbers split ++ passed.inner) grew.added ∙ ap (λ ms. old ++ ms) (append-assoc (split_numbers split) passed.inner grew.added);
    trees = λ rest.
        let Tree : Choice → List ℕ → List ℕ → Type 0 = λ choice. BeginsWithTree d (case ++ choice ∷ []) in
        subst (λ xs. AreInOrder Tree xs ((passed.inner ++ grew.added) ++ rest) rest) (sym (taken split k h))
        (subst (λ ms. AreInOrder Tree (take k (split_options d split) ++ option_at split k ∷ []) ms rest) (sym (append-assoc passed.inner grew.added rest))
        (in_order-more Tree (take k (split_options d split)) (option_at split k) (passed.inner ++ (grew.added ++ rest)) (grew.added ++ rest) rest (passed.trees (grew.added ++ rest)) (grew.tree rest)));
    nodes = λ rest.
        let own = more-nodes split passed.inner grew.added passed.nodes in
        let split-whole : (split_numbers split ++ (passed.inner ++ grew.added)) ++ rest ≡ (split_numbers split ++ passed.inner) ++ (grew.added ++ rest) =
        ap (λ ms. ms ++ rest) (sym (append-assoc (split_numbers split) passed.inner grew.added)) ∙ append-assoc (split_numbers split ++ passed.inner) grew.added rest in
        let all = ap node_count split-whole ∙ passed.nodes (grew.added ++ rest) in
        let behind = grew.nodes rest in
        omega (arith, own, all, behind);
  }

  abbrev pub passed_whole : (split : Split) (count : ℕ) (old new : List ℕ) → IsOpen d case split → length (split_options d split) ≤ count → IsPassed d case split old new count → GrewByTree d case old new
  passed_whole split count old new is_open long passed = record {
    added = split_numbers split ++ passed.inner;
    is = passed.is;
    tree = λ rest.
        split_tree d case split is_open ((split_numbers split ++ passed.inner) ++ rest) (passed.inner ++ rest) rest (append-assoc (split_numbers split) passed.inner rest)
        (subst (λ xs. AreInOrder (λ choice. BeginsWithTree d (case ++ choice ∷ [])) xs (passed.inner ++ rest) rest) (take-all (split_options d split) count long) (passed.trees rest));
    nodes = passed.nodes;
  }

pub grew_whole : (d : Deck) (marks : List ℕ) → GrewByTree d [] [] marks → IsBerthTree d marks
grew_whole d marks grew = subst (IsBerthTree d) (append-nil grew.added ∙ sym grew.is) (grew.tree [])

-- what grew at the same case
abbrev grew-again : (d : Deck) (case same : List Choice) (choice : Choice) (old new : List ℕ) → case ≡ same → GrewByTree d (case ++ choice ∷ []) old new → GrewByTree d (same ++ choice ∷ []) old new
grew-again d case same choice old new e grew = record {
  added = grew.added;
  is = grew.is;
  tree = λ rest. subst (λ cs. BeginsWithTree d (cs ++ choice ∷ []) (grew.added ++ rest) rest) e (grew.tree rest);
  nodes = grew.nodes;
}

-- a fault that stands closes the case
pub fault_closed : (d : Deck) (fault : BerthFault) (old new : Search) → IsBerthFault d old.case fault → new.marks ≡ old.marks ++ berth_fault_numbers fault → new.case ≡ old.case → new.edges ≡ old.edges → new.turns ≡ old.turns → new.tried ≡ old.tried → old.tried ≤ old.turns → IsClosed d old new
fault_closed d fault old new stands marks case edges turns tried few = record {
  grew = fault_grew d old.case fault old.marks new.marks stands marks;
  on = record { case = case; edges = edges; turns = turns; more = omega (arith, tried); few = omega (arith, turns, tried, few) };
  tried = let own = one-node (berth_fault_numbers fault) (fault-one fault) in omega (arith, own, tried);
}

-- ---- the options of a split in turn

module _ (d : Deck) (old : Search) (split : Split) where
  pub under_begun : (new : Search) → new.case ≡ old.case → new.edges ≡ old.edges → new.turns ≡ old.turns → new.tried ≡ old.tried → old.tried ≤ old.turns → new.marks ≡ old.marks ++ split_numbers split → IsPartWay d old new split 0
  under_begun new case edges turns tried few marks = record {
    on = record { case = case; edges = edges; turns = turns; more = omega (arith, tried); few = omega (arith, turns, tried, few) };
    passed = passed_begun d old.case split old.marks new.marks marks;
    tried = let own : node_count (split_numbers split ++ []) ≡ 1 = split-one split [] in omega (arith, own, tried);
  }

  pub under_more : (k : ℕ) (middle last : Search) → k < length (split_options d split) → IsPartWay d old middle split k → IsOptionClosed d (option_at d old.case split k) middle last → IsPartWay d old last split (k + 1)
  under_more k middle last h under closed =
      let more = under.on.more in
      let then = closed.on.more in
      record {
        on = record {
          case = closed.on.case ∙ under.on.case;
          edges = closed.on.edges ∙ under.on.edges;
          turns = closed.on.turns ∙ under.on.turns;
          more = omega (arith, more, then);
          few = closed.on.few;
        };
        passed = passed_more d old.case split k old.marks middle.marks last.marks h under.passed (grew-again d middle.case old.case (option_at d old.case split k) middle.marks last.marks under.on.case closed.grew);
        tried = let own = more-nodes d old.case split under.passed.inner closed.grew.added under.passed.nodes in let first = under.tried in let second = closed.tried in omega (arith, own, first, second);
      }

  pub under_whole : (count : ℕ) (new : Search) → IsOpen d old.case split → length (split_options d split) ≤ count → IsPartWay d old new split count → IsClosed d old new
  under_whole count new is_open long under = record { grew = passed_whole d old.case split count old.marks new.marks is_open long under.passed; on = under.on; tried = under.tried }

-- ---- one option, which is taken back

pub option_closed : (d : Deck) (choice : Choice) (old inner after last : Search) → inner.case ≡ old.case ++ choice ∷ [] → inner.marks ≡ old.marks → inner.turns ≡ old.turns → inner.tried ≡ old.tried + 1 → IsClosed d inner after → last.case ≡ take (length old.case) after.case → last.edges ≡ old.edges → last.marks ≡ after.marks → last.turns ≡ after.turns → last.tried ≡ after.tried → IsOptionClosed d choice old last
option_closed d choice old inner after last case marks turns counted closed back edges same-marks same-turns same-tried =
    let then = closed.on.more in
    let few = closed.on.few in
    let nodes = closed.tried in
    record {
      grew = record {
        added = closed.grew.added;
        is = same-marks ∙ closed.grew.is ∙ ap (λ ms. ms ++ closed.grew.added) marks;
        tree = λ rest. subst (λ cs. BeginsWithTree d cs (closed.grew.added ++ rest) rest) case (closed.grew.tree rest);
        nodes = closed.grew.nodes;
      };
      on = record {
        case = back ∙ ap (take (length old.case)) (closed.on.case ∙ case) ∙ take-front old.case (choice ∷ []);
        edges = edges;
        turns = same-turns ∙ closed.on.turns ∙ turns;
        more = omega (arith, counted, then, same-tried);
        few = omega (arith, few, same-tried, same-turns);
      };
      tried = omega (arith, counted, nodes, same-tried);
    }

-- ---- a visit that isn't closed

-- of a split
pub visit_over : (d : Deck) (split : Split) (k : ℕ) (old middle new : Search) (visit : Visit) → (visit ≡ Closed → ⊥) → IsOpen d old.case split → k < length (split_options d split) → IsPartWay d old middle split k → IsVisitOf d (option_at d old.case split k) middle new visit → IsVisit d old new visit
visit_over d split k old middle new Closed n is_open less under h = absurd (n refl)
visit_over d split k old middle new Placed n is_open less under h = h
visit_over d split k old middle new Spent n is_open less under h = record {
  turns = h.turns ∙ under.on.turns;
  more = h.more;
  added = split_numbers split ++ (under.passed.inner ++ h.added);
  is = h.is ∙ ap (λ ms. ms ++ h.added) under.passed.is ∙ append-assoc old.marks (split_numbers split ++ under.passed.inner) h.added ∙ ap (λ ms. old.marks ++ ms) (append-assoc (split_numbers split) under.passed.inner h.added);
  unfinished = broken h.unfinished;
  nodes =
      let own = more-nodes d old.case split under.passed.inner h.added under.passed.nodes in
      let first = under.tried in
      let second = h.nodes in
      omega (arith, own, first, second);
}
  where
    broken-at : (depth : ℕ) → (h.added ≡ []) ⊎ IsUnfinishedWithin d depth (old.case ++ option_at d old.case split k ∷ []) h.added → IsUnfinishedWithin d (suc depth) old.case (split_numbers split ++ (under.passed.inner ++ h.added))
    broken-at depth next = record {
      split = split;
      is_open = is_open;
      inner = under.passed.inner ++ h.added;
      told = refl;
      done = k;
      fewer = less;
      rest = h.added;
      trees = under.passed.trees h.added;
      next = next;
    }

    broken : (h.added ≡ []) ⊎ IsUnfinished d (middle.case ++ option_at d old.case split k ∷ []) h.added → IsUnfinished d old.case (split_numbers split ++ (under.passed.inner ++ h.added))
    broken (inl e) = (1, broken-at 0 (inl e))
    broken (inr u) = (suc u.0, broken-at u.0 (inr (subst (λ cs. IsUnfinishedWithin d u.0 (cs ++ option_at d old.case split k ∷ []) h.added) under.on.case u.1)))

-- ---- a visit between which and the case at hand only edges change

pub visit_same : (d : Deck) (old inner after new : Search) (visit : Visit) → inner.case ≡ old.case → inner.marks ≡ old.marks → inner.turns ≡ old.turns → inner.tried ≡ old.tried → new.case ≡ after.case → new.edges ≡ old.edges → new.marks ≡ after.marks → new.turns ≡ after.turns → new.tried ≡ after.tried → new.spots ≡ after.spots → IsVisit d inner after visit → IsVisit d old new visit
visit_same d old inner after new Closed case marks turns tried new-case edges new-marks new-turns new-tried spots h =
    let more = h.on.more in
    let few = h.on.few in
    let nodes = h.tried in
    record {
      grew = record {
        added = h.grew.added;
        is = new-marks ∙ h.grew.is ∙ ap (λ ms. ms ++ h.grew.added) marks;
        tree = λ rest. subst (λ cs. BeginsWithTree d cs (h.grew.added ++ rest) rest) case (h.grew.tree rest);
        nodes = h.grew.nodes;
      };
      on = record {
        case = new-case ∙ h.on.case ∙ case;
        edges = edges;
        turns = new-turns ∙ h.on.turns ∙ turns;
        more = omega (arith, more, tried, new-tried);
        few = omega (arith, few, new-tried, new-turns);
      };
      tried = omega (arith, nodes, tried, new-tried);
    }
visit_same d old inner after new Placed case marks turns tried new-case edges new-marks new-turns new-tried spots h = subst (IsLegalPlacement d) (sym spots) h
visit_same d old inner after new Spent case marks turns tried new-case edges new-marks new-turns new-tried spots h =
    let more = h.more in
    let nodes = h.nodes in
    record {
      turns = new-turns ∙ h.turns ∙ turns;
      more = omega (arith, more, new-turns, new-tried);
      added = h.added;
      is = new-marks ∙ h.is ∙ ap (λ ms. ms ++ h.added) marks;
      unfinished = subst (λ cs. IsUnfinished d cs h.added) case h.unfinished;
      nodes = omega (arith, nodes, tried, new-tried);
    }
