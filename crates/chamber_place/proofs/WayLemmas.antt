-- A case goes on its way by one option, and back.
use Rattle.std.proofs.Common.{◌≡◌, ◌⊎◌, ℕ, zero, suc, ◌+◌, ◌-◌, ◌<◌, ◌≤◌, List, [], ◌∷◌, ◌++◌, length, map, flat_map, take, drop, cond, nat_eq, slice_index_or, inl, inr, refl, sym, ap, ◌∙◌, subst, arith, Some, None, length-append, append-nil}
use Rattle.std.proofs.lemmas.Bool.{cases_lt}
use Rattle.std.proofs.lemmas.Bool.Decides.{eqb_tells}
use Rattle.std.proofs.lemmas.List.{length-map, length-take-le, take-take, get_or_append_left, get_or_push, get_or-take, get_or-map, get_or_default, drop_all, drop_more, take-append-le}
use Rattle.std.proofs.lemmas.List.Concat.{flat_map-append}
use Rattle.std.proofs.lemmas.Option.{none-some}
use Rattle.std.specs.declared.option.Option.{Option}
use Rattle.lock_model.specs.Deck.{Deck}
use Rattle.lock_model.specs.declared.placement.Moor.TheVariants.{Ship}
use Rattle.lock_model.specs.declared.placement.Rank.{Rank}
use Rattle.lock_model.specs.declared.placement.Rank.TheVariants.{Left, Right}
use Rattle.lock_model.specs.declared.placement.Moor.{Moor}
use Rattle.lock_model.specs.declared.placement.Moor.TheVariants.{Quay}
use Rattle.lock_rules.specs.Arrival.{numbers_from}
use Rattle.diff_rules.specs.declared.edges.Edge.{Edge}
use Rattle.diff_system.specs.PathTree.{PathTree}
use Rattle.refute_rules.specs.declared.choices.Berth.{Berth}
use Rattle.refute_rules.specs.declared.choices.Decision.{Decision}
use Rattle.refute_rules.specs.declared.choices.Decision.TheVariants.{BerthOf, PairOf, XOf}
use Rattle.refute_rules.specs.declared.choices.Choice.{Choice}
use Rattle.refute_rules.specs.declared.choices.Choice.TheVariants.{Lies, Before, Below, LiesAt}
use Rattle.refute_rules.specs.Choices.{options_of, decisions}
use Rattle.refute_rules.specs.Edges.{case_edges, choice_edges, ship_edges, berth_edges}
use Rattle.refute_rules.specs.Decided.{berth_in, HasOtherRank}
use Rattle.refute_rules.specs.Cases.{IsConsistent, IsCaseFault}
use Rattle.case_search.specs.Rules.{options_first}
use Rattle.case_search.proofs.ListLemmas.{append-assoc, take-front, take-all}
use Rattle.refute_rules.proofs.Among.{all-map, all-weaker, all-numbers}
use Rattle.std.specs.List.{AllByRecursion}
use Rattle.list_laws.proofs.Lists.{length-push}
use Rattle.list_laws.proofs.ByRecursion.{all-append}
use Rattle.chamber_place.specs.CaseLaws.{fault-inconsistent}
use Rattle.deck_cases.specs.Asked.{IsAsked, IsOfDeck}
use Rattle.chamber_place.specs.Faults.{fault_of}
use Rattle.chamber_place.specs.OnItsWay.{most_edges, AreChosen, no_paths, paths_at, IsSettled, IsState, IsOnItsWay}
use Rattle.chamber_place.specs.declared.faults.CaseFault.{CaseFault}
use Rattle.deck_cases.proofs.DecisionLemmas.{case-asked}
use Rattle.deck_cases.proofs.OptionLemmas.{berth_count, berth_at}
use Rattle.refute_rules.specs.Values.{spot_values}
use Rattle.lock_rules.proofs.LineLemmas.{numbers_more}

-- ---- lists
pub edges-push : (d : Deck) (ps : List Choice) (p : Choice) → case_edges d (ps ++ p ∷ []) ≡ case_edges d ps ++ choice_edges d p
edges-push d ps p =
    ap (λ l. flat_map (ship_edges d) (numbers_from 0 (length d.ships)) ++ l) (flat_map-append (choice_edges d) ps (p ∷ []) ∙ ap (λ l. flat_map (choice_edges d) ps ++ l) (append-nil (choice_edges d p)))
    ∙ sym (append-assoc (flat_map (ship_edges d) (numbers_from 0 (length d.ships))) (flat_map (choice_edges d) ps) (choice_edges d p))

take-last : {X : Type 0} (xs : List X) (n : ℕ) (x : X) → length xs ≡ n + 1 → slice_index_or xs n x ≡ x → xs ≡ take n xs ++ x ∷ []
take-last [] n x h e = absurd (omega (arith, h))
take-last (y ∷ []) zero x h e = ap (λ z. z ∷ []) e
take-last (y ∷ z ∷ xs) zero x h e = absurd (omega (arith, h))
take-last (y ∷ xs) (suc n) x h e = ap (λ l. y ∷ l) (take-last xs n x (omega (arith, h)) e)

-- ---- ranks
berth-append : (case : List Choice) (c : Choice) (i : ℕ) → berth_in (c ∷ []) i ≡ None → berth_in (case ++ c ∷ []) i ≡ berth_in case i
berth-append [] c i e = e
berth-append (Lies j b ∷ cs) c i e = ap (λ o. cond (nat_eq j i) (Some b) o) (berth-append cs c i e)
berth-append (Before j k ∷ cs) c i e = berth-append cs c i e
berth-append (Below j k ∷ cs) c i e = berth-append cs c i e
berth-append (LiesAt j v ∷ cs) c i e = berth-append cs c i e

-- an option that is no berth gives no host another rank
pub ranks-kept : (case : List Choice) (c : Choice) → ((i : ℕ) → berth_in (c ∷ []) i ≡ None) → ((i : ℕ) → HasOtherRank case i → ⊥) → (i : ℕ) → HasOtherRank (case ++ c ∷ []) i → ⊥
ranks-kept case c none ranks i h = ranks i (record {
  host = h.host;
  own = h.own;
  berth = h.berth;
  lies = sym (berth-append case c i (none i)) ∙ h.lies;
  decided = sym (berth-append case c h.host (none h.host)) ∙ h.decided;
  differ = h.differ;
})

-- a berth is decided for ships of the deck alone
berth-known : (d : Deck) (ds : List Decision) (ps : List Choice) (i : ℕ) (b : Berth) → AreChosen d ds ps → berth_in ps i ≡ Some b → i < length d.ships
berth-known d ds [] i b chosen e = absurd (none-some b e)
berth-known d [] (p ∷ ps) i b chosen e = absurd chosen
berth-known d (x ∷ ds) (Lies j c ∷ ps) i b chosen e = elim (eqb_tells j i) [
  | inl y ↦ subst (λ k. k < length d.ships) y.1 chosen.0.0
  | inr n ↦ berth-known d ds ps i b chosen.2 (sym (ap (λ t. cond t (Some c) (berth_in ps i)) n.0) ∙ e)
]
berth-known d (x ∷ ds) (Before j k ∷ ps) i b chosen e = berth-known d ds ps i b chosen.2 e
berth-known d (x ∷ ds) (Below j k ∷ ps) i b chosen e = berth-known d ds ps i b chosen.2 e
berth-known d (x ∷ ds) (LiesAt j v ∷ ps) i b chosen e = berth-known d ds ps i b chosen.2 e

pub ranks-all : (d : Deck) (ps : List Choice) → AreChosen d (decisions (length d.ships)) ps → ((i : ℕ) → i < length d.ships → HasOtherRank ps i → ⊥) → (i : ℕ) → HasOtherRank ps i → ⊥
ranks-all d ps chosen few i h = few i (berth-known d (decisions (length d.ships)) ps i _ chosen h.lies) h

-- ---- the empty case
pub ship-edges-push : (d : Deck) (n : ℕ) → flat_map (ship_edges d) (numbers_from 0 (n + 1)) ≡ flat_map (ship_edges d) (numbers_from 0 n) ++ ship_edges d n
ship-edges-push d n =
    ap (flat_map (ship_edges d)) (numbers_more 0 n ∙ ap (λ k. numbers_from 0 n ++ k ∷ []) (let z : 0 + n ≡ n = omega arith in z))
    ∙ flat_map-append (ship_edges d) (numbers_from 0 n) (n ∷ [])
    ∙ ap (λ l. flat_map (ship_edges d) (numbers_from 0 n) ++ l) (append-nil (ship_edges d n))

pub ranks-before : (ps before : List Choice) (i j : ℕ) → ps ≡ before ++ Before i j ∷ [] → ((k : ℕ) → HasOtherRank before k → ⊥) → (k : ℕ) → HasOtherRank ps k → ⊥
ranks-before ps before i j e ranks k h = ranks-kept before (Before i j) (λ n. refl) ranks k (subst (λ case. HasOtherRank case k) e h)

pub ranks-below : (ps before : List Choice) (i j : ℕ) → ps ≡ before ++ Below i j ∷ [] → ((k : ℕ) → HasOtherRank before k → ⊥) → (k : ℕ) → HasOtherRank ps k → ⊥
ranks-below ps before i j e ranks k h = ranks-kept before (Below i j) (λ n. refl) ranks k (subst (λ case. HasOtherRank case k) e h)

pub ranks-at : (ps before : List Choice) (i x : ℕ) → ps ≡ before ++ LiesAt i x ∷ [] → ((k : ℕ) → HasOtherRank before k → ⊥) → (k : ℕ) → HasOtherRank ps k → ⊥
ranks-at ps before i x e ranks k h = ranks-kept before (LiesAt i x) (λ n. refl) ranks k (subst (λ case. HasOtherRank case k) e h)

-- ---- the next decision
pub first-options : (d : Deck) (decided ds : List Decision) (k : ℕ) (x : Decision) → decided ≡ ds → k < length decided → options_first (options_of d) (drop k ds) ≡ options_of d (slice_index_or decided k x)
first-options d decided ds k x e h = ap (λ l. options_first (options_of d) (drop k l)) (sym e) ∙ ap (options_first (options_of d)) (drop_more decided k x h)

pub no-options : (d : Deck) (decided ds : List Decision) (k : ℕ) → decided ≡ ds → length decided ≤ k → options_first (options_of d) (drop k ds) ≡ []
no-options d decided ds k e h = ap (λ l. options_first (options_of d) (drop k l)) (sym e) ∙ ap (options_first (options_of d)) (drop_all k decided h)

pub asked-next : (d : Deck) (decided : List Decision) (k : ℕ) (x : Decision) → decided ≡ decisions (length d.ships) → k < length decided → slice_index_or decided k x ≡ x → IsAsked d [] x
asked-next d decided k x e h at = subst (IsAsked d []) (get_or_default decided k (BerthOf 0) x h ∙ at) (case-asked d [] decided e k h)

-- ---- one option more
berth-few : (d : Deck) (i : ℕ) (r : Rank) (m : Moor) → length (berth_edges d i r m) ≤ 4
berth-few d i Left Quay = omega arith
berth-few d i Right Quay = omega arith
berth-few d i Left (Ship k) = omega arith
berth-few d i Right (Ship k) = omega arith

pub option-few : (d : Deck) (x : Decision) (option : ℕ) → IsAsked d [] x → option < length (options_of d x) → length (choice_edges d (slice_index_or (options_of d x) option (Before 0 0))) ≤ most_edges x
option-few d (BerthOf i) option known h =
    let l = berth_count d i known.asked in
    subst (λ c. length (choice_edges d c) ≤ 4) (sym (berth_at d i option known.asked (omega (arith, h, l)))) (berth-few d i _ _)
option-few d (XOf i) option known h =
    let l = length-map (spot_values d) (LiesAt i) in
    subst (λ c. length (choice_edges d c) ≤ 0) (sym (get_or-map (LiesAt i) (spot_values d) option 0 (Before 0 0) (omega (arith, h, l)))) (omega arith)
option-few d (PairOf i j) zero known h = omega arith
option-few d (PairOf i j) (suc zero) known h = omega arith
option-few d (PairOf i j) (suc (suc zero)) known h = omega arith
option-few d (PairOf i j) (suc (suc (suc zero))) known h = omega arith
option-few d (PairOf i j) (suc (suc (suc (suc option)))) known h = absurd (omega (arith, h))

chosen-push : (d : Deck) (ds : List Decision) (ps : List Choice) (p : Choice) (x : Decision) (rest : List Decision) → AreChosen d ds ps → IsOfDeck d p → drop (length ps) ds ≡ x ∷ rest → length (choice_edges d p) ≤ most_edges x → AreChosen d ds (ps ++ p ∷ [])
chosen-push d [] [] p x rest chosen known e few = cc
chosen-push d (y ∷ ds) [] p x rest chosen known e few = (known, subst (λ z. length (choice_edges d p) ≤ most_edges z) (sym (head e)) few, tt)
  where
    head : y ∷ ds ≡ x ∷ rest → y ≡ x
    head e = cc
chosen-push d [] (q ∷ ps) p x rest chosen known e few = absurd chosen
chosen-push d (y ∷ ds) (q ∷ ps) p x rest chosen known e few = (chosen.0, chosen.1, chosen-push d ds ps p x rest chosen.2 known e few)

take-chosen : (d : Deck) (ds : List Decision) (ps : List Choice) (n : ℕ) → AreChosen d ds ps → AreChosen d ds (take n ps)
take-chosen d ds [] zero chosen = tt
take-chosen d ds [] (suc n) chosen = tt
take-chosen d ds (p ∷ ps) zero chosen = tt
take-chosen d [] (p ∷ ps) (suc n) chosen = absurd chosen
take-chosen d (x ∷ ds) (p ∷ ps) (suc n) chosen = (chosen.0, chosen.1, take-chosen d ds ps n chosen.2)

module _ (d : Deck) (decided : List Decision) (picks : List Choice) (edges : List Edge) (paths : List PathTree) (fault : Option CaseFault) (way : IsOnItsWay d decided picks edges paths fault) where
  abbrev case : List Choice
  case = picks

  pub settled-consistent : (cs : List Choice) (tree : PathTree) → IsSettled d cs tree → IsConsistent d cs
  settled-consistent cs tree settled = record { values = tree.values; solution = settled.longest.least.solution; ranks = settled.ranks }

  -- in a good case the last paths are those of the whole case
  pub last-settled : length paths ≡ suc (length picks) → IsSettled d case (paths_at paths (length picks))
  last-settled count = subst (λ ps. IsSettled d ps (paths_at paths (length picks))) (take-all picks (length picks) (omega arith)) (way.settled (length picks) (omega (arith, count)))

  pub whole-consistent : length paths ≡ suc (length picks) → IsConsistent d case
  whole-consistent count = settled-consistent case (paths_at paths (length picks)) (last-settled count)

  good-count : (f : Option CaseFault) → IsState d picks paths f → IsConsistent d case → length paths ≡ suc (length picks)
  good-count None state good = state
  good-count (Some f) state good = absurd (fault-inconsistent d case (fault_of f) state.1 good)

  good-none : (f : Option CaseFault) → IsState d picks paths f → IsConsistent d case → f ≡ None
  good-none None state good = refl
  good-none (Some f) state good = absurd (fault-inconsistent d case (fault_of f) state.1 good)

  pub good-fault : IsConsistent d case → fault ≡ None
  good-fault good = good-none fault way.state good

  pub good-paths : IsConsistent d case → length paths ≡ suc (length picks)
  good-paths good = good-count fault way.state good

  module _ (p : Choice) (x : Decision) (option : ℕ) (good : IsConsistent d case) (at : slice_index_or decided (length picks) x ≡ x) (less : length picks < length decided) (known : IsOfDeck d p) (few : option < length (options_of d x)) (is : p ≡ slice_index_or (options_of d x) option (Before 0 0)) where
    abbrev more : List Choice
    more = picks ++ p ∷ []

    pub more-chosen : AreChosen d (decisions (length d.ships)) more
    more-chosen =
        let here = asked-next d decided (length picks) x way.in_order less at in
        chosen-push d (decisions (length d.ships)) picks p x (drop (length picks + 1) decided) way.chosen known
        (ap (drop (length picks)) (sym way.in_order) ∙ drop_more decided (length picks) x less ∙ ap (λ y. y ∷ drop (length picks + 1) decided) at)
        (subst (λ c. length (choice_edges d c) ≤ most_edges x) (sym is) (option-few d x option here few))

    pub more-edges : edges ++ choice_edges d p ≡ case_edges d more
    more-edges = ap (λ es. es ++ choice_edges d p) way.edges_are ∙ sym (edges-push d picks p)

    kept-settled : (k : ℕ) → k < length paths → IsSettled d (take k more) (paths_at paths k)
    kept-settled k h =
        let count = good-paths good in
        subst (λ ps. IsSettled d ps (paths_at paths k)) (sym (take-append-le k picks (p ∷ []) (omega (arith, h, count)))) (way.settled k h)

    -- a faulty option
    pub more-faulty : (f : CaseFault) → IsCaseFault d more (fault_of f) → IsOnItsWay d decided more (edges ++ choice_edges d p) paths (Some f)
    more-faulty f faulty = record {
      limits = way.limits;
      in_order = way.in_order;
      chosen = more-chosen;
      edges_are = more-edges;
      settled = kept-settled;
      state = (let count = good-paths good in let l = length-push picks p in omega (arith, count, l), faulty);
    }

    -- a good option
    pub more-good : (tree : PathTree) → IsSettled d more tree → IsOnItsWay d decided more (edges ++ choice_edges d p) (paths ++ tree ∷ []) None
    more-good tree settled = record {
      limits = way.limits;
      in_order = way.in_order;
      chosen = more-chosen;
      edges_are = more-edges;
      settled = λ k h. all k h (cases_lt k (length paths));
      state = let count = good-paths good in let l = length-push picks p in let m = length-push paths tree in omega (arith, count, l, m);
    }
      where
        all : (k : ℕ) → k < length (paths ++ tree ∷ []) → (k < length paths) ⊎ (length paths ≤ k) → IsSettled d (take k more) (paths_at (paths ++ tree ∷ []) k)
        all k h (inl y) = subst (λ t. IsSettled d (take k more) t) (sym (get_or_append_left paths (tree ∷ []) no_paths k y)) (kept-settled k y)
        all k h (inr n) =
            let m = length-push paths tree in
            let count = good-paths good in
            let l = length-push picks p in
            let end : k ≡ length paths = omega (arith, h, n, m) in
            subst (λ t. IsSettled d (take k more) t) (sym (ap (λ i. slice_index_or (paths ++ tree ∷ []) i no_paths) end ∙ get_or_push paths tree no_paths (length paths) refl))
            (subst (λ ps. IsSettled d ps tree) (sym (take-all more k (omega (arith, end, count, l)))) settled)

  -- the last option is taken back
  module _ (n : ℕ) (one : length picks ≡ n + 1) (p : Choice) (at : slice_index_or picks n p ≡ p) where
    abbrev fewer : List Choice
    fewer = take n picks

    split : picks ≡ fewer ++ p ∷ []
    split = take-last picks n p one at

    edges-split : edges ≡ case_edges d fewer ++ choice_edges d p
    edges-split = way.edges_are ∙ ap (λ ps. case_edges d ps) split ∙ edges-push d fewer p

    pub last-edges : length (choice_edges d p) ≤ length edges
    last-edges =
        let l = ap length edges-split ∙ length-append (case_edges d fewer) (choice_edges d p) in
        omega (arith, l)

    fewer-edges : take (length edges - length (choice_edges d p)) edges ≡ case_edges d fewer
    fewer-edges =
        let l = ap length edges-split ∙ length-append (case_edges d fewer) (choice_edges d p) in
        let m : length edges - length (choice_edges d p) ≡ length (case_edges d fewer) = omega (arith, l) in
        ap (λ i. take i edges) m ∙ ap (take (length (case_edges d fewer))) edges-split ∙ take-front (case_edges d fewer) (choice_edges d p)

    paths-count : (f : Option CaseFault) → IsState d picks paths f → n + 1 ≤ length paths
    paths-count None state = omega (arith, one, state)
    paths-count (Some f) state = let count = state.0 in omega (arith, one, count)

    pub back-way : IsOnItsWay d decided fewer (take (length edges - length (choice_edges d p)) edges) (take (n + 1) paths) None
    back-way = record {
      limits = way.limits;
      in_order = way.in_order;
      chosen = take-chosen d (decisions (length d.ships)) picks n way.chosen;
      edges_are = fewer-edges;
      settled = λ k h. kept k h;
      state = let l = length-take-le (n + 1) paths (paths-count fault way.state) in let m = length-take-le n picks (omega (arith, one)) in omega (arith, l, m);
    }
      where
        kept : (k : ℕ) → k < length (take (n + 1) paths) → IsSettled d (take k fewer) (paths_at (take (n + 1) paths) k)
        kept k h =
            let l = length-take-le (n + 1) paths (paths-count fault way.state) in
            let few : k < n + 1 = omega (arith, h, l) in
            let all = paths-count fault way.state in
            subst (λ t. IsSettled d (take k fewer) t) (sym (get_or-take (n + 1) paths k no_paths few))
            (subst (λ ps. IsSettled d ps (paths_at paths k)) (sym (take-take k n picks (omega (arith, few)))) (way.settled k (omega (arith, few, all))))

    pub back-case : (before : List Choice) (last : Choice) → picks ≡ before ++ last ∷ [] → fewer ≡ before
    back-case before last e =
        let l = ap length e ∙ length-push before last in
        let same : n ≡ length before = omega (arith, one, l) in
        ap (take n) e ∙ ap (λ i. take i (before ++ last ∷ [])) same ∙ take-front before (last ∷ [])
