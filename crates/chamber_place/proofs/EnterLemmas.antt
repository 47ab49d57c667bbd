-- What the next option of a case is.
use Rattle.std.proofs.Common.{◌≡◌, ℕ, ◌+◌, ◌-◌, ◌<◌, ◌≤◌, List, [], ◌∷◌, ◌++◌, length, map, take, drop, Some, None, slice_index_or, inl, inr, sym, ap, ◌∙◌, subst, arith}
use Rattle.std.proofs.lemmas.Bool.{cases_lt}
use Rattle.std.proofs.lemmas.List.{length-map, get_or_default}
use Rattle.std.specs.declared.option.Option.{Option}
use Rattle.lock_model.specs.Deck.{Deck}
use Rattle.diff_rules.specs.declared.edges.Edge.{Edge}
use Rattle.diff_system.specs.PathTree.{PathTree, AreLongest}
use Rattle.refute_rules.specs.Edges.{case_edges, choice_edges}
use Rattle.refute_rules.specs.Decided.{HasOtherRank}
use Rattle.refute_rules.specs.Cases.{IsConsistent, IsCaseFault, vars_of}
use Rattle.refute_rules.specs.declared.choices.Decision.{Decision}
use Rattle.refute_rules.specs.declared.choices.Decision.TheVariants.{BerthOf}
use Rattle.refute_rules.specs.declared.choices.Choice.{Choice}
use Rattle.refute_rules.specs.declared.choices.Choice.TheVariants.{Before}
use Rattle.refute_rules.specs.Choices.{options_of, decisions}
use Rattle.case_search.specs.Rules.{options_first, options_at, with_option}
use Rattle.deck_cases.specs.Asked.{IsAsked, IsOfDeck}
use Rattle.chamber_place.specs.Faults.{fault_of}
use Rattle.chamber_place.specs.declared.faults.CaseFault.{CaseFault}
use Rattle.case_search.proofs.ListLemmas.{take-front}
use Rattle.deck_cases.proofs.DecisionLemmas.{case-few}
use Rattle.chamber_place.proofs.EdgeLemmas.{case-edges-few}
use Rattle.chamber_place.specs.OnItsWay.{Progress, case_rules, AreChosen, no_paths, paths_at, IsSettled, IsOnItsWay}
use Rattle.chamber_place.proofs.WayLemmas.{first-options, no-options, asked-next, good-paths, good-fault, last-settled, more-chosen, more-edges, more-faulty, more-good, last-edges, back-way, back-case}

abbrev pub progress_of : Deck → List Choice → Progress
progress_of d picks = record { deck = d; case = picks }

module _ (d : Deck) (decided : List Decision) (picks : List Choice) (in_order : decided ≡ decisions (length d.ships)) where
  -- the options of the next decision
  pub options-next : (x : Decision) → length picks < length decided → slice_index_or decided (length picks) x ≡ x → options_at (case_rules d) picks ≡ options_of d x
  options-next x less at =
      first-options d decided (decisions (length d.ships)) (length picks) x in_order less
      ∙ ap (λ y. options_of d y) at

  pub options-none : length decided ≤ length picks → options_at (case_rules d) picks ≡ []
  options-none most =
      no-options d decided (decisions (length d.ships)) (length picks) in_order most

  module _ (v : Progress) (view : progress_of d picks ≡ v) (option : ℕ) (h : option < length (options_at (case_rules v.deck) v.case)) where
    here : option < length (options_at (case_rules d) picks)
    here = subst (λ u. option < length (options_at (case_rules u.deck) u.case)) (sym view) h

    pub next-less : length picks < length decided
    next-less = elim (cases_lt (length picks) (length decided)) [ inl l ↦ l | inr m ↦ absurd (none (ap length (options-none m))) ]
      where
        none : length (options_at (case_rules d) picks) ≡ 0 → ⊥
        none e = let l = here in omega (arith, l, e)

    pub next-option : (x : Decision) → slice_index_or decided (length picks) x ≡ x → option < length (options_of d x)
    next-option x at = subst (λ cs. option < length cs) (options-next x next-less at) here

    pub next-case : (p : Choice) (x : Decision) → slice_index_or decided (length picks) x ≡ x → p ≡ slice_index_or (options_of d x) option (Before 0 0) → (picks ++ p ∷ []) ≡ with_option (case_rules v.deck) v.case option
    next-case p x at is =
        ap (λ c. picks ++ c ∷ []) (is ∙ sym (ap (λ cs. slice_index_or cs option (Before 0 0)) (options-next x next-less at)))
        ∙ ap (λ u. with_option (case_rules u.deck) u.case option) view

module _ (d : Deck) (decided : List Decision) (picks : List Choice) (edges : List Edge) (paths : List PathTree) (fault : Option CaseFault) (way : IsOnItsWay d decided picks edges paths fault) (v : Progress) (view : progress_of d picks ≡ v) (option : ℕ) (is_good : IsConsistent v.deck v.case) (h : option < length (options_at (case_rules v.deck) v.case)) (k : ℕ) (k_is : k ≡ length picks) where
  good : IsConsistent d picks
  good = subst (λ u. IsConsistent u.deck u.case) (sym view) is_good

  less : length picks < length decided
  less = next-less d decided picks way.in_order v view option h

  pub enter-less : k < length decided
  enter-less = let l = less in omega (arith, l, k_is)

  pub enter-fits : length picks < 36
  enter-fits = let l = less in let all = ap length way.in_order in let few = case-few (length d.ships) way.limits.count.1 in omega (arith, l, all, few)

  pub enter-bounds : k < length paths
  enter-bounds = let count = good-paths d decided picks edges paths fault way good in omega (arith, count, k_is)

  pub enter-room : length edges ≤ 92
  enter-room = let few = way.limits.count.1 in subst (λ es. length es ≤ 92) (sym way.edges_are) (case-edges-few d picks few way.chosen)

  module _ (next : Decision) (next_is : next ≡ slice_index_or decided k (BerthOf 0)) where
    next-is : slice_index_or decided (length picks) (BerthOf 0) ≡ next
    next-is = sym (next_is ∙ ap (λ n. slice_index_or decided n (BerthOf 0)) k_is)

    next-at : slice_index_or decided (length picks) next ≡ next
    next-at = subst (λ x. slice_index_or decided (length picks) x ≡ x) next-is (get_or_default decided (length picks) (slice_index_or decided (length picks) (BerthOf 0)) (BerthOf 0) less)

    pub enter-known : IsAsked d [] next
    enter-known = asked-next d decided (length picks) next way.in_order less next-at

    pub enter-option : option < length (options_of d next)
    enter-option = next-option d decided picks way.in_order v view option h next next-at

    module _ (p : Choice) (known : IsOfDeck d p) (is : p ≡ slice_index_or (options_of d next) option (Before 0 0)) (ps : List Choice) (ps_are : ps ≡ picks ++ p ∷ []) where
      pub enter-chosen : AreChosen d (decisions (length d.ships)) ps
      enter-chosen = subst (AreChosen d (decisions (length d.ships))) (sym ps_are) (more-chosen d decided picks edges paths fault way p next option good next-at less known enter-option is)

      pub enter-last : (before : List Choice) × (ps ≡ before ++ p ∷ []) × ((i : ℕ) → HasOtherRank before i → ⊥)
      enter-last = (picks, ps_are, good.ranks)

      pub enter-case : ps ≡ with_option (case_rules v.deck) v.case option
      enter-case = ps_are ∙ next-case d decided picks way.in_order v view option h p next next-at is

      module _ (es : List Edge) (es_are : es ≡ edges ++ choice_edges d p) where
        pub enter-edges : es ≡ case_edges d ps
        enter-edges = es_are ∙ more-edges d decided picks edges paths fault way p next option good next-at less known enter-option is ∙ ap (λ qs. case_edges d qs) (sym ps_are)

        pub enter-longest : (n : ℕ) → n ≡ length edges → (t : PathTree) → slice_index_or paths k t ≡ t → AreLongest (take n es) (vars_of d) t
        enter-longest n n_is t at =
            let count = good-paths d decided picks edges paths fault way good in
            let same : paths_at paths (length picks) ≡ t = get_or_default paths (length picks) no_paths t (omega (arith, count)) ∙ ap (λ i. slice_index_or paths i t) (sym k_is) ∙ at in
            subst (λ q. AreLongest q (vars_of d) t) (sym way.edges_are ∙ sym (ap (λ i. take i es) n_is ∙ ap (take (length edges)) es_are ∙ take-front edges (choice_edges d p)))
            (subst (AreLongest (case_edges d picks) (vars_of d)) same (last-settled d decided picks edges paths fault way count).longest)

        pub enter-faulty : (f : CaseFault) → IsCaseFault d ps (fault_of f) → IsOnItsWay d decided ps es paths (Some f)
        enter-faulty f faulty =
            subst (λ q. IsOnItsWay d decided ps q paths (Some f)) (sym es_are)
            (subst (λ qs. IsOnItsWay d decided qs (edges ++ choice_edges d p) paths (Some f)) (sym ps_are)
            (more-faulty d decided picks edges paths fault way p next option good next-at less known enter-option is f (subst (λ qs. IsCaseFault d qs (fault_of f)) ps_are faulty)))

        pub enter-good : (tree : PathTree) (grown : List PathTree) → grown ≡ paths ++ tree ∷ [] → IsSettled d ps tree → IsOnItsWay d decided ps es grown fault
        enter-good tree grown grown_are settled =
            subst (IsOnItsWay d decided ps es grown) (sym (good-fault d decided picks edges paths fault way good))
            (subst (λ ts. IsOnItsWay d decided ps es ts None) (sym grown_are)
            (subst (λ q. IsOnItsWay d decided ps q (paths ++ tree ∷ []) None) (sym es_are)
            (subst (λ qs. IsOnItsWay d decided qs (edges ++ choice_edges d p) (paths ++ tree ∷ []) None) (sym ps_are)
            (more-good d decided picks edges paths fault way p next option good next-at less known enter-option is tree (subst (λ qs. IsSettled d qs tree) ps_are settled)))))

module _ (d : Deck) (decided : List Decision) (picks : List Choice) (edges : List Edge) (paths : List PathTree) (fault : Option CaseFault) (way : IsOnItsWay d decided picks edges paths fault) (v : Progress) (view : progress_of d picks ≡ v) (some : 0 < length v.case) (m : ℕ) (m_is : m ≡ length picks) (qs : List Choice) (qs_are : qs ≡ picks) (e : Choice) (count : ℕ) (count_is : count ≡ length (choice_edges d (slice_index_or qs (m - 1) e))) (es : List Edge) (es_are : es ≡ edges) where
  last : Choice
  last = slice_index_or qs (m - 1) e

  one : length picks ≡ (m - 1) + 1
  one =
      let s = subst (λ (u : Progress). 0 < length u.case) (sym view) some in
      omega (arith, m_is, s)

  last-at : slice_index_or picks (m - 1) last ≡ last
  unfolding last
  last-at =
      let few : m - 1 < length picks = let o = one in omega (arith, o) in
      subst (λ ps. slice_index_or picks (m - 1) (slice_index_or ps (m - 1) e) ≡ slice_index_or ps (m - 1) e) (sym qs_are) (get_or_default picks (m - 1) (slice_index_or picks (m - 1) e) e few)

  pub leave-fits : count ≤ length es
  unfolding last
  leave-fits =
      let l = last-edges d decided picks edges paths fault way (m - 1) one last last-at in
      let n = ap length es_are in
      omega (arith, l, n, count_is)

  pub leave-way : (ps : List Choice) → ps ≡ take (m - 1) picks → (fs : List Edge) → fs ≡ take (length es - count) edges → (ts : List PathTree) → ts ≡ take (m - 1 + 1) paths → IsOnItsWay d decided ps fs ts None
  unfolding last
  leave-way ps ps_are fs fs_are ts ts_are =
      subst (λ q. IsOnItsWay d decided q fs ts None) (sym ps_are)
      (subst (λ q. IsOnItsWay d decided (take (m - 1) picks) q ts None) (sym (fs_are ∙ (ap (λ (n : ℕ). take (n - count) edges) (ap length es_are) ∙ ap (λ (n : ℕ). take (length edges - n) edges) count_is)))
      (subst (λ q. IsOnItsWay d decided (take (m - 1) picks) (take (length edges - length (choice_edges d last)) edges) q None) (sym ts_are)
      (back-way d decided picks edges paths fault way (m - 1) one last last-at)))

  pub leave-case : (ps : List Choice) → ps ≡ take (m - 1) picks → (before : List Choice) (end : Choice) → v.case ≡ before ++ end ∷ [] → ps ≡ before
  leave-case ps ps_are before end is =
      ps_are ∙ back-case d decided picks edges paths fault way (m - 1) one last last-at before end (ap (λ (u : Progress). u.case) view ∙ is)

-- the paths of a good case
module _ (d : Deck) (decided : List Decision) (picks : List Choice) (edges : List Edge) (paths : List PathTree) (fault : Option CaseFault) (way : IsOnItsWay d decided picks edges paths fault) (v : Progress) (view : progress_of d picks ≡ v) (is_good : IsConsistent v.deck v.case) (qs : List Choice) (qs_are : qs ≡ picks) where
  pub good-bounds : length qs < length paths
  good-bounds =
      let count = good-paths d decided picks edges paths fault way (subst (λ u. IsConsistent u.deck u.case) (sym view) is_good) in
      let l = ap length qs_are in
      omega (arith, count, l)

  pub good-settled : (ts : List PathTree) → ts ≡ paths → (t : PathTree) → t ≡ slice_index_or ts (length qs) t → IsSettled d qs t
  good-settled ts ts_are t at =
      let count = good-paths d decided picks edges paths fault way (subst (λ u. IsConsistent u.deck u.case) (sym view) is_good) in
      let same : paths_at paths (length picks) ≡ t = get_or_default paths (length picks) no_paths t (omega (arith, count)) ∙ sym (at ∙ ap (λ us. slice_index_or us (length qs) t) ts_are ∙ ap (λ ps. slice_index_or paths (length ps) t) qs_are) in
      subst (λ ps. IsSettled d ps t) (sym qs_are) (subst (IsSettled d picks) same (last-settled d decided picks edges paths fault way count))
