-- Where it is known which groups fit, the tree has a least bound.
use Rattle.std.proofs.Common.{◌≡◌, ℕ, zero, suc, ◌<◌, ◌≤◌, List, [], ◌∷◌, length, All, Contains, ◌⊎◌, inl, inr, refl, sym, subst, arith}
use Rattle.std.proofs.lemmas.Bool.Decides.{eqb_tells, leb_tells}
use Rattle.std.proofs.lemmas.List.Elements.{All-head, All-tail, All-nil, All-cons}
use Rattle.lock_model.specs.Fitting.{deck_of, Fits}
use Rattle.lock_model.specs.declared.instance.Instance.{Instance}
use Rattle.lock_model.specs.declared.group.Group.{Group}
use Rattle.lock_rules.specs.Node.{line_at, root_lines}
use Rattle.lock_rules.specs.Children.{children_of}
use Rattle.lock_rules.specs.Unfit.{HasNoUnfit}
use Rattle.lock_rules.specs.Singles.{singles_plan}
use Rattle.lock_rules.specs.Search.{IsWholeUnder, IsLeastUnder, IsLeastBound, FitsAreDecided, whole_bound}
use Rattle.list_laws.specs.Among.{IsAmong}
use Rattle.lock_rules.proofs.TreeLemmas.{contains-among}
use Rattle.lock_rules.proofs.SinglesLemmas.{singles-legal}
use Rattle.lock_rules.proofs.SearchLemmas.{plan-whole}

all-decided : {X : Type 0} (P : X → Type 0) → ((x : X) → P x ⊎ (P x → ⊥)) → (xs : List X) → All P xs ⊎ (All P xs → ⊥)
all-decided P decide [] = inl (All-nil P)
all-decided P decide (x ∷ xs) =
    elim (decide x) [
      | inl here ↦ elim (all-decided P decide xs) [ inl rest ↦ inl (All-cons P x xs here rest) | inr none ↦ inr (λ all. none (All-tail P x xs all)) ]
      | inr none ↦ inr (λ all. none (All-head P x xs all))
    ]

among-contained : {X : Type 0} (xs : List X) (x : X) → Contains xs x → IsAmong xs x
among-contained [] x (k, known, is) = absurd (omega (arith, known))
among-contained (y ∷ ys) x (zero, known, is) = inl is
among-contained (y ∷ ys) x (suc k, known, is) = inr (among-contained ys x (k, omega (arith, known), is))

module _ (I : Instance) where
  -- the least bound below some nodes of depth k
  pub record IsLeastOf (left k : ℕ) (nodes : List (List (List Group))) (b : ℕ) : Type 0 where
    pub above : List (List Group)
    pub node : List (List Group)
    pub among : IsAmong nodes above
    pub whole : IsWholeUnder I left k above node
    pub own : whole_bound I node ≡ b
    pub least : (above other : List (List Group)) → IsAmong nodes above → IsWholeUnder I left k above other → b ≤ whole_bound I other

  -- the least bound below the lines, or that there is none
  abbrev Told : ℕ → ℕ → List (List Group) → Type 0
  Told left k lines = ((b : ℕ) × IsLeastUnder I left k lines b) ⊎ ((other : List (List Group)) → IsWholeUnder I left k lines other → ⊥)

  abbrev ToldOf : ℕ → ℕ → List (List (List Group)) → Type 0
  ToldOf left k nodes = ((b : ℕ) × IsLeastOf left k nodes b) ⊎ ((above other : List (List Group)) → IsAmong nodes above → IsWholeUnder I left k above other → ⊥)

  module _ (left k : ℕ) (x : List (List Group)) (xs : List (List (List Group))) where
    first : (b : ℕ) → IsLeastUnder I left k x b → ((above other : List (List Group)) → IsAmong xs above → IsWholeUnder I left k above other → b ≤ whole_bound I other) → IsLeastOf left k (x ∷ xs) b
    first b here rest = record { above = x; node = here.node; among = inl refl; whole = here.whole; own = here.own; least = least }
      where
        least : (above other : List (List Group)) → IsAmong (x ∷ xs) above → IsWholeUnder I left k above other → b ≤ whole_bound I other
        least above other (inl same) whole = here.least other (subst (λ y. IsWholeUnder I left k y other) (sym same) whole)
        least above other (inr among) whole = rest above other among whole

    later : (b : ℕ) → IsLeastOf left k xs b → ((other : List (List Group)) → IsWholeUnder I left k x other → b ≤ whole_bound I other) → IsLeastOf left k (x ∷ xs) b
    later b rest here = record { above = rest.above; node = rest.node; among = inr rest.among; whole = rest.whole; own = rest.own; least = least }
      where
        least : (above other : List (List Group)) → IsAmong (x ∷ xs) above → IsWholeUnder I left k above other → b ≤ whole_bound I other
        least above other (inl same) whole = here other (subst (λ y. IsWholeUnder I left k y other) (sym same) whole)
        least above other (inr among) whole = rest.least above other among whole

    none : ((other : List (List Group)) → IsWholeUnder I left k x other → ⊥) → ((above other : List (List Group)) → IsAmong xs above → IsWholeUnder I left k above other → ⊥) → (above other : List (List Group)) → IsAmong (x ∷ xs) above → IsWholeUnder I left k above other → ⊥
    none here rest above other (inl same) whole = here other (subst (λ y. IsWholeUnder I left k y other) (sym same) whole)
    none here rest above other (inr among) whole = rest above other among whole

    more : Told left k x → ToldOf left k xs → ToldOf left k (x ∷ xs)
    more (inl (b, here)) (inl (c, rest)) =
        elim (leb_tells b c) [
          | inl less ↦ inl (b, first b here (λ above other among whole. let low = rest.least above other among whole in omega (arith, less.1, low)))
          | inr past ↦ inl (c, later c rest (λ other whole. let low = here.least other whole in omega (arith, past.1, low)))
        ]
    more (inl (b, here)) (inr no_rest) = inl (b, first b here (λ above other among whole. absurd (no_rest above other among whole)))
    more (inr no_here) (inl (c, rest)) = inl (c, later c rest (λ other whole. absurd (no_here other whole)))
    more (inr no_here) (inr no_rest) = inr (none no_here no_rest)

  told-all : (left k : ℕ) → ((lines : List (List Group)) → Told left k lines) → (nodes : List (List (List Group))) → ToldOf left k nodes
  told-all left k each [] = inr (λ above other among whole. absurd among)
  told-all left k each (x ∷ xs) = more left k x xs (each x) (told-all left k each xs)

  -- a node's own least bound from those of its children
  up : (left k : ℕ) (lines : List (List Group)) → ToldOf left (suc k) (children_of I k lines) → Told (suc left) k lines
  up left k lines (inl (b, found)) = inl (
    b,
    record {
      node = found.node;
      whole = record { leads = (found.above, contains-among (children_of I k lines) found.above found.among, found.whole.leads); fit = found.whole.fit };
      own = found.own;
      least = λ other whole. found.least whole.leads.0 other (among-contained (children_of I k lines) whole.leads.0 whole.leads.1) (record { leads = whole.leads.2; fit = whole.fit });
    },
  )
  up left k lines (inr no_child) = inr (λ other whole. no_child whole.leads.0 other (among-contained (children_of I k lines) whole.leads.0 whole.leads.1) (record { leads = whole.leads.2; fit = whole.fit }))

  module _ (decided : FitsAreDecided I) where
    fit-below : (lines : List (List Group)) (m : ℕ) → ((c : ℕ) → c < m → All (λ g. Fits (deck_of I c g.ships)) (line_at lines c)) ⊎ (((c : ℕ) → c < m → All (λ g. Fits (deck_of I c g.ships)) (line_at lines c)) → ⊥)
    fit-below lines zero = inl (λ c less. absurd (omega (arith, less)))
    fit-below lines (suc m) =
        elim (fit-below lines m) [
          | inl before ↦ elim (all-decided (λ g. Fits (deck_of I m g.ships)) (λ g. decided.each m g.ships) (line_at lines m)) [
            | inl last ↦ inl (λ c less. elim (eqb_tells c m) [ inl same ↦ subst (λ c. All (λ g. Fits (deck_of I c g.ships)) (line_at lines c)) (sym same.1) last | inr other ↦ before c (omega (arith, less, other.1)) ])
            | inr no_last ↦ inr (λ each. no_last (each m (omega arith)))
          ]
          | inr no_before ↦ inr (λ each. no_before (λ c less. each c (omega (arith, less))))
        ]

    told : (left k : ℕ) (lines : List (List Group)) → Told left k lines
    told zero k lines = elim (fit-below lines (length I.chambers)) [
      | inl fit ↦ inl (
        whole_bound I lines,
        record { node = lines; whole = record { leads = refl; fit = record { each = fit } }; own = refl; least = λ other whole. subst (λ w. whole_bound I lines ≤ whole_bound I w) whole.leads (omega arith) },
      )
      | inr misfit ↦ inr (λ other whole. misfit (λ c known. subst (λ w. All (λ g. Fits (deck_of I c g.ships)) (line_at w c)) (sym whole.leads) (whole.fit.each c known)))
    ]
    told (suc left) k lines = up left k lines (told-all left (suc k) (told left (suc k)) (children_of I k lines))

    -- THE TREE HAS A LEAST BOUND where each ship fits some chamber alone.
    pub some-least : HasNoUnfit I → (b : ℕ) × IsLeastBound I b
    some-least fit = elim (told (length I.ships) 0 root_lines) [
      | inl found ↦ found
      | inr no_node ↦ let single = plan-whole I (singles_plan I) (singles-legal I fit) in absurd (no_node single.node single.whole)
    ]
