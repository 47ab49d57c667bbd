-- A certificate that doesn't stand fails somewhere: it can't be that it neither stands nor fails.
use Rattle.std.proofs.Common.{◌≡◌, ℕ, zero, suc, ◌-◌, List, [], ◌∷◌, ◌++◌, refl, subst, length, take, append_assoc, length-append, ◌⊎◌, inl, inr, All, arith}
use Rattle.std.proofs.Math.Seq.{take-append_seam, get_or-append_seam}
use Rattle.std.proofs.lemmas.List.{append-nil}
use Rattle.std.proofs.lemmas.List.Elements.{All-nil, All-push, All-same}
use Rattle.lock_model.specs.declared.instance.Instance.{Instance}
use Rattle.lock_model.specs.declared.group.Group.{Group}
use Rattle.lock_model.specs.declared.plan.Plan.{Plan}
use Rattle.lock_rules.specs.Node.{root_lines}
use Rattle.lock_rules.specs.Children.{children_of}
use Rattle.lock_rules.specs.Plan.{IsLegal, cost_of}
use Rattle.refute_rules.specs.Trees.{AreInOrder}
use Rattle.certificate_rules.specs.declared.certificate.Mark.{Mark}
use Rattle.certificate_rules.specs.declared.certificate.Mark.TheVariants as mark
use Rattle.certificate_rules.specs.declared.certificate.FailurePlace.{FailurePlace}
use Rattle.certificate_rules.specs.declared.certificate.FailurePlace.TheVariants as place
use Rattle.certificate_rules.specs.declared.certificate.Reason.{Reason}
use Rattle.certificate_rules.specs.declared.certificate.Reason.TheVariants as reason
use Rattle.closing_rules.specs.ProvedCuts.{CertCut, IsShaped, IsProved}
use Rattle.price_rules.specs.Prices.{PriceList}
use Rattle.closing_rules.specs.ListedPrices.{AreShapedPrices}
use Rattle.certificate_rules.specs.Certificates.{IsMarkTree}
use Rattle.certificate_rules.specs.Failures.{FailInOrder, FailsHere, TreeFails, MarksFail, CutFails, PricesFail, FailsAt, reason_of}

-- it can't be otherwise
abbrev Must : Type 0 → Type 0
Must A = (A → ⊥) → ⊥

must : {A : Type 0} → A → Must A
must a none = none a

next : {A B : Type 0} → Must A → (A → Must B) → Must B
next h f none = h (λ a. f a none)

one-way : (A : Type 0) → Must (A ⊎ (A → ⊥))
one-way A none = none (inr (λ a. none (inl a)))

-- reading ends behind what is read, or sticks
abbrev EndsOrSticks : {M : Type 0} → (List M → Type 0) → (List M → Reason → Type 0) → Type 0
EndsOrSticks {M} Read Sticks = ((rest : List M) × Read rest) ⊎ ((stuck : List M) × (r : Reason) × Sticks stuck r)

in_order-ends : {X M : Type 0} (Tree : X → List M → List M → Type 0) (Failing : X → List M → List M → Reason → Type 0)
    → ((x : X) (m : List M) → Must (EndsOrSticks (Tree x m) (Failing x m))) → (xs : List X) (m : List M) → Must (EndsOrSticks (AreInOrder Tree xs m) (FailInOrder Tree Failing xs m))
in_order-ends Tree Failing each [] m = must (inl (m, refl))
in_order-ends Tree Failing each (x ∷ xs) m =
    next (each x m) (λ own. elim own [
      | inl a ↦ next (in_order-ends Tree Failing each xs a.0) (λ later. elim later [
        | inl b ↦ must (inl (b.0, (a.0, a.1, b.1)))
        | inr b ↦ must (inr (b.0, b.1, inr (a.0, a.1, b.2)))
      ])
      | inr a ↦ must (inr (a.0, a.1, inl a.2))
    ])

-- the first mark closes, or reading ends there
here-ends : (Ends : Mark → Type 0) (marks : List Mark)
    → Must (((m : Mark) × (rest : List Mark) × Ends m × (marks ≡ m ∷ rest)) ⊎ ((stuck : List Mark) × (r : Reason) × FailsHere Ends marks stuck r))
here-ends Ends [] = must (inr ([], reason.TreeShort, (refl, refl)))
here-ends Ends (m ∷ ms) =
    next (one-way (Ends m)) (λ own. elim own [
      | inl closes ↦ must (inl (m, ms, closes, refl))
      | inr open' ↦ must (inr (m ∷ ms, reason_of m, (refl, open', refl)))
    ])

module _ (I : Instance) (Ends : ℕ → List (List Group) → Mark → Type 0) where
  abbrev Tree : ℕ → ℕ → List (List Group) → List Mark → List Mark → Type 0
  Tree = IsMarkTree I Ends

  abbrev Failing : ℕ → ℕ → List (List Group) → List Mark → List Mark → Reason → Type 0
  Failing = TreeFails I Ends

  tree-ends : (lacking k : ℕ) (lines : List (List Group)) (marks : List Mark) → Must (EndsOrSticks (Tree lacking k lines marks) (Failing lacking k lines marks))
  tree-ends zero k lines marks =
      next (here-ends (Ends k lines) marks) (λ first. elim first [
        | inl a ↦ must (inl (a.1, (a.0, a.2, a.3)))
        | inr f ↦ must (inr (f.0, f.1, f.2))
      ])
  tree-ends (suc lacking) k lines marks =
      next (here-ends (λ m. Ends k lines m ⊎ (m ≡ mark.Split)) marks) (λ first. elim first [
        | inl a ↦ elim a.2 [
          | inl closes ↦ must (inl (a.1, inl (a.0, closes, a.3)))
          | inr same ↦
              let front : marks ≡ mark.Split ∷ a.1 = subst (λ m. marks ≡ m ∷ a.1) same a.3 in
              next (in_order-ends (Tree lacking (suc k)) (Failing lacking (suc k)) (λ x m. tree-ends lacking (suc k) x m) (children_of I k lines) a.1) (λ inner. elim inner [
                | inl b ↦ must (inl (b.0, inr (a.1, front, b.1)))
                | inr b ↦ must (inr (b.0, b.1, inr (a.1, front, b.2)))
              ])
        ]
        | inr f ↦ must (inr (f.0, f.1, inl f.2))
      ])

  left-over : (marks rest : List Mark) → Tree (length I.ships) 0 root_lines marks rest → Tree (length I.ships) 0 root_lines marks [] ⊎ ((stuck : List Mark) × (r : Reason) × MarksFail I Ends marks stuck r)
  left-over marks [] tree = inl tree
  left-over marks (m ∷ ms) tree = inr (m ∷ ms, reason.TreeLong, inr ((λ e. absurd cc), refl, tree))

  marks-end : (marks : List Mark) → Must (Tree (length I.ships) 0 root_lines marks [] ⊎ ((stuck : List Mark) × (r : Reason) × MarksFail I Ends marks stuck r))
  marks-end marks =
      next (tree-ends (length I.ships) 0 root_lines marks) (λ read. elim read [
        | inl a ↦ must (left-over marks a.0 a.1)
        | inr f ↦ must (inr (f.0, f.1, inl f.2))
      ])

-- the first cut behind these that isn't proved
cut-fails : (I : Instance) (before after : List CertCut) (c : CertCut) (r : Reason) → All (IsProved I) before
    → ((IsShaped I c → ⊥) × (r ≡ reason.CutShape)) ⊎ (IsShaped I c × (IsProved I c → ⊥) × (r ≡ reason.CutUnproved)) → CutFails I (before ++ c ∷ after) (length before) r
cut-fails I before after c r proved why = record {
  cut = c;
  known = omega (arith, length-append before (c ∷ after));
  is = get_or-append_seam before c after c;
  before = All-same (IsProved I) (take (length before) (before ++ c ∷ after)) before (take-append_seam before (c ∷ after)) proved;
  unproved = why;
}

cuts-end : (I : Instance) (before after : List CertCut) → All (IsProved I) before → Must (All (IsProved I) (before ++ after) ⊎ ((c : ℕ) × (r : Reason) × CutFails I (before ++ after) c r))
cuts-end I before [] proved = must (inl (All-same (IsProved I) (before ++ []) before (append-nil before) proved))
cuts-end I before (c ∷ cs) proved =
    next (one-way (IsProved I c)) (λ own. elim own [
      | inl good ↦
          let whole : (before ++ c ∷ []) ++ cs ≡ before ++ c ∷ cs = append_assoc before (c ∷ []) cs in
          subst (λ cuts. Must (All (IsProved I) cuts ⊎ ((c : ℕ) × (r : Reason) × CutFails I cuts c r))) whole
          (cuts-end I (before ++ c ∷ []) cs (All-push (IsProved I) before c proved good))
      | inr bad ↦ next (one-way (IsShaped I c)) (λ shape. elim shape [
        | inl shaped ↦ must (inr (length before, reason.CutUnproved, cut-fails I before cs c reason.CutUnproved proved (inr (shaped, bad, refl))))
        | inr other ↦ must (inr (length before, reason.CutShape, cut-fails I before cs c reason.CutShape proved (inl (other, refl))))
      ])
    ])

-- the first prices behind these that aren't one for each ship
prices-fail : (I : Instance) (before after : List PriceList) (own : PriceList) → All (AreShapedPrices I) before → (AreShapedPrices I own → ⊥) → PricesFail I (before ++ own ∷ after) (length before) reason.PricesShape
prices-fail I before after own shaped other = record {
  own = own;
  known = omega (arith, length-append before (own ∷ after));
  is = get_or-append_seam before own after own;
  before = All-same (AreShapedPrices I) (take (length before) (before ++ own ∷ after)) before (take-append_seam before (own ∷ after)) shaped;
  misshaped = other;
  reason = refl;
}

prices-end : (I : Instance) (before after : List PriceList) → All (AreShapedPrices I) before → Must (All (AreShapedPrices I) (before ++ after) ⊎ ((v : ℕ) × (r : Reason) × PricesFail I (before ++ after) v r))
prices-end I before [] shaped = must (inl (All-same (AreShapedPrices I) (before ++ []) before (append-nil before) shaped))
prices-end I before (own ∷ us) shaped =
    next (one-way (AreShapedPrices I own)) (λ one. elim one [
      | inl good ↦
          let whole : (before ++ own ∷ []) ++ us ≡ before ++ own ∷ us = append_assoc before (own ∷ []) us in
          subst (λ prices. Must (All (AreShapedPrices I) prices ⊎ ((v : ℕ) × (r : Reason) × PricesFail I prices v r))) whole
          (prices-end I (before ++ own ∷ []) us (All-push (AreShapedPrices I) before own shaped good))
      | inr other ↦ must (inr (length before, reason.PricesShape, prices-fail I before us own shaped other))
    ])

-- what holds or fails is told whole
module _ (I : Instance) (Ends : ℕ → List (List Group) → Mark → Type 0) (cost : ℕ) (cuts : List CertCut) (prices : List PriceList) (plan : Plan) (tree : List Mark) where
  abbrev Holds : Type 0
  Holds = IsLegal I plan × (cost_of I plan ≡ cost) × All (IsProved I) cuts × All (AreShapedPrices I) prices × IsMarkTree I Ends (length I.ships) 0 root_lines tree []

  abbrev FailsFirst : FailurePlace → Reason → Type 0
  FailsFirst = FailsAt I cost cuts prices plan tree (MarksFail I Ends tree)

  holds-or_fails : Must (Holds ⊎ ((p : FailurePlace) × (r : Reason) × FailsFirst p r))
  holds-or_fails =
      next (one-way (IsLegal I plan)) (λ lawful. elim lawful [
        | inr broken ↦ must (inr (place.Plan, reason.PlanIllegal, (broken, refl)))
        | inl legal ↦ next (one-way (cost_of I plan ≡ cost)) (λ price. elim price [
          | inr wrong ↦ must (inr (place.Cost, reason.CostWrong, (legal, wrong, refl)))
          | inl costs ↦ next (cuts-end I [] cuts (All-nil (IsProved I))) (λ told. elim told [
            | inr f ↦ must (inr (place.Cut f.0, f.1, (legal, costs, f.2)))
            | inl proved ↦ next (prices-end I [] prices (All-nil (AreShapedPrices I))) (λ priced. elim priced [
              | inr f ↦ must (inr (place.Prices f.0, f.1, (legal, costs, proved, f.2)))
              | inl shaped ↦ next (marks-end I Ends tree) (λ marks. elim marks [
                | inl whole ↦ must (inl (legal, costs, proved, shaped, whole))
                | inr f ↦ must (inr (place.Tree (length tree - length f.0), f.1, (legal, costs, proved, shaped, f.0, refl, f.2)))
              ])
            ])
          ])
        ])
      ])

  -- what doesn't hold fails
  pub fails-first : (Holds → ⊥) → ((p : FailurePlace) (r : Reason) → FailsFirst p r → ⊥) → ⊥
  fails-first other never =
      holds-or_fails (λ one. elim one [
        | inl good ↦ other good
        | inr f ↦ never f.0 f.1 f.2
      ])
