-- Counting through a list in order.
use Rattle.std.proofs.Common.{◌≡◌, ℕ, ◌+◌, ◌≤◌, List, [], ◌∷◌, ◌++◌, length, take, flat_map, All, inl, inr, refl, sym, ap, ◌∙◌, subst, arith, length-append, append-nil}
use Rattle.std.proofs.lemmas.List.Elements.{All-from_recursion}
use Rattle.list_laws.proofs.ByRecursion.{all-append}
use Rattle.refute_rules.specs.declared.choices.Decision.{Decision}
use Rattle.refute_rules.specs.declared.choices.Choice.{Choice}
use Rattle.refute_rules.specs.Listing.{AreThose, cases_from, IsFirstWithin, HasMore, HasNoneOf}
use Rattle.case_search.specs.Counts.{NoneIn, FirstIn, MoreIn}
use Rattle.case_search.proofs.ListLemmas.{append-assoc, take-front}

those-append : {X : Type 0} (P : X → Type 0) (xs fs ys gs : List X) → AreThose P xs fs → AreThose P ys gs → AreThose P (xs ++ ys) (fs ++ gs)
those-append P [] fs ys gs h g = subst (λ l. AreThose P ys (l ++ gs)) (sym h) g
those-append P (x ∷ xs) [] ys [] h g = (h.0, those-append P xs [] ys [] h.1 g)
those-append P (x ∷ xs) [] ys (y ∷ gs) h g = inr (h.0, those-append P xs [] ys (y ∷ gs) h.1 g)
those-append P (x ∷ xs) (f ∷ fs) ys gs (inl h) g = inl (h.0, h.1, those-append P xs fs ys gs h.2 g)
those-append P (x ∷ xs) (f ∷ fs) ys gs (inr h) g = inr (h.0, those-append P xs (f ∷ fs) ys gs h.1 g)

module _ {X : Type 0} (P Q : X → Type 0) where
  pub none-nil : (a : ℕ) → NoneIn P Q a a []
  none-nil a = record { found = []; those = refl; count = omega arith; none = tt }

  pub none-one : (a : ℕ) (x : X) → P x → (Q x → ⊥) → NoneIn P Q a (a + 1) (x ∷ [])
  none-one a x has n = record { found = x ∷ []; those = inl (has, refl, refl); count = omega arith; none = (n, tt) }

  pub none-append : (a b c : ℕ) (xs ys : List X) → NoneIn P Q a b xs → NoneIn P Q b c ys → NoneIn P Q a c (xs ++ ys)
  none-append a b c xs ys h g =
      let m = h.count in
      let n = g.count in
      let l = length-append h.found g.found in
      record {
        found = h.found ++ g.found;
        those = those-append P xs h.found ys g.found h.those g.those;
        count = omega (arith, m, n, l);
        none = all-append (λ x. Q x → ⊥) h.found g.found h.none g.none;
      }

  pub none-shifted : (a b : ℕ) (xs : List X) → NoneIn P Q a b xs → NoneIn P Q (a + 1) (b + 1) xs
  none-shifted a b xs h = record { found = h.found; those = h.those; count = let n = h.count in omega (arith, n); none = h.none }

  pub first-append : (a b c : ℕ) (xs ys zs : List X) (x : X) → NoneIn P Q a b xs → FirstIn P Q b c ys x → FirstIn P Q a c (xs ++ (ys ++ zs)) x
  first-append a b c xs ys zs x h g = record {
    begun = xs ++ g.begun;
    left = g.left ++ zs;
    split = append-assoc xs g.begun (x ∷ g.left ++ zs) ∙ ap (λ l. xs ++ l) (sym (append-assoc g.begun (x ∷ g.left) zs) ∙ ap (λ l. l ++ zs) g.split);
    before = none-append (a + 1) (b + 1) c xs g.begun (none-shifted a b xs h) g.before;
    has = g.has;
    is = g.is;
  }

  pub more-append : (a b t : ℕ) (xs ys zs : List X) → NoneIn P Q a b xs → MoreIn P Q b t ys → MoreIn P Q a t (xs ++ (ys ++ zs))
  more-append a b t xs ys zs h g = record {
    begun = xs ++ g.begun;
    next = g.next;
    left = g.left ++ zs;
    split = append-assoc xs g.begun (g.next ∷ g.left ++ zs) ∙ ap (λ l. xs ++ l) (sym (append-assoc g.begun (g.next ∷ g.left) zs) ∙ ap (λ l. l ++ zs) g.split);
    before = none-append a b t xs g.begun h g.before;
    has = g.has;
  }

  -- ---- the three answers
  pub has-none : (b t : ℕ) (xs : List X) → b ≤ t → NoneIn P Q 0 b xs → HasNoneOf P Q t xs
  has-none b t xs few h = let n = h.count in record { found = h.found; those = h.those; few = omega (arith, few, n); none = All-from_recursion (λ x. Q x → ⊥) h.found h.none }

  pub is-first : (b t : ℕ) (xs : List X) (x : X) → b ≤ t → FirstIn P Q 0 b xs x → IsFirstWithin P Q t xs x
  is-first b t xs x few h =
      let n = h.before.count in
      record { begun = h.begun; left = h.left; found = h.before.found; split = h.split; those = h.before.those; few = omega (arith, few, n); none = All-from_recursion (λ x. Q x → ⊥) h.before.found h.before.none; has = h.has; is = h.is }

  pub has-more : (t : ℕ) (xs : List X) → MoreIn P Q 0 t xs → HasMore P Q t xs
  has-more t xs h =
      let n = h.before.count in
      let l = length-append h.before.found (h.next ∷ []) in
      let same : t ≡ length h.before.found = omega (arith, n) in
      record {
        begun = h.begun ++ h.next ∷ [];
        left = h.left;
        found = h.before.found ++ h.next ∷ [];
        split = append-assoc h.begun (h.next ∷ []) h.left ∙ h.split;
        those = those-append P h.begun h.before.found (h.next ∷ []) (h.next ∷ []) h.before.those (inl (h.has, refl, refl));
        count = omega (arith, n, l);
        none = subst (λ l. All (λ x. Q x → ⊥) l) (sym (ap (λ k. take k (h.before.found ++ h.next ∷ [])) same ∙ take-front h.before.found (h.next ∷ []))) (All-from_recursion (λ x. Q x → ⊥) h.before.found h.before.none);
      }

-- the extensions of a case lack a property, if those with each option do
none-each : (P : List Choice → Type 0) (options : Decision → List Choice) (left : List Decision) (case cs : List Choice) → ((c : Choice) → AreThose P (cases_from options left (case ++ c ∷ [])) []) → AreThose P (flat_map (λ choice. cases_from options left (case ++ choice ∷ [])) cs) []
none-each P options left case [] each = refl
none-each P options left case (c ∷ cs) each = those-append P (cases_from options left (case ++ c ∷ [])) [] (flat_map (λ choice. cases_from options left (case ++ choice ∷ [])) cs) [] (each c) (none-each P options left case cs each)

-- a case and all its extensions lack a property
pub none-listed : (P : List Choice → Type 0) (options : Decision → List Choice) (left : List Decision) (case : List Choice) → ((more : List Choice) → P (case ++ more) → ⊥) → AreThose P (cases_from options left case) []
none-listed P options [] case n = (λ h. n [] (subst P (sym (append-nil case)) h), refl)
none-listed P options (next ∷ left) case n = (
  λ h. n [] (subst P (sym (append-nil case)) h),
  none-each P options left case (options next) (λ c. none-listed P options left (case ++ c ∷ []) (λ more h. n (c ∷ more) (subst P (append-assoc case (c ∷ []) more) h))),
)

-- and so do the proper extensions alone
pub none-below : (P : List Choice → Type 0) (options : Decision → List Choice) (left : List Decision) (case cs : List Choice) → ((c : Choice) (more : List Choice) → P (case ++ c ∷ more) → ⊥) → AreThose P (flat_map (λ choice. cases_from options left (case ++ choice ∷ [])) cs) []
none-below P options left case cs n = none-each P options left case cs (λ c. none-listed P options left (case ++ c ∷ []) (λ more h. n c more (subst P (append-assoc case (c ∷ []) more) h)))
