-- Trees of marks: of a leaf, of a split node from its children, and how many marks they leave.
use Rattle.std.proofs.Common.{Bool, false, IsTrue, ◌≡◌, ℕ, zero, suc, ◌-◌, ◌<◌, ◌≤◌, List, [], ◌∷◌, ◌++◌, refl, sym, ap, ◌∙◌, subst, length, ◌⊎◌, inl, inr, arith}
use Rattle.list_laws.proofs.Lists.{same-heads}
use Rattle.lock_model.specs.declared.instance.Instance.{Instance}
use Rattle.lock_model.specs.declared.group.Group.{Group}
use Rattle.lock_rules.specs.Children.{children_of}
use Rattle.refute_rules.specs.Trees.{AreInOrder}
use Rattle.certificate_rules.specs.declared.certificate.Mark.{Mark}
use Rattle.certificate_rules.specs.declared.certificate.Mark.TheVariants as mark
use Rattle.certificate_rules.specs.declared.certificate.Reason.{Reason}
use Rattle.certificate_rules.specs.Certificates.{IsMarkTree}
use Rattle.certificate_rules.specs.Failures.{FailInOrder, FailsHere, TreeFails, reason_of}

pub in_order-append : {X M : Type 0} (Tree : X → List M → List M → Type 0) (xs ys : List X) (a b c : List M) → AreInOrder Tree xs a b → AreInOrder Tree ys b c → AreInOrder Tree (xs ++ ys) a c
in_order-append Tree [] ys a b c h k = subst (λ u. AreInOrder Tree ys u c) (sym h) k
in_order-append Tree (x ∷ xs) ys a b c h k = (h.0, h.1, in_order-append Tree xs ys h.0 b c h.2 k)

pub in_order-parts : {X M : Type 0} (Tree : X → List M → List M → Type 0) (xs ys : List X) (a c : List M) → AreInOrder Tree (xs ++ ys) a c → (b : List M) × AreInOrder Tree xs a b × AreInOrder Tree ys b c
in_order-parts Tree [] ys a c h = (a, refl, h)
in_order-parts Tree (x ∷ xs) ys a c h =
    let more = in_order-parts Tree xs ys h.0 c h.2 in
    (more.0, (h.0, h.1, more.1), more.2)

pub in_order-fails : {X M : Type 0} (Tree : X → List M → List M → Type 0) (Failing : X → List M → List M → Reason → Type 0) (xs ys : List X) (a b stuck : List M) (r : Reason) → AreInOrder Tree xs a b → FailInOrder Tree Failing ys b stuck r → FailInOrder Tree Failing (xs ++ ys) a stuck r
in_order-fails Tree Failing [] ys a b stuck r h k = subst (λ u. FailInOrder Tree Failing ys u stuck r) (sym h) k
in_order-fails Tree Failing (x ∷ xs) ys a b stuck r h k = inr (h.0, h.1, in_order-fails Tree Failing xs ys h.0 b stuck r h.2 k)

-- what isn't true
pub not-true : (b : Bool) → b ≡ false → IsTrue b → ⊥
not-true b is h = absurd cc

pub lacks-one : (n k : ℕ) → k < n → n - k ≡ suc (n - suc k)
lacks-one n k less = omega (arith, less)

module _ (I : Instance) (Ends : ℕ → List (List Group) → Mark → Type 0) where
  pub leaf-tree : (lacking k : ℕ) (lines : List (List Group)) (m : Mark) (rest : List Mark) → Ends k lines m → IsMarkTree I Ends lacking k lines (m ∷ rest) rest
  leaf-tree zero k lines m rest closes = (m, closes, refl)
  leaf-tree (suc lacking) k lines m rest closes = inl (m, closes, refl)

  -- where the first mark is no split, it ends the node
  pub tree-leaf : (lacking k : ℕ) (lines : List (List Group)) (m : Mark) (marks inner rest : List Mark) → marks ≡ m ∷ inner → (m ≡ mark.Split → ⊥) → IsMarkTree I Ends lacking k lines marks rest → Ends k lines m
  tree-leaf zero k lines m marks inner rest is whole h = subst (Ends k lines) (same-heads h.0 m rest inner (sym h.2 ∙ is)) h.1
  tree-leaf (suc lacking) k lines m marks inner rest is whole (inl h) = subst (Ends k lines) (same-heads h.0 m rest inner (sym h.2 ∙ is)) h.1
  tree-leaf (suc lacking) k lines m marks inner rest is whole (inr h) = absurd (whole (same-heads m mark.Split inner h.0 (sym is ∙ h.1)))

  pub wrong-tree : (lacking k : ℕ) (lines : List (List Group)) (m : Mark) (rest : List Mark) → (Ends k lines m → ⊥) → (m ≡ mark.Split → lacking ≡ 0) → TreeFails I Ends lacking k lines (m ∷ rest) (m ∷ rest) (reason_of m)
  wrong-tree zero k lines m rest open' whole = (refl, open', refl)
  wrong-tree (suc lacking) k lines m rest open' whole =
      inl (
        refl,
        λ h. elim h [
          | inl closes ↦ open' closes
          | inr is ↦ let none = whole is in absurd (omega (arith, none))
        ],
        refl,
      )

pub in_order-weaker : {X M : Type 0} (Tree Other : X → List M → List M → Type 0) → ((x : X) (m r : List M) → Tree x m r → Other x m r) → (xs : List X) (m r : List M) → AreInOrder Tree xs m r → AreInOrder Other xs m r
in_order-weaker Tree Other each [] m r h = h
in_order-weaker Tree Other each (x ∷ xs) m r h = (h.0, each x m h.0 h.1, in_order-weaker Tree Other each xs h.0 r h.2)

-- a tree stays one where marks that end nodes end them in another way too
pub tree-weaker : (I : Instance) (Ends Other : ℕ → List (List Group) → Mark → Type 0) → ((k : ℕ) (lines : List (List Group)) (m : Mark) → Ends k lines m → Other k lines m)
    → (lacking k : ℕ) (lines : List (List Group)) (m r : List Mark) → IsMarkTree I Ends lacking k lines m r → IsMarkTree I Other lacking k lines m r
tree-weaker I Ends Other each zero k lines m r h = (h.0, each k lines h.0 h.1, h.2)
tree-weaker I Ends Other each (suc lacking) k lines m r (inl h) = inl (h.0, each k lines h.0 h.1, h.2)
tree-weaker I Ends Other each (suc lacking) k lines m r (inr h) =
    inr (h.0, h.1, in_order-weaker (IsMarkTree I Ends lacking (suc k)) (IsMarkTree I Other lacking (suc k)) (λ x m r t. tree-weaker I Ends Other each lacking (suc k) x m r t) (children_of I k lines) h.0 r h.2)

in_order-shorter : {X M : Type 0} (Tree : X → List M → List M → Type 0) → ((x : X) (m r : List M) → Tree x m r → length r ≤ length m) → (xs : List X) (m r : List M) → AreInOrder Tree xs m r → length r ≤ length m
in_order-shorter Tree each [] m r h = let same = ap length h in omega (arith, same)
in_order-shorter Tree each (x ∷ xs) m r h =
    let own = each x m h.0 h.1 in
    let later = in_order-shorter Tree each xs h.0 r h.2 in
    omega (arith, own, later)

fail_in_order-shorter : {X M : Type 0} (Tree : X → List M → List M → Type 0) (Failing : X → List M → List M → Reason → Type 0)
    → ((x : X) (m r : List M) → Tree x m r → length r ≤ length m) → ((x : X) (m s : List M) (why : Reason) → Failing x m s why → length s ≤ length m)
    → (xs : List X) (m s : List M) (why : Reason) → FailInOrder Tree Failing xs m s why → length s ≤ length m
fail_in_order-shorter Tree Failing each stuck [] m s why f = absurd f
fail_in_order-shorter Tree Failing each stuck (x ∷ xs) m s why (inl f) = stuck x m s why f
fail_in_order-shorter Tree Failing each stuck (x ∷ xs) m s why (inr f) =
    let own = each x m f.0 f.1 in
    let later = fail_in_order-shorter Tree Failing each stuck xs f.0 s why f.2 in
    omega (arith, own, later)

here-shorter : (Ends : Mark → Type 0) (marks s : List Mark) (why : Reason) → FailsHere Ends marks s why → length s ≤ length marks
here-shorter Ends [] s why f = let same = ap length f.0 in omega (arith, same)
here-shorter Ends (m ∷ ms) s why f = let same = ap length f.0 in omega (arith, same)

module _ (I : Instance) (Ends : ℕ → List (List Group) → Mark → Type 0) where
  -- no more marks are left behind a tree than there were
  pub tree-shorter : (lacking k : ℕ) (lines : List (List Group)) (marks rest : List Mark) → IsMarkTree I Ends lacking k lines marks rest → length rest ≤ length marks
  tree-shorter zero k lines marks rest h = let same = ap length h.2 in omega (arith, same)
  tree-shorter (suc lacking) k lines marks rest (inl h) = let same = ap length h.2 in omega (arith, same)
  tree-shorter (suc lacking) k lines marks rest (inr h) =
      let same = ap length h.1 in
      let inner = in_order-shorter (IsMarkTree I Ends lacking (suc k)) (λ x m r t. tree-shorter lacking (suc k) x m r t) (children_of I k lines) h.0 rest h.2 in
      omega (arith, same, inner)

  -- nor where reading ends before its time
  pub stuck-shorter : (lacking k : ℕ) (lines : List (List Group)) (marks s : List Mark) (why : Reason) → TreeFails I Ends lacking k lines marks s why → length s ≤ length marks
  stuck-shorter zero k lines marks s why f = here-shorter (Ends k lines) marks s why f
  stuck-shorter (suc lacking) k lines marks s why (inl f) = here-shorter (λ m. Ends k lines m ⊎ (m ≡ mark.Split)) marks s why f
  stuck-shorter (suc lacking) k lines marks s why (inr f) =
      let same = ap length f.1 in
      let inner =
      fail_in_order-shorter (IsMarkTree I Ends lacking (suc k)) (TreeFails I Ends lacking (suc k))
      (λ x m r t. tree-shorter lacking (suc k) x m r t) (λ x m u r t. stuck-shorter lacking (suc k) x m u r t) (children_of I k lines) f.0 s why f.2 in
      omega (arith, same, inner)
