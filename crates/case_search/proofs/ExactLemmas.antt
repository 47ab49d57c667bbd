-- At most one of the three answers of a search fits a list of cases.
use Rattle.std.proofs.Common.{◌≡◌, ℕ, zero, suc, ◌<◌, ◌≤◌, List, [], ◌∷◌, ◌++◌, length, take, inl, inr, sym, ap, ◌∙◌, subst, arith}
use Rattle.std.proofs.lemmas.List.Elements.{recursion_from_All}
use Rattle.std.specs.List.{AllByRecursion}
use Rattle.list_laws.proofs.Lists.{same-tails, same-heads}
use Rattle.refute_rules.specs.Listing.{AreThose, IsFirstWithin, HasNoneOf, HasMore}

module _ {X : Type 0} (P Q : X → Type 0) where
  -- ---- none of few, or a first one
  found-not : (begun left found : List X) (x : X) → AreThose P (begun ++ x ∷ left) found → P x → Q x → AllByRecursion (λ y. Q y → ⊥) found → ⊥
  found-not [] left [] x those has is none = those.0 has
  found-not [] left (f ∷ fs) x (inl h) has is none = none.0 (subst Q h.1 is)
  found-not [] left (f ∷ fs) x (inr h) has is none = h.0 has
  found-not (b ∷ begun) left [] x those has is none = found-not begun left [] x those.1 has is none
  found-not (b ∷ begun) left (f ∷ fs) x (inl h) has is none = found-not begun left fs x h.2 has is none.1
  found-not (b ∷ begun) left (f ∷ fs) x (inr h) has is none = found-not begun left (f ∷ fs) x h.1 has is none

  pub none-first : (t : ℕ) (xs : List X) (x : X) → HasNoneOf P Q t xs → IsFirstWithin P Q t xs x → ⊥
  none-first t xs x none first = found-not first.begun first.left none.found x (subst (λ l. AreThose P l none.found) (sym first.split) none.those) first.has first.is (recursion_from_All (λ y. Q y → ⊥) none.found none.none)

  -- ---- none of few, or more
  fewer : (begun left fs gs : List X) → AreThose P (begun ++ left) fs → AreThose P begun gs → length gs ≤ length fs
  fewer [] left fs gs h g = subst (λ l. length l ≤ length fs) (sym g) (omega arith)
  fewer (b ∷ begun) left fs [] h g = omega arith
  fewer (b ∷ begun) left [] (y ∷ gs) h (inl g) = absurd (h.0 g.0)
  fewer (b ∷ begun) left [] (y ∷ gs) h (inr g) = fewer begun left [] (y ∷ gs) h.1 g.1
  fewer (b ∷ begun) left (f ∷ fs) (y ∷ gs) (inl h) (inl g) = let rest = fewer begun left fs gs h.2 g.2 in omega (arith, rest)
  fewer (b ∷ begun) left (f ∷ fs) (y ∷ gs) (inl h) (inr g) = absurd (g.0 h.0)
  fewer (b ∷ begun) left (f ∷ fs) (y ∷ gs) (inr h) (inl g) = absurd (h.0 g.0)
  fewer (b ∷ begun) left (f ∷ fs) (y ∷ gs) (inr h) (inr g) = fewer begun left (f ∷ fs) (y ∷ gs) h.1 g.1

  pub none-more : (t : ℕ) (xs : List X) → HasNoneOf P Q t xs → HasMore P Q t xs → ⊥
  none-more t xs none more =
      let l = fewer more.begun more.left none.found more.found (subst (λ l. AreThose P l none.found) (sym more.split) none.those) more.those in
      let few = none.few in
      let count = more.count in
      omega (arith, l, few, count)

  -- ---- a first one within the turns, or more
  first-not : (begun left other more fs gs : List X) (x : X) (t : ℕ) → begun ++ x ∷ left ≡ other ++ more → AreThose P begun fs → AreThose P other gs → length fs < t → t < length gs → P x → Q x → AllByRecursion (λ y. Q y → ⊥) (take t gs) → ⊥
  first-not begun left [] more fs gs x t e h g few many has is none = let l = ap length g in omega (arith, l, many)
  first-not begun left (o ∷ other) more fs [] x t e h g few many has is none = omega (arith, many)
  first-not begun left (o ∷ other) more fs (y ∷ gs) x zero e h g few many has is none = omega (arith, few)
  first-not [] left (o ∷ other) more fs (y ∷ gs) x (suc t) e h (inl g) few many has is none = none.0 (subst Q (same-heads x o left (other ++ more) e ∙ g.1) is)
  first-not [] left (o ∷ other) more fs (y ∷ gs) x (suc t) e h (inr g) few many has is none = g.0 (subst P (same-heads x o left (other ++ more) e) has)
  first-not (b ∷ begun) left (o ∷ other) more [] (y ∷ gs) x (suc t) e h (inl g) few many has is none = h.0 (subst P (sym (same-heads b o (begun ++ x ∷ left) (other ++ more) e)) g.0)
  first-not (b ∷ begun) left (o ∷ other) more [] (y ∷ gs) x (suc t) e h (inr g) few many has is none = first-not begun left other more [] (y ∷ gs) x (suc t) (same-tails b o (begun ++ x ∷ left) (other ++ more) e) h.1 g.1 few many has is none
  first-not (b ∷ begun) left (o ∷ other) more (f ∷ fs) (y ∷ gs) x (suc t) e (inl h) (inl g) few many has is none = first-not begun left other more fs gs x t (same-tails b o (begun ++ x ∷ left) (other ++ more) e) h.2 g.2 (omega (arith, few)) (omega (arith, many)) has is none.1
  first-not (b ∷ begun) left (o ∷ other) more (f ∷ fs) (y ∷ gs) x (suc t) e (inl h) (inr g) few many has is none = g.0 (subst P (same-heads b o (begun ++ x ∷ left) (other ++ more) e) h.0)
  first-not (b ∷ begun) left (o ∷ other) more (f ∷ fs) (y ∷ gs) x (suc t) e (inr h) (inl g) few many has is none = h.0 (subst P (sym (same-heads b o (begun ++ x ∷ left) (other ++ more) e)) g.0)
  first-not (b ∷ begun) left (o ∷ other) more (f ∷ fs) (y ∷ gs) x (suc t) e (inr h) (inr g) few many has is none = first-not begun left other more (f ∷ fs) (y ∷ gs) x (suc t) (same-tails b o (begun ++ x ∷ left) (other ++ more) e) h.1 g.1 few many has is none

  pub first-more : (t : ℕ) (xs : List X) (x : X) → IsFirstWithin P Q t xs x → HasMore P Q t xs → ⊥
  first-more t xs x first more =
      let count = more.count in
      first-not first.begun first.left more.begun more.left first.found more.found x t (first.split ∙ sym more.split) first.those more.those first.few (omega (arith, count)) first.has first.is (recursion_from_All (λ y. Q y → ⊥) (take t more.found) more.none)
