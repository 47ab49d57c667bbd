-- What was swept beside a book, compared with the book.
use Rattle.std.proofs.Common.{◌≡◌, ℕ, zero, suc, ◌<◌, ◌≤◌, length, refl, sym, ap, ◌∙◌, subst, arith, Bool, true, false, not, cond, inl, inr, slice_get, nat_eq, Some, None}
use Rattle.std.proofs.lemmas.Bool.Decides.{eqb_tells}
use Rattle.std.specs.declared.option.Option.{Option}
use Rattle.lock_rules.specs.Node.{Node}
use Rattle.mooring_rules.specs.declared.breaks.BrokenPlan.{BrokenPlan}
use Rattle.sweep_rules.specs.Uncut.{IsSwept}
use Rattle.price_rules.specs.Prices.{PriceList}
use Rattle.price_terms.specs.Claim.{SweptClaim, IsSweptClaim}
use Rattle.closing_rules.specs.declared.grounds.Ground.TheVariants as by
use Rattle.book_rules.specs.Book.{Book, slot_at, best_cost}
use Rattle.book_rules.specs.Events as machine
use Rattle.book_rules.specs.Events.{close_swept}
use Rattle.book_rules.specs.Shown.{Swept, IsSweptCost}
use Rattle.book_rules.specs.Step.{may_close, is_swept, sweep_by_prices, sweep_refusal, cheaper_than, closed}
use Rattle.book_core.specs.declared.reply.Reply.{Reply}
use Rattle.book_core.specs.Keeps.{IsSound}
use Rattle.book_core.specs.Replies.{Answers, IsShutAt}
use Rattle.book_core.specs.Telling.{told_swept}
use Rattle.book_core.proofs.CloseLemmas.{asked-sound, asked-answers}
use Rattle.book_core.proofs.NodeLemmas.{node-born}
use Rattle.book_core.proofs.ShowingLemmas.{told-cuts}

-- what is claimed of a cost is swept
pub swept-owed : (claim : SweptClaim) → IsSweptClaim claim → IsSweptCost (told_swept claim)
swept-owed claim holds = subst (λ cuts. IsSwept claim.instance cuts claim.cost) (sym (told-cuts claim.instance claim.cuts)) holds

some-not_zero : (n : ℕ) → 0 < n → nat_eq n 0 ≡ false
some-not_zero n some = elim (eqb_tells n 0) [ inl y ↦ absurd (omega (arith, some, y.1)) | inr other ↦ other.0 ]

-- the root's depth is 0, and no other slot's
pub root-depth : (b : Book) → IsSound b → (id : ℕ) → id < length b.slots → nat_eq id 0 ≡ nat_eq (slot_at b id).node.depth 0
root-depth b sound zero known = sym (ap (λ (n : Node). nat_eq n.depth 0) sound.parts.family.root_is)
root-depth b sound (suc id) known =
    let deep = ap (λ (n : Node). n.depth) (node-born b sound (suc id) known (omega arith)) in
    some-not_zero (suc id) (omega arith) ∙ sym (some-not_zero (slot_at b (suc id)).node.depth (omega (arith, deep)))

-- ---- why slot id isn't closed by a sweep

module _ (b : Book) (id number : ℕ) (swept : Swept) where
  abbrev pub refusal : Option (machine.Reply BrokenPlan)
  refusal = sweep_refusal b id number swept (slice_get b.prices number)

  abbrev rooted : Bool → Option (machine.Reply BrokenPlan)
  rooted t = cond (not t) (Some machine.NotRoot) (sweep_by_prices b number swept (slice_get b.prices number))

  pub not-root : nat_eq (slot_at b id).node.depth 0 ≡ false → refusal ≡ Some machine.NotRoot
  not-root e = ap rooted e

  module _ (root : nat_eq (slot_at b id).node.depth 0 ≡ true) where
    by-prices : (o : Option PriceList) → slice_get b.prices number ≡ o → refusal ≡ sweep_by_prices b number swept o
    by-prices o there = ap rooted root ∙ ap (sweep_by_prices b number swept) there

    pub without-prices : slice_get b.prices number ≡ None → refusal ≡ Some (machine.NoPrices number)
    without-prices none = by-prices None none

    module _ (prices : PriceList) (there : slice_get b.prices number ≡ Some prices) where
      abbrev tested : Bool → Option (machine.Reply BrokenPlan)
      tested t = cond (not t) (Some machine.NotSwept) (cheaper_than (best_cost b) swept.cost)

      pub not-swept : is_swept b swept ≡ false → refusal ≡ Some machine.NotSwept
      not-swept e = by-prices (Some prices) there ∙ ap tested e

      module _ (swept_is : is_swept b swept ≡ true) (may : may_close b id ≡ true) (cost : ℕ) (cost_is : cost ≡ swept.cost) where
        asked : refusal ≡ cheaper_than (best_cost b) cost
        asked = by-prices (Some prices) there ∙ ap tested swept_is ∙ ap (cheaper_than (best_cost b)) (sym cost_is)

        pub swept-sound : IsSweptCost swept → IsSound b → best_cost b ≤ cost → IsSound (closed b id (by.Swept number))
        swept-sound owed sound = asked-sound b id (by.Swept number) (close_swept id number swept) refusal refl tt may cost asked sound owed

        pub swept-answers : (r : Reply) (new : Book) → IsShutAt b id (by.Swept number) cost r new → Answers b (close_swept id number swept) r new
        swept-answers = asked-answers b id (by.Swept number) (close_swept id number swept) refusal refl tt may cost asked
