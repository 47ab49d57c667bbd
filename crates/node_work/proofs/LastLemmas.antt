-- The ship isn't in one group more, nor in one line more.
use Rattle.std.proofs.Common.{◌≡◌, ℕ, ◌+◌, ◌<◌, List, length, sym, ap, ◌∙◌, subst, arith, Bool, false, IsTrue, ◌↔◌, Contains, slice_index_or, inl, inr}
use Rattle.std.proofs.lemmas.Bool.Decides.{eqb_tells}
use Rattle.std.proofs.lemmas.List.{get_or_default}
use Rattle.lock_model.specs.declared.group.Group.{Group}
use Rattle.book_rules.specs.Book.{no_group}
use Rattle.lock_rules.specs.Node.{line_at}
use Rattle.node_work.specs.Last.{IsLacked, IsLackedBelow}

no-truth : IsTrue false → ⊥
no-truth e = cc

pub lacked_more : (line gs : List Group) (s n : ℕ) (g : Group) (S : List ℕ) (test : Bool) → gs ≡ line → n < length line → S ≡ (slice_index_or gs n g).ships
    → IsLacked line s n → (IsTrue test ↔ Contains S s) → test ≡ false → IsLacked line s (n + 1)
lacked_more line gs s n g S test same here ships before exact off = record {
  none = λ p less has. elim (eqb_tells p n) [
    | inl y ↦
        let own : S ≡ (slice_index_or line n no_group).ships = ships ∙ ap (λ l. (slice_index_or l n g).ships) same ∙ ap (λ (x : Group). x.ships) (get_or_default line n g no_group here) in
        let held : Contains (slice_index_or line n no_group).ships s = subst (λ j. Contains (slice_index_or line j no_group).ships s) y.1 has in
        absurd (no-truth (subst IsTrue off (exact.1 (subst (λ T. Contains T s) (sym own) held))))
    | inr other ↦ before.none p (let differ = other.1 in omega (arith, less, differ)) has
  ];
}

pub lacked_below_more : (lines : List (List Group)) (s n : ℕ) (line : List Group) → line ≡ line_at lines n → IsLackedBelow lines s n → IsLacked line s (length line) → IsLackedBelow lines s (n + 1)
lacked_below_more lines s n line is before lacked = record {
  none = λ c less. elim (eqb_tells c n) [
    | inl y ↦ subst (λ j. IsLacked (line_at lines j) s (length (line_at lines j))) (sym y.1) (subst (λ l. IsLacked l s (length l)) is lacked)
    | inr other ↦ before.none c (let differ = other.1 in omega (arith, less, differ))
  ];
}
