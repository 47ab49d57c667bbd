use Rattle.std.proofs.Common.{◌≡◌, ℕ, ◌<◌, List, [], ◌∷◌, length, refl, sym, ap, ◌∙◌, arith, slice_index_or, slice_get, Some, None}
use Rattle.book_rules.specs.Book.{first_slot, is_back}
use Rattle.book_core.specs.Seen.{seen}
use Rattle.book_core.proofs.KeptLemmas.{zero-is, some-is}
use Rattle.book_core.proofs.BackLemmas.{first-back}
use Rattle.book_core.proofs.book.Book.first_back.Goals as goal

pub returns-then-is_empty : goal.returns-then-is_empty
returns-then-is_empty c =
    let a = c.self.inside in
    none-of a.back (sym (ap length c.as_slice-back.ensures.value) ∙ zero-is (length c.as_slice-back.result.now) c.is_empty.result c.is_empty.ensures c.if-is_empty.true) ∙ first-back (seen a) a.back c.self.invariant.tables.back_are ∙ ap (λ b. first_slot b is_back) c.self.view_is
  where
    none-of : (xs : List ℕ) → length xs ≡ 0 → None ≡ slice_get xs 0
    none-of [] e = refl
    none-of (x ∷ xs) e = absurd (omega (arith, e))

pub returns-else-is_empty : goal.returns-else-is_empty
returns-else-is_empty c =
    let a = c.self.inside in
    let value = c.as_slice-back.ensures.value in
    some-of c.as_slice-back.result.now (some-is (length c.as_slice-back.result.now) c.is_empty.result c.is_empty.ensures c.if-is_empty.false) ∙ ap (λ xs. slice_get xs 0) value ∙ first-back (seen a) a.back c.self.invariant.tables.back_are ∙ ap (λ b. first_slot b is_back) c.self.view_is
  where
    some-of : (xs : List ℕ) → 0 < length xs → Some (slice_index_or xs 0 0) ≡ slice_get xs 0
    some-of [] e = absurd (omega (arith, e))
    some-of (x ∷ xs) e = refl
