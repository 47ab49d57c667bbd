-- Rows of groups with the same lines.
use Rattle.std.proofs.Common.{◌≡◌, ℕ, List, sym, ap, ◌∙◌}
use Rattle.lock_model.specs.declared.group.Group.{Group}
use Rattle.master_branch.specs.Row.{cut_from, IsCutRow, row_of, ends_from}
use Rattle.master_branch.specs.RowBack.{row-back, ends-back}

module _ (row other : List Group) (ends others : List ℕ) (is : IsCutRow row ends) (is_other : IsCutRow other others) (lines more : List (List Group)) (lines_are : cut_from 0 row ends ≡ lines) (more_are : cut_from 0 other others ≡ more) where
  pub lines-same : row ≡ other → ends ≡ others → lines ≡ more
  lines-same rows places = sym lines_are ∙ ap (λ r. cut_from 0 r ends) rows ∙ ap (cut_from 0 other) places ∙ more_are

  cut-same : lines ≡ more → cut_from 0 row ends ≡ cut_from 0 other others
  cut-same same = lines_are ∙ same ∙ sym more_are

  pub rows-same : lines ≡ more → row ≡ other
  rows-same same = sym (row-back 0 row ends is.cut) ∙ ap row_of (cut-same same) ∙ row-back 0 other others is_other.cut

  pub ends-same : lines ≡ more → ends ≡ others
  ends-same same = sym (ends-back 0 row ends is.cut) ∙ ap (ends_from 0) (cut-same same) ∙ ends-back 0 other others is_other.cut
