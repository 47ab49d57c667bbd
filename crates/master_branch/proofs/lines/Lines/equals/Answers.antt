use Rattle.std.proofs.Common.{sym, ◌∙◌, true≢false}
use Rattle.master_branch.proofs.SameLemmas.{lines-same, rows-same, ends-same}
use Rattle.master_branch.proofs.lines.Lines.equals.Goals as goal

pub returns-then-same_ends : goal.returns-then-same_ends
returns-then-same_ends c =
    let a = c.self.inside in
    let b = c.other.inside in (
      λ t. lines-same a.row.items b.row.items a.ends b.ends c.self.invariant c.other.invariant c.args.self.now c.args.other.now c.self.view_is c.other.view_is (sym c.as_slice.ensures.value ∙ c.same_groups.ensures.0 t ∙ c.as_slice-then-same_ends.ensures.value) (c.same_ends.ensures.0 c.if-same_ends.true),
      λ same. c.same_groups.ensures.1 (c.as_slice.ensures.value ∙ rows-same a.row.items b.row.items a.ends b.ends c.self.invariant c.other.invariant c.args.self.now c.args.other.now c.self.view_is c.other.view_is same ∙ sym c.as_slice-then-same_ends.ensures.value),
    )

pub returns-else-same_ends : goal.returns-else-same_ends
returns-else-same_ends c =
    let a = c.self.inside in
    let b = c.other.inside in (
      λ t. absurd (true≢false (sym t ∙ c.if-same_ends.false)),
      λ same. c.same_ends.ensures.1 (ends-same a.row.items b.row.items a.ends b.ends c.self.invariant c.other.invariant c.args.self.now c.args.other.now c.self.view_is c.other.view_is same),
    )
