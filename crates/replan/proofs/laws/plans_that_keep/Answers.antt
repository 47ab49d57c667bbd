use Rattle.std.proofs.Common.{sym, ◌∙◌}
use Rattle.replan.specs.Kept.{kept_of}
use Rattle.replan.specs.Rest.{ships_left}
use Rattle.replan.proofs.JoinLemmas.{line-joined, kept-early}
use Rattle.replan.proofs.BackLemmas.{back, back-legal, back-lines, back-cost, back-late}
use Rattle.replan.proofs.laws.plans_that_keep.Goals as goal

pub returns : goal.returns
returns c = λ I R G M can rest P legal keeps. (
  back I R (kept_of G M) M rest can.legal P legal keeps,
  record {
    legal = back-legal I R (kept_of G M) M rest can.legal P legal keeps;
    lines = λ c.
        line-joined (kept_of G M) (back I R (kept_of G M) M rest can.legal P legal keeps) M (ships_left I (kept_of G M)) c (kept-early G M) (back-late I R (kept_of G M) M rest can.legal P legal keeps)
        ∙ sym (back-lines I R (kept_of G M) M rest can.legal P legal keeps c);
    cost = back-cost I R (kept_of G M) M rest can.legal P legal keeps;
  },
)
