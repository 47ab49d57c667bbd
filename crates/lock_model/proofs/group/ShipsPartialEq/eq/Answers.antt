use Rattle.std.proofs.Common.{◌∙◌, nat_eq}
use Rattle.std.specs.Cmp.Lexicographic.{pointwise}
use Rattle.lock_model.proofs.ShipsLemmas.{ships_same}
use Rattle.lock_model.proofs.group.ShipsPartialEq.eq.Goals as goal

pub returns-then-self-other : goal.returns-then-self-other
returns-then-self-other c =
    c.same_bytes.ensures
    ∙ ships_same c.self.inside.bytes c.other.inside.bytes c.self.inside.count c.other.inside.count c.if-self-other.true c.self.invariant.2 c.other.invariant.2
    ∙ (λ i. pointwise nat_eq (c.self.view_is i) (c.other.view_is i))
