use Rattle.std.proofs.Common.{◌≡◌, ◌≤◌, ap, sym, ◌∙◌, arith}
use Rattle.bound_word.specs.Seats.{Placed, Opened}
use Rattle.bound_word.proofs.StepLemmas.{splits}
use Rattle.bound_word.proofs.table.BoundTable.split.Goals as goal

pub split_seat-new-requires : goal.split_seat-new-requires
split_seat-new-requires c = (
  ap (λ (p : Placed). p.table) c.seat.view_is ∙ c.requires.table ∙ sym (ap (λ (d : Opened). d.table) c.self.view_is),
  omega (arith, c.self.invariant.0),
  splits c.self.inside.table.shared.key c.seat.inside.seat.id c.seat.inside.seat.me.0 (omega (arith, ap (λ (p : Placed). p.view.parts) c.seat.view_is, c.requires.parts)),
)
