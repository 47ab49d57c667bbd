use Rattle.std.proofs.Common.{ℕ, ◌≡◌, ◌≤◌, ap, sym, ◌∙◌, arith}
use Rattle.atomic_table.specs.Table.{Me}
use Rattle.bound_word.specs.declared.view.View.{View}
use Rattle.bound_word.specs.Seats.{Placed, Opened}
use Rattle.bound_word.proofs.StepLemmas.{joins, counts}
use Rattle.bound_word.proofs.table.BoundTable.join.Goals as goal

pub join_seat-requires : goal.join_seat-requires
join_seat-requires c =
    let same = sym (ap (λ (d : Opened). d.table) c.self.view_is) in (
      ap (λ (p : Placed). p.table) c.seat.view_is ∙ c.requires.0 ∙ same,
      ap (λ (p : Placed). p.table) c.other.view_is ∙ c.requires.1 ∙ same,
      c.other.invariant.3,
      omega (arith, c.self.invariant.0),
      joins c.self.inside.table.shared.key c.seat.inside.seat.id c.seat.inside.seat.me.0 c.other.inside.seat.id c.other.inside.seat.me.0 (omega (arith, c.seat.invariant)) (omega (arith, c.other.invariant)),
    )

pub load-requires : goal.load-requires
load-requires c = (
  c.join_seat.ensures.0 ∙ ap (λ (p : Placed). p.table) c.seat.view_is ∙ c.requires.0 ∙ sym (ap (λ (d : Opened). d.table) c.self.view_is),
  omega (arith, c.self.invariant.0),
  counts c.self.inside.table.shared.key c.self.inside.table.shared.table_id.slots c.join_seat.new.seat.id c.join_seat.new.seat.me
      (omega (arith, ap (λ (m : Me ℕ View). m.0.parts) c.join_seat.ensures.2, c.seat.invariant)),
)
