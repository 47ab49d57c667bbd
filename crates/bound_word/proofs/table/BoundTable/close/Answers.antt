use Rattle.std.proofs.Common.{ℕ, ◌≡◌, ◌≤◌, List, ap, sym, ◌∙◌}
use mathlib.Core.Option.{some-injective}
use lib.ListN.{get_elem?}
use Rattle.bound_word.specs.Views.{least}
use Rattle.bound_word.specs.Seats.{Placed, Opened}
use Rattle.bound_word.proofs.StepLemmas.{closes}
use Rattle.bound_word.proofs.table.BoundTable.close.Goals as goal

pub returns : goal.returns
returns c =
    let all = ap (λ (p : Placed). p.view.parts) c.seat.view_is ∙ c.requires.parts ∙ sym (ap (λ (d : Opened). d.about.parts) c.self.view_is) in
    let words = closes c.self.inside.table.shared.key c.seat.inside.seat.id c.seat.inside.seat.me.0 _ _ all c.close_with-closed.ensures.values.2 in
    some-injective c.word-word.result (least c.self.inside.table.shared.key.number c.seat.inside.seat.me.0.posted) (sym c.word-word.ensures ∙ ap (λ (ws : List ℕ). get_elem? ws 0) words)
    ∙ (λ i. least (c.self.view_is i).about.number (c.seat.view_is i).view.posted)
