use Rattle.std.proofs.Common.{◌≡◌, ◌-◌, map, filter, min, ap, ◌∙◌}
use Rattle.lock_rules.specs.Bound.{least_number}
use Rattle.book_rules.specs.Book.{Book, Slot, slot_low, best_cost, is_live}
use Rattle.book_core.specs.Summing.{live_lows}
use Rattle.book_core.proofs.SummingLemmas.{live-stored}
use Rattle.book_core.proofs.book.Book.low.Goals as goal

pub returns : goal.returns
returns c =
    let a = c.self.inside in
    let b = c.args.self.now in
    let least : c.low.result ≡ least_number (map slot_low (filter (λ (s : Slot). is_live s.state) b.slots)) =
    c.low.ensures ∙ ap (λ l. least_number (live_lows l)) c.deref.ensures.value ∙ ap least_number (live-stored a.case.instance a.slots.items)
    ∙ ap (λ (u : Book). least_number (map slot_low (filter (λ (s : Slot). is_live s.state) u.slots))) c.self.view_is in
    let below : c.saturating_sub.result ≡ best_cost b - 1 = c.saturating_sub.ensures ∙ ap (λ n. n - 1) c.best_cost.ensures in
    c.min.ensures ∙ (λ i. min (least i) (below i))
