use Rattle.std.proofs.Common.{subst}
use Rattle.book_rules.specs.Cheap.{opening_cost}
use Rattle.book_rules.specs.Ends.{EndsWell}
use Rattle.solve_workers.specs.Showing.{IsOnlyShown}
use Rattle.solve_workers.proofs.ShowingLemmas.{shown_within}
use Rattle.solve_workers.proofs.hardness.driven.Goals as goal

pub returns-clause-well : goal.returns-clause-well
returns-clause-well g c =
    shown_within (opening_cost c.in_ok-book.book.value) c.args.cost c.finish.new.book c.show_root.new.book c.in_ok-book.ensures.ready.opening
    (subst (λ b. IsOnlyShown b c.show_root.new.book) c.deref_mut-2.ensures.value c.show_root.ensures)
    (subst (λ b. EndsWell (opening_cost b) c.finish.new.book) c.deref_mut.ensures.value c.in_ok-finish.ensures.ends)
