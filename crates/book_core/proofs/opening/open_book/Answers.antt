use Rattle.std.proofs.Common.{◌≡◌, [], ◌∷◌, ◌++◌, length, count_by, refl, sym, ap, ◌∙◌, subst, arith, nat_le, replicate, false, None}
use Rattle.lock_model.specs.declared.limits.TheConstants.{WORKERS_AND_DRIVER}
use Rattle.lock_rules.specs.Plan.{cost_of}
use Rattle.lock_rules.specs.Throughput.{throughput_of}
use Rattle.book_rules.specs.Book.{Case, bound_at, opening_book, new_slot}
use Rattle.book_rules.specs.History.{is_show_low}
use Rattle.lock_rules.specs.Node.{root}
use Rattle.flow_bounds.specs.Roster.{IsRosterOf}
use Rattle.book_core.specs.Case.{IsCase}
use Rattle.book_core.specs.Growing.{stored_root}
use Rattle.book_core.specs.Keeps.{IsSound, AreTables}
use Rattle.book_core.specs.Stored.{slots_of}
use Rattle.book_core.proofs.SoundLemmas.{opening-sound}
use Rattle.book_core.proofs.PathLemmas.{path-new}
use Rattle.book_core.proofs.OpeningLemmas.{opening-tables, opening-nodes}
use Rattle.book_core.proofs.opening.open_book.Goals as goal

pub invariant_of-result : goal.invariant_of-result
invariant_of-result c =
    let case = c.args.case.now in
    let plan = c.args.plan in
    let cost = c.cost_of_legal-best_cost.result in
    let stored : c.push_reserved.new.self.items ≡ stored_root case.instance (cost_of case.instance plan) ∷ [] =
    c.push_reserved.ensures.items ∙ (λ i. c.in_ok-slots.ensures.items i ++ c.stored_root.ensures i ∷ [])
    ∙ ap (λ n. stored_root c.case.inside.instance n ∷ []) c.cost_of_legal-best_cost.ensures
    ∙ ap (λ (k : Case). stored_root k.instance (cost_of k.instance plan) ∷ []) c.case.view_is in
    let first = new_slot case.instance (cost_of case.instance plan) 0 0 root in
    let slots : slots_of c.copy.result.instance c.push_reserved.new.self.items ≡ first ∷ [] = (λ i. slots_of (c.copy.ensures i).instance (stored i)) in
    let cost_is : cost ≡ cost_of case.instance plan = c.cost_of_legal-best_cost.ensures ∙ ap (λ (k : Case). cost_of k.instance plan) c.case.view_is in
    let same : record {
      case = c.copy.result;
      opening = c.copy-2.result;
      slots = slots_of c.copy.result.instance c.push_reserved.new.self.items;
      cuts = c.new.result;
      prices = c.new-2.result.items;
      plans = c.new-3.result.items;
      best = plan;
      used = 0;
      ended = replicate WORKERS_AND_DRIVER false;
      history = c.in_ok-history.history.items;
    } ≡ opening_book case plan =
    (λ i. record {
      case = c.copy.ensures i;
      opening = c.copy-2.ensures i;
      slots = slots i;
      cuts = c.new.ensures i;
      prices = c.new-2.ensures.items i;
      plans = c.new-3.ensures.items i;
      best = plan;
      used = 0;
      ended = replicate WORKERS_AND_DRIVER false;
      history = c.in_ok-history.ensures.items i;
    }) in
    let good : IsCase case = subst IsCase c.case.view_is c.case.invariant in
    record {
      sound = subst IsSound (sym same) (opening-sound case plan good c.requires);
      tables = subst (λ b. AreTables (slots_of c.copy.result.instance c.push_reserved.new.self.items) (replicate WORKERS_AND_DRIVER false) (replicate WORKERS_AND_DRIVER None) b c.new-5.result.items) (sym c.new-4.ensures)
          (subst (AreTables (slots_of c.copy.result.instance c.push_reserved.new.self.items) (replicate WORKERS_AND_DRIVER false) (replicate WORKERS_AND_DRIVER None) []) (sym c.new-5.ensures.items)
          (subst (λ l. AreTables l (replicate WORKERS_AND_DRIVER false) (replicate WORKERS_AND_DRIVER None) [] []) (sym slots) (opening-tables first (nat_le (cost_of case.instance plan) (bound_at case.instance root)) refl)));
      nodes = opening-nodes c.copy.result.instance (slots_of c.copy.result.instance c.push_reserved.new.self.items);
      path = path-new c.copy.result.instance (slots_of c.copy.result.instance c.push_reserved.new.self.items) c.in_ok-path.path c.in_ok-path.ensures.nodes c.in_ok-path.ensures.room;
      roster_is = subst (λ I. IsRosterOf I c.of.result) (ap (λ (k : Case). k.instance) (c.case.view_is ∙ sym c.copy.ensures)) c.of.ensures;
      costs = record {
        best_is = cost_is ∙ ap (λ (k : Case). cost_of k.instance plan) (sym c.copy.ensures);
        opening_is = cost_is ∙ (λ i. cost_of (sym c.copy.ensures i).instance (sym c.copy-2.ensures i));
        throughput_is = c.throughput.ensures.value ∙ ap (λ (k : Case). throughput_of k.instance) (c.case.view_is ∙ sym c.copy.ensures);
      };
      lows = record { count = sym (ap (count_by is_show_low) c.in_ok-history.ensures.items) };
      room = record { enough = omega (arith, c.in_ok-history.ensures.exact, ap length c.new.ensures, ap length c.new-2.ensures.items, ap length c.new-3.ensures.items, ap (λ (k : Case). k.nodes) c.case.view_is, ap (λ (k : Case). k.nodes) c.copy.ensures) };
    }
