use Rattle.std.proofs.Common.{ℕ, Contains, subst, slice_index_or}
use Rattle.std.proofs.lemmas.Result.{on_ok_weaker}
use Rattle.price_groups.specs.Asked.{line_asked}
use Rattle.sweep_labels.specs.declared.arrivals.Coming.{Coming}
use Rattle.sweep_arcs.proofs.ArrivalLemmas.{awaited-more, own-arrival, put-kept, put-own}
use Rattle.sweep_arcs.proofs.arrivals.put_awaited.Goals as goal

pub returns : goal.returns
returns c =
    let case = c.args.case.now in
    let ship = c.args.ship in
    let old = c.args.coming.now.items in
    let new = c.append.new.list.items in
    let d = c.index-as_slice-ship.result in
    let own = slice_index_or c.as_slice.result.now ship d in
    let arrival = own-arrival case.instance.now c.as_slice.result.now ship d c.as_slice.ensures.value c.requires.known in
    let at : ℕ → Coming = λ arrival. record { ship = ship; arrival = arrival } in
    on_ok_weaker c.append.result (λ pushed.
    awaited-more (line_asked case) c.args.way ship old new c.requires.before (put-kept old new (at own.arrival) pushed) (λ is. subst (λ arrival. Contains new (at arrival)) arrival (put-own old new (at own.arrival) pushed))) c.append.ensures
