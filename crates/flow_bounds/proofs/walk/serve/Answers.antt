use Rattle.std.proofs.Common.{◌≡◌, ◌+◌, ◌≤◌, All, arith, ap, ◌∙◌, slice_index_or}
use Rattle.std.proofs.lemmas.List.{get_or_default}
use Rattle.lock_model.specs.Fleet.{ship_at, chamber_at, no_chamber}
use Rattle.lock_rules.specs.Lawful.{stand_after}
use Rattle.lock_rules.proofs.TimetableLemmas.{start_of-lawful}
use Rattle.flow_bounds.specs.Walk.{serve, flow_until, end_with}
use Rattle.flow_bounds.proofs.LoadLemmas.{end-load, flow-load}
use Rattle.flow_bounds.proofs.walk.serve.Goals as goal

pub returns-clause-value : goal.returns-clause-value
returns-clause-value c = λ g is.
    let I = c.args.instance.now in
    let ch = c.args.chamber in
    let w = c.args.walk in
    let load = c.args.load.now in
    let lock : c.index-as_slice-chamber.result ≡ chamber_at I ch =
    c.index-as_slice-chamber.is
    ∙ ap (λ xs. slice_index_or xs ch c.index-as_slice-chamber.result) c.as_slice.ensures.value
    ∙ get_or_default I.chambers ch c.index-as_slice-chamber.result no_chamber c.requires.chamber_in in
    let end : c.end_with-end.result ≡ (serve I ch w g).done = c.end_with-end.ensures.value ∙ ap (λ lock. end_with lock w load) lock ∙ end-load I ch w g load is in
    let early = (start_of-lawful I ch c.requires.chamber_in w.stand w.done g).arrived in
    let arrived : All (λ s. (ship_at I s).arrival ≤ c.end_with-end.result) g.ships = λ k d here. omega (arith, early k d here, end) in
    let flow : c.flow_until.result ≡ flow_until I (serve I ch w g).done g.ships = c.flow_until.ensures.value ∙ flow-load I c.end_with-end.result g load is arrived ∙ ap (λ e. flow_until I e g.ships) end in
    let stand : c.stand_after.result ≡ stand_after g.way = c.stand_after.ensures ∙ ap stand_after is.way in
    λ i. record { stand = stand i; done = end i; flow = w.flow + flow i }
